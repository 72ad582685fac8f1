use Rattle.std.proofs.Common.{◌++◌, ◌∷◌, [], ◌∙◌, ap, subst, arith}
use Rattle.log_laws.proofs.LargerLogs.{grown_then}
use Rattle.expansion.specs.Adding.{AreNewArbiters}
use Rattle.expansion.proofs.AddedRows.{begin, finish_as}
use Rattle.list_laws.proofs.Results.{on_both}
use Rattle.expansion.proofs.tables.Table.add_found.Goals as goal

pub row_pairs-requires-clause-adding : goal.row_pairs-requires-clause-adding
row_pairs-requires-clause-adding g c = begin c.args.new.now.f.now c.args.self.now c.args.new.now.row.now
    c.args.log.now.entries c.requires.table c.requires.rows c.args.new.now.long c.requires.few

pub returns-in_err-give_instances-clause-added : goal.returns-in_err-give_instances-clause-added
returns-in_err-give_instances-clause-added g c = search (arith, grown_then)

pub returns-clause-added : goal.returns-clause-added
returns-clause-added g c = search (arith, grown_then)

pub returns-clause-table : goal.returns-clause-table
returns-clause-table g c =
    let f = c.args.new.now.f.now in
    let t = c.args.self.now in
    let row = c.args.new.now.row.now in
    let entries = c.give_instances.new.log.entries in
    let variables : AreNewArbiters f t row entries c.in_ok-variables.variables.items =
    subst (AreNewArbiters f t row entries) c.deref.ensures.value c.in_ok-give_instances.ensures.variables in
    on_both c.push.result (λ rows pairs.
    finish_as f t row c.in_ok-variables.variables.items entries c.in_ok-give_instances.ensures.adding
    (g.met.O.Oracle.searched c.give_instances.new.oracle c.give_instances.new.log
    c.give_instances.ensures.fit).logged c.requires.table.first_rows variables c.push.new.self
    c.requires.formula c.push.ensures.group c.push.ensures.existentials
    (rows ∙ ap (λ r. t.rows ++ r ∷ []) c.in_ok-copy.ensures)
    (pairs ∙ ap (λ vs. t.pairs ++ vs ∷ []) c.deref-2.ensures.value) c.push.ensures.first_rows) c.push.ensures.rows c.push.ensures.pairs
