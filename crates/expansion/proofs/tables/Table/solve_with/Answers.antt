use Rattle.std.proofs.Common.{◌∙◌, ap, subst, Ok, refl, false, ◌≢◌, sym, arith}
use Rattle.std.specs.List.{AllPairs}
use Rattle.dq_lits.proofs.Followers.{existentials_once}
use Rattle.expansion.proofs.TableAnswers.{learned_grew, refuted_grew, table_searched, full_searched, table_shown, assumed_are}
use Rattle.expansion.proofs.Told.{table_told}
use Rattle.expansion.proofs.tables.Table.solve_with.Goals as goal

pub points-requires-clause-distinct : goal.points-requires-clause-distinct
points-requires-clause-distinct g c =
    let f = c.requires.table.0 in
    let full = c.requires.table.1 in
    subst (AllPairs (λ v w. v ≢ w)) (sym full.table.existentials)
    (existentials_once f.universals f.existentials full.formula.prefix.declared_once)

pub points-requires-clause-made : goal.points-requires-clause-made
points-requires-clause-made g c =
    let f = c.requires.table.0 in
    let grew = (c.solve.ensures.sat (c.in_ok-id.was ∙ ap Ok c.in-Sat.is)).0 in
    let table = table_searched false f c.args.self.now c.args.log.now c.solve.new.log
    (learned_grew false c.args.log.now c.solve.new.log grew) c.requires.table.1.table in
    table_told f c.args.self.now c.solve.new.log.entries (g.met.O.Oracle.searched c.solve.new.self c.solve.new.log
    c.solve.ensures.fit).logged table
    (g.O.Oracle.HasVariable c.solve.new.self) (λ v named. g.met.O.Oracle.made c.solve.new.self c.solve.new.log v
    c.solve.ensures.fit named)

pub returns-in_err-id-clause-grew : goal.returns-in_err-id-clause-grew
returns-in_err-id-clause-grew g c = search (arith, learned_grew)

pub returns-in_err-id-clause-table : goal.returns-in_err-id-clause-table
returns-in_err-id-clause-table g c f full =
    full_searched false f c.args.self.now c.args.log.now c.solve.new.log
    (learned_grew false c.args.log.now c.solve.new.log c.in_err-id.ensures.stop) full

pub returns-in_err-points-in-Sat-clause-grew : goal.returns-in_err-points-in-Sat-clause-grew
returns-in_err-points-in-Sat-clause-grew g c = search (arith, learned_grew)

pub returns-in_err-points-in-Sat-clause-table : goal.returns-in_err-points-in-Sat-clause-table
returns-in_err-points-in-Sat-clause-table g c f full =
    search (
      arith,
      (full_searched false f c.args.self.now c.args.log.now c.solve.new.log),
      (learned_grew false c.args.log.now c.solve.new.log),
    )

pub returns-in-Unsat-clause-grew : goal.returns-in-Unsat-clause-grew
returns-in-Unsat-clause-grew g c =
    refuted_grew false refl _ c.args.log.now c.solve.new.log c.in-Unsat.id
    (c.solve.ensures.unsat c.in-Unsat.id (c.in_ok-id.was ∙ ap Ok c.in-Unsat.is))

pub returns-in-Unsat-clause-table : goal.returns-in-Unsat-clause-table
returns-in-Unsat-clause-table g c f full =
    full_searched false f c.args.self.now c.args.log.now c.solve.new.log
    (refuted_grew false refl _ c.args.log.now c.solve.new.log c.in-Unsat.id
    (c.solve.ensures.unsat c.in-Unsat.id (c.in_ok-id.was ∙ ap Ok c.in-Unsat.is))) full

pub returns-in-Unsat-clause-shown : goal.returns-in-Unsat-clause-shown
returns-in-Unsat-clause-shown g c id e =
    search (
      arith,
      (assumed_are c.args.self.now c.deref-2.result.now c.in_ok-active.active.items c.args.more.now c.deref-2.ensures.value c.in_ok-active.ensures.switches),
      (table_shown c.requires.table.0 c.args.self.now c.args.more.now c.args.log.now c.solve.new.log id c.requires.table.1 c.requires.made (g.met.O.Oracle.searched c.solve.new.self c.solve.new.log c.solve.ensures.fit)),
    )

pub returns-clause-grew : goal.returns-clause-grew
returns-clause-grew g c = search (arith, learned_grew)

pub returns-clause-table : goal.returns-clause-table
returns-clause-table g c f full =
    search (
      arith,
      (full_searched false f c.args.self.now c.args.log.now c.solve.new.log),
      (learned_grew false c.args.log.now c.solve.new.log),
    )
