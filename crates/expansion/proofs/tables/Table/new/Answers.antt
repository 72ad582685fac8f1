use Rattle.std.proofs.Common.{◌∙◌, arith}
use Rattle.dq_lits.specs.Literal.{variable_of}
use Rattle.expansion.proofs.EmptyTables.{group_grew, no_rows}
use Rattle.expansion.proofs.tables.Table.new.Goals as goal

pub returns-clause-grew : goal.returns-clause-grew
returns-clause-grew g c group = search (arith, group_grew)

pub returns-clause-made : goal.returns-clause-made
returns-clause-made g c =
    let logged = (g.met.O.Oracle.searched c.args.oracle.now c.args.log.now c.requires.fit).logged in
    let v = variable_of c.in_ok-group.group.selector in
    let t = no_rows c.args.f.now v c.in_ok-existentials.existentials.items c.in_ok-first_rows.first_rows c.args.log.now
    c.group.new.log logged c.requires.none c.in_ok-group.ensures.unnamed c.in_ok-group.ensures.ok
    (c.in_ok-existentials.ensures.items ∙ c.existentials.ensures) c.in_ok-first_rows.ensures in
    rw (c.new-2.ensures, c.new-3.ensures) t
