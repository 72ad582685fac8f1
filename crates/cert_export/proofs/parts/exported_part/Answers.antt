use Rattle.std.proofs.Common.{arith}
use Rattle.cert_export.proofs.ExportedParts.{groups, have_literals, exported}
use Rattle.cert_export.proofs.parts.exported_part.Goals as goal

pub fault_group-group-requires-clause-one : goal.fault_group-group-requires-clause-one
fault_group-group-requires-clause-one c = groups c.args.f.now c.args.log.now.entries c.args.id c.args.ids.now c.requires

pub fault_leaves-requires-clause-literals : goal.fault_leaves-requires-clause-literals
fault_leaves-requires-clause-literals c = search (arith, have_literals)

pub returns-clause-part : goal.returns-clause-part
returns-clause-part c =
    exported c.args.f.now c.args.log.now.entries c.args.id c.args.ids.now c.requires c.fault_group-group.result
    c.in_ok-leaves.leaves c.in_ok-gates.gates
    c.fault_group-group.ensures c.in_ok-leaves.ensures.sound c.in_ok-leaves.ensures.whole c.in_ok-gates.ensures

pub returns-clause-few : goal.returns-clause-few
returns-clause-few c = c.in_ok-gates.ensures.few

pub returns-clause-order : goal.returns-clause-order
returns-clause-order c = c.in_ok-gates.ensures.order
