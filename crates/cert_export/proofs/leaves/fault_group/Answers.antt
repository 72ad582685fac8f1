use Rattle.std.proofs.Common.{arith}
use Rattle.std.proofs.lemmas.List.{get_or_default}
use Rattle.cert_export.proofs.FaultLeaves.{no_group, found_group}
use Rattle.cert_export.proofs.leaves.fault_group.Goals as goal

pub returns : goal.returns
returns c = no_group c.args.log.now.entries c.args.ids.now c.loop-id.id-index 0 c.loop-id-test.false c.loop-id.invariant

pub returns-in-Some : goal.returns-in-Some
returns-in-Some c = search (arith, found_group, get_or_default)
