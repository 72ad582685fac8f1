use Rattle.std.proofs.Common.{arith}
use Rattle.skolem_checker.proofs.CopySteps.{gate_unlearnt, gate_learnt}
use Rattle.skolem_checker.proofs.renumbering.learn_gates.Goals as goal

pub push-requires : goal.push-requires
push-requires c = search (arith, gate_unlearnt)

pub loop-i-preserved : goal.loop-i-preserved
loop-i-preserved c = search (arith, gate_learnt)
