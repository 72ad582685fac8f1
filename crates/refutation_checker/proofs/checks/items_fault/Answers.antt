use Rattle.rup_core.specs.ProofVerdict.{proof_fault_in}
use Rattle.refutation_checker.proofs.JudgedItems.{has_fault}
use Rattle.refutation_checker.proofs.checks.items_fault.Goals as goal

pub returns : goal.returns
returns c =
    has_fault c.args.f.now c.args.rows.now c.judge_all.new.proving c.args.items.now (proof_fault_in c.fault.result)
    c.in_ok-judge_all.ensures (c.fault.ensures c.args.f.now c.args.rows.now)
