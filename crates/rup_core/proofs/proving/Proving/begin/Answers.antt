use Rattle.rup_core.proofs.JudgedLines.{begun}
use Rattle.rup_core.proofs.proving.Proving.begin.Goals as goal

pub returns-then-branch-clause-judged : goal.returns-then-branch-clause-judged
returns-then-branch-clause-judged c =
    begun c.args.lits.now c.assume_false.new.trail.trues c.in_ok-assume_false.field-0 c.if-branch.true
    c.in_ok-assume_false.ensures.consistent (c.in_ok-assume_false.ensures.assumed c.if-branch.true)
