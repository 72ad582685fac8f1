use Rattle.rup_core.proofs.FalseLiterals.{hints_go_on}
use Rattle.rup_core.proofs.derivation.line_fault.Goals as goal

pub returns-clause-fault : goal.returns-clause-fault
returns-clause-fault g c =
    let went = c.if-not-branch.false in
    hints_go_on _ (g.B.Base.clauses c.args.base.now) c.args.lits.now c.assume_false.new.trail.trues c.args.hints.now
    c.in_ok-assume_false.field-0 c.hint_fault.result
    went c.in_ok-assume_false.ensures.consistent (c.in_ok-assume_false.ensures.assumed went) c.hint_fault.ensures.fault
