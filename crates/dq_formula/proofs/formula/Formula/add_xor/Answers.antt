use Rattle.dq_formula.specs.Xor.{xor_clauses}
use Rattle.dq_formula.proofs.Kept.{IsKept-clauses}
use Rattle.dq_formula.proofs.XorClauses.{All-xor}
use Rattle.dq_formula.proofs.formula.Formula.add_xor.Goals as goal

pub invariant_of-self : goal.invariant_of-self
invariant_of-self c = rw c.in_err-push_xor.ensures.err c.self.invariant

pub invariant_of-self-2 : goal.invariant_of-self-2
invariant_of-self-2 c =
    let f = c.self.inside in
    let within = All-xor f.vars c.args.lits.now (rw (← c.self.view_is) at c.requires.in_range) in
    let few = rw (← c.self.view_is) at c.requires.few_clauses in
    rw c.in_ok-push_xor.ensures.ok (IsKept-clauses f.vars f.universals f.existentials f.matrix
    (xor_clauses c.args.lits.now) c.self.invariant within few)
