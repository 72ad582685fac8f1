use Rattle.std.proofs.Common.{◌≡◌, ℕ, List, take}
use Rattle.dq_lits.specs.Literal.{Literal, positive}
use Rattle.dq_lits.specs.Derivation.{holds}
use Rattle.aig_graph.specs.declared.nodes.Node.{Node}
use Rattle.interpolants.specs.Interpolant.{stands_on}
use Rattle.interpolants.specs.Sides.{AreSelectors, AreOfSome}
use Rattle.interpolants.specs.Splits.{divided}
use Rattle.interpolants.proofs.sides.add_given.Given as goal

abbrev pub invariant-loop-at : goal.invariant-loop-at
invariant-loop-at l = (assumed : List Literal) (shared : List (ℕ × Node)) →
    AreSelectors l.answer.log.now.entries assumed l.selectors
    → ((v : ℕ) → holds l.fn.variables (positive v) ≡ stands_on assumed v) →
    AreOfSome (divided l.answer assumed shared) (take l.at-index l.answer.ids.now) l.variables
