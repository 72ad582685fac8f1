use Rattle.std.proofs.Common.{◌≡◌, ℕ, ◌<◌, Bool, false, List, length}
use Rattle.dq_lits.specs.Row.{bit_of}
use Rattle.aig_graph.proofs.supports.clear.Given as goal

pub record AreCleared (old marks : List Bool) (count : ℕ) : Type 0 where
  pub none : (p : ℕ) → p < count → bit_of marks p ≡ false
  pub same_length : length marks ≡ length old

abbrev pub invariant-loop-p : goal.invariant-loop-p
invariant-loop-p l = AreCleared l.fn.marks l.marks l.p
