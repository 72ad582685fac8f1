use Rattle.std.proofs.Common.{◌≡◌, ◌≢◌, ℕ, ◌<◌, true, length}
use Rattle.std.specs.Prelude.{slice_index, Contains}
use Rattle.circuit_plain.specs.Words.{marked}
use Rattle.skolem_checker.specs.Reads.{AreSameAt}
use Rattle.skolem_checker.proofs.sights.list.Given as goal

abbrev pub invariant-loop-x : goal.invariant-loop-x
invariant-loop-x l = record {
  same_length : length l.listed ≡ length l.fn.listed;
  lists : (q : ℕ) → q < length l.f.universals → marked l.listed l.i q ≡ true →
      Contains l.universals (slice_index l.f.universals q);
  others : (j : ℕ) → j ≢ l.i → AreSameAt l.fn.listed l.listed j;
}
