use Rattle.std.proofs.Common.{◌≡◌, ℕ, ◌<◌, true, false}
use Rattle.std.specs.Prelude.{slice_index}
use Rattle.circuit_plain.specs.Words.{marked}
use Rattle.skolem_checker.specs.Reads.{has_bit, IsAllowed}
use Rattle.skolem_checker.specs.Tables.{ReadsByMarks}
use Rattle.skolem_checker.proofs.sights.are_allowed.Given as goal

abbrev pub invariant-loop-q : goal.invariant-loop-q
invariant-loop-q l = record {
  no_stop : (i : ℕ) → i < 64 → has_bit l.open i ≡ true → (m : ℕ) → m < l.q → marked l.stops i m ≡ false;
  allowed : (i k : ℕ) → i < 64 → k < l.q → ReadsByMarks (marked l.reached i) l.literals 0 (slice_index l.f.universals k)
      → IsAllowed l.listed l.stops i k;
}
