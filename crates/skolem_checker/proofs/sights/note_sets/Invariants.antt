use Rattle.std.proofs.Common.{◌≡◌, ℕ, ◌<◌, ◌≤◌, length}
use Rattle.dq_lits.specs.Formula.{Existential}
use Rattle.skolem_checker.specs.Reads.{IsAt, IsNoted, IsUnnoted}
use Rattle.skolem_checker.proofs.sights.note_sets.Given as goal

abbrev pub invariant-loop-i : goal.invariant-loop-i
invariant-loop-i l = record {
  listed_length : length l.listed ≡ length l.fn.listed;
  stops_length : length l.stops ≡ length l.fn.stops;
  noted : (j : ℕ) (e : Existential) → j < l.i → IsAt l.f l.ys j e → IsNoted l.f l.listed l.stops j e;
  unnoted : (j : ℕ) → l.i ≤ j → IsUnnoted l.listed l.stops j;
}
