use Rattle.std.proofs.Common.{◌≡◌, length}
use Rattle.skolem_checker.specs.Reads.{AreRoots}
use Rattle.skolem_checker.proofs.reads.mark_roots.Given as goal

abbrev pub invariant-loop-i : goal.invariant-loop-i
invariant-loop-i l = record {
  same_length : length l.words ≡ length l.fn.words;
  roots : AreRoots l.circuit l.places l.ys l.i l.words;
}
