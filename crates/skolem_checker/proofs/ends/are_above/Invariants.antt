use Rattle.std.proofs.Common.{ℕ, ◌<◌}
use Rattle.std.specs.Prelude.{slice_index}
use Rattle.skolem_checker.specs.Cones.{circuit_variable}
use Rattle.skolem_checker.proofs.ends.are_above.Given as goal

abbrev pub invariant-loop-q : goal.invariant-loop-q
invariant-loop-q l =
    (q : ℕ) → q < l.q → q < slice_index l.ends (circuit_variable l.literals (slice_index l.f.universals q))
