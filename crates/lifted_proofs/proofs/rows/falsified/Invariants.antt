use Rattle.std.proofs.Common.{◌≡◌, length, take}
use Rattle.lifted_proofs.specs.FalsifiedRows.{IsFalsified}
use Rattle.lifted_proofs.proofs.rows.falsified.Given as goal

abbrev pub invariant-loop-l : goal.invariant-loop-l
invariant-loop-l l =
    (length l.low ≡ length l.f.universals) × IsFalsified l.f l.row (take l.l-index l.clause) l.low
