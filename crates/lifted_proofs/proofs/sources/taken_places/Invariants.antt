use Rattle.std.proofs.Common.{◌≡◌, length}
use Rattle.lifted_proofs.specs.Sources.{TellTaken}
use Rattle.lifted_proofs.proofs.sources.taken_places.Given as goal

abbrev pub invariant-loop-j : goal.invariant-loop-j
invariant-loop-j l =
    (length l.taken.items ≡ length l.table.formula.now.matrix) × TellTaken l.table.units.now l.j l.taken.items
