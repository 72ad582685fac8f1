use Rattle.std.proofs.Common.{◌≡◌, length}
use Rattle.lifted_proofs.specs.UnitTables.{TellUnits}
use Rattle.lifted_proofs.proofs.units.units_on.Given as goal

abbrev pub invariant-loop-j : goal.invariant-loop-j
invariant-loop-j l =
    (length l.on.items ≡ length l.f.existentials) × TellUnits l.f l.units l.j l.on.items
