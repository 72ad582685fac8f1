use Rattle.std.proofs.Common.{◌≡◌, Some, take}
use Rattle.dq_lits.specs.Formula.{Existential, existential_of}
use Rattle.gate_definitions.specs.Stating.{AreReadable}
use Rattle.gate_definitions.proofs.literals.all_readable.Given as goal

abbrev pub invariant-loop-l : goal.invariant-loop-l
invariant-loop-l l = (e : Existential) → existential_of l.output.f.now l.output.y ≡ Some e →
    AreReadable l.output.f.now l.output.ranks.now e (take l.l-index l.lits)
