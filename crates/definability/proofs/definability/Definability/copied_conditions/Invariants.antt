use Rattle.std.proofs.Common.{◌≡◌, take}
use Rattle.std.specs.List.{filter}
use Rattle.dq_lits.specs.Literal.{variable_of}
use Rattle.definability.specs.Conditions.{has_copies}
use Rattle.definability.proofs.definability.Definability.copied_conditions.Given as goal

abbrev pub invariant-loop-l : goal.invariant-loop-l
invariant-loop-l l = l.kept.items ≡ filter (λ k. has_copies l.f l.self.copied.items (variable_of k)) (take l.l-index l.conditions)
