use Rattle.std.proofs.Common.{◌≡◌, length}
use Rattle.lifted_proofs.specs.Goals.{IsPlanOf, Grows}
use Rattle.lifted_proofs.proofs.goals.Plan.settle_all.Given as goal

abbrev pub invariant-loop-q : goal.invariant-loop-q
invariant-loop-q l =
    IsPlanOf l.table l.self × Grows l.initial.self l.self × (length l.self.reasons.items ≡ l.q)
