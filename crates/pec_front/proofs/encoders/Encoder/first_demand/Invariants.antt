use Rattle.std.proofs.Common.{◌≡◌, ◌+◌, ◌∷◌, map}
use Rattle.std.specs.List.{range_with_len}
use Rattle.dq_lits.specs.Literal.{positive, negative}
use Rattle.pec_front.specs.Encoding.{first_same, first_agree}
use Rattle.pec_front.proofs.encoders.Encoder.first_demand.Given as goal

abbrev pub invariant-loop-i : goal.invariant-loop-i
invariant-loop-i l =
    l.clause.items
    ≡ positive (first_agree l.self.design.now)
    ∷ map (λ i. negative (first_same l.self.design.now + i)) (range_with_len 0 l.i)
