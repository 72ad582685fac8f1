-- A box that reads what it drives stands in no order, and no valuation fills it with the negation.
use Rattle.std.proofs.Common.{◌≡◌, Bool, true, false, not, [], ◌∷◌, sym, arith}
use Rattle.std.proofs.lemmas.Bool.{true≢false}
use Rattle.circuit_plain.specs.Reach.{itself}
use Rattle.pec_front.specs.Boxes.{BoxesFit, StandInOrder}
use Rattle.pec_front.specs.Examples.{implementation, design, reading_itself, negation}

pub cyclic-unordered : ¬ StandInOrder implementation (reading_itself ∷ [])
cyclic-unordered ordered = ordered 0 0 reading_itself (omega arith) (omega arith) 0 0 (omega arith) 0 0 (omega arith) itself

pub cyclic-fits : BoxesFit (design reading_itself) negation
cyclic-fits bits ms mi specified implemented filled o below =
    absurd (never (mi 3) (filled 0 reading_itself (omega arith) 0 0 (omega arith)))
  where
    never : (b : Bool) → b ≡ not b → ⊥
    never true e = true≢false e
    never false e = true≢false (sym e)
