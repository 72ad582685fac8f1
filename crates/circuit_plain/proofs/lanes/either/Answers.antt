use Rattle.std.proofs.Common.{◌∙◌, sym, bit_or}
use Rattle.std.proofs.lemmas.Simd.{length-zip2}
use Rattle.circuit_plain.proofs.LaneLaws.{either_bits}
use Rattle.circuit_plain.proofs.lanes.either.Goals as goal

pub returns-clause-four : goal.returns-clause-four
returns-clause-four c = length-zip2 bit_or c.args.x c.args.y (c.requires.x_four ∙ sym c.requires.y_four)
    ∙ c.requires.x_four

pub returns-clause-bits : goal.returns-clause-bits
returns-clause-bits c l b below = either_bits c.args.x c.args.y l b c.requires.x_four c.requires.y_four below
