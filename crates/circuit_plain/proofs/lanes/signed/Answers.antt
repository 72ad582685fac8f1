use Rattle.std.proofs.Common.{◌∙◌, ◌%◌, ◌*◌, replicate, bit_xor}
use Rattle.std.proofs.lemmas.Simd.{length-zip2}
use Rattle.circuit_plain.proofs.LaneLaws.{signed_bits}
use Rattle.circuit_plain.proofs.lanes.signed.Goals as goal

pub returns-clause-four : goal.returns-clause-four
returns-clause-four c =
    length-zip2 bit_xor c.args.x (replicate 4 (c.args.literal % 2 * 18446744073709551615)) c.requires ∙ c.requires

pub returns-clause-bits : goal.returns-clause-bits
returns-clause-bits c l b below b_below = signed_bits c.args.x c.args.literal l b c.requires below b_below
