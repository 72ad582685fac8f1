use Rattle.std.proofs.Common.{◌==◌, sym, ◌∙◌, ap, w64, arith}
use Rattle.std.proofs.lemmas.Nat.Bits.{bit_at_set_same, bit_at_set_other}
use Rattle.candidate_functions.proofs.values.with_bit.Goals as goal

pub returns-then-is_set-clause-here : goal.returns-then-is_set-clause-here
returns-then-is_set-clause-here c =
    ap (λ n. n == 1) (bit_at_set_same w64 c.args.word c.args.b c.requires.within) ∙ sym c.if-is_set.true

pub returns-then-is_set-clause-others : goal.returns-then-is_set-clause-others
returns-then-is_set-clause-others c j other = search (arith, bit_at_set_other, w64)
