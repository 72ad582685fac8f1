use Rattle.std.proofs.Common.{◌==◌, sym, ◌∙◌, ap, w64}
use Rattle.std.proofs.lemmas.Nat.Bits.{bit_at_set_same, bit_at_set_other, bit_at_clear_same, bit_at_clear_other}
use Rattle.dq_lits.proofs.rows.with_bit.Goals as goal

pub returns-then-b-clause-here : goal.returns-then-b-clause-here
returns-then-b-clause-here c = ap (λ n. n == 1) (bit_at_set_same w64 c.args.word c.args.k c.requires) ∙ sym c.if-b.true

pub returns-then-b-clause-others : goal.returns-then-b-clause-others
returns-then-b-clause-others c j below other = bit_at_set_other w64 c.args.word c.args.k c.requires j other

pub returns-else-b-clause-here : goal.returns-else-b-clause-here
returns-else-b-clause-here c = ap (λ n. n == 1) (bit_at_clear_same w64 c.args.word c.args.k c.requires)
    ∙ sym c.if-b.false

pub returns-else-b-clause-others : goal.returns-else-b-clause-others
returns-else-b-clause-others c j below other = bit_at_clear_other w64 c.args.word c.args.k c.requires j below other
