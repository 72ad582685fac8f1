use Rattle.std.proofs.Common.{◌≡◌, Bool, true, false, not, get_or, refl, sym, ◌∙◌, arith}
use Rattle.std.specs.Bool.{beq}
use Rattle.dq_formula.proofs.Restrictions.{differs}
use Rattle.refutation_checker.proofs.TreeNumbers.{differ_at, agree_more}
use Rattle.refutation_checker.proofs.row_trees.first_difference.Goals as goal

pub returns-then-bit : goal.returns-then-bit
returns-then-bit c =
    differ_at c.args.f.now c.args.sees.now c.args.first.now c.args.second.now c.loop-x.x-index c.place_of-place.result
    (get_or c.args.sees.now c.loop-x.x-index 0)
    c.requires.first_length c.requires.second_length c.loop-x-test.true refl c.place_of-place.ensures.place
    (λ e. differs c.bit.result c.bit-in-loop-x.result c.if-bit.true (c.bit.ensures ∙ e ∙ sym c.bit-in-loop-x.ensures))

same : (a b : Bool) → not (beq a b) ≡ false → a ≡ b
same true true h = refl
same true false h = cc
same false true h = cc
same false false h = refl

pub loop-x-preserved : goal.loop-x-preserved
loop-x-preserved c = search (arith, agree_more)
