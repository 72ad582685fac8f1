use Rattle.std.proofs.Common.{◌≤◌, ◌∷◌, map, sym, ◌∙◌, arith, ap}
use Rattle.dq_text.specs.Line.{line_tokens}
use Rattle.dq_text.specs.Number.{number_of}
use Rattle.dq_text.specs.declared.numbers.Number.TheVariants.{Int}
use Rattle.dq_text.proofs.ShortNumbers.{negative_begins, above_limit}
use Rattle.dq_text.proofs.short_numbers.behind_minus.Goals as goal

pub returns : goal.returns
returns c =
    let value = c.in_ok-value.value in
    let others = c.in_ok-value.behind.now in
    let some : 1 ≤ value = omega (arith, c.if-value-eq0.false) in
    negative_begins c.args.digits.now others value some c.in_ok-value.ensures
    ∙ ap (λ n. Int n ∷ map number_of (line_tokens others)) (sym
    (above_limit c.negated.result value c.in_ok-value.ensures.small c.negated.ensures))
