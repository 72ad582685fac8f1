use Rattle.std.proofs.Common.{◌∷◌, map, sym, ◌∙◌, ap}
use Rattle.dq_text.specs.Line.{line_tokens}
use Rattle.dq_text.specs.Number.{number_of}
use Rattle.dq_text.specs.declared.numbers.Number.TheVariants.{Int}
use Rattle.dq_text.proofs.ShortNumbers.{natural_begins, below_limit}
use Rattle.dq_text.proofs.short_numbers.without_minus.Goals as goal

pub returns : goal.returns
returns c =
    let value = c.in_ok-value.value in
    let others = c.in_ok-value.behind.now in
    natural_begins c.args.bytes.now others value c.in_ok-value.ensures
    ∙ ap (λ n. Int n ∷ map number_of (line_tokens others)) (sym
    (below_limit c.as_signed.result value c.in_ok-value.ensures.small c.as_signed.ensures))
