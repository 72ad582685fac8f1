use Rattle.std.proofs.Common.{◌≡◌, ◌∷◌, [], pos, map, sym, ◌∙◌, ap}
use Rattle.dq_text.specs.Line.{line_tokens}
use Rattle.dq_text.specs.Number.{number_of}
use Rattle.dq_text.specs.declared.numbers.Number.TheVariants.{Int}
use Rattle.aiger_text.specs.Lines.{one_of}
use Rattle.aiger_text.proofs.NaturalTokens.{blank_behind, numbers_from}
use Rattle.aiger_text.proofs.numbers.plain_number.Goals as goal

pub returns-then-is_blank : goal.returns-then-is_blank
returns-then-is_blank c =
    let n = c.in_ok-n.n in
    let numbers : map number_of (line_tokens c.args.line.now) ≡ Int (pos n) ∷ [] =
    c.in_ok-n.ensures ∙ ap (λ ns. Int (pos n) ∷ ns)
    (blank_behind c.in_ok-n.behind.now (sym c.is_blank.ensures ∙ c.if-is_blank.true)) in
    ap one_of (numbers_from (line_tokens c.args.line.now) (n ∷ []) numbers)
