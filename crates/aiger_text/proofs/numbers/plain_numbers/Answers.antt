use Rattle.std.proofs.Common.{◌≡◌, ◌∷◌, [], pos, map, sym, ◌∙◌, ap, arith}
use Rattle.dq_text.specs.Line.{line_tokens}
use Rattle.dq_text.specs.Number.{number_of}
use Rattle.dq_text.specs.declared.numbers.Number.TheVariants.{Int}
use Rattle.aiger_text.specs.Lines.{three_of}
use Rattle.aiger_text.proofs.NaturalTokens.{blank_behind, numbers_from}
use Rattle.aiger_text.proofs.numbers.plain_numbers.Goals as goal

pub returns-then-is_blank : goal.returns-then-is_blank
returns-then-is_blank c =
    let a = c.in_ok-lhs.lhs in
    let b = c.in_ok-left.left in
    let d = c.in_ok-right.right in
    let end : map number_of (line_tokens c.in_ok-right.behind.now) ≡ [] =
    blank_behind c.in_ok-right.behind.now (sym c.is_blank.ensures ∙ c.if-is_blank.true) in
    let numbers : map number_of (line_tokens c.args.line.now) ≡ Int (pos a) ∷ Int (pos b) ∷ Int (pos d) ∷ [] =
    search (arith, pos) in
    ap three_of (numbers_from (line_tokens c.args.line.now) (a ∷ b ∷ d ∷ []) numbers)
