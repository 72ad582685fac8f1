use Rattle.std.proofs.Common.{false, map, sym, ◌∙◌, arith}
use Rattle.std.specs.Int.{is_positive}
use Rattle.std.proofs.lemmas.List.{ext_get_or, length-map}
use Rattle.cert_text.proofs.row_lines.signs.Goals as goal

pub returns : goal.returns
returns c =
    let ns = c.args.numbers.now in
    ext_get_or false c.loop-i.row (map is_positive ns) (c.loop-i.invariant.size ∙ sym (length-map ns is_positive))
    (λ k below. c.loop-i.invariant.written k (omega (arith, below, c.loop-i.invariant.size, c.loop-i-test.false)))
