use Rattle.std.proofs.Common.{◌≡◌, length, ap, arith}
use Rattle.std.proofs.lemmas.List.{length-map}
use Rattle.dq_text.specs.Line.{line_tokens}
use Rattle.dq_text.specs.Written.{number_text}
use Rattle.cert_text.proofs.SignsTaken.{signs_read}
use Rattle.cert_text.proofs.SignWords.{sign_at}
use Rattle.cert_text.proofs.row_lines.take_signs.Goals as goal

pub loop-i-preserved : goal.loop-i-preserved
loop-i-preserved c = search (arith, sign_at)

pub returns : goal.returns
returns c holds =
    let us = c.args.universals.variables.now in
    let all : length us ≡ c.loop-i.i =
    omega (
      arith,
      c.loop-i-test.false,
      c.loop-i.auto.i-end,
      c.len-i-end.ensures,
      ap length c.requires.words,
      length-map us number_text,
    ) in
    signs_read us (line_tokens c.args.signs.now) (line_tokens c.loop-i.rest.now) c.loop-i.row c.loop-i.i all
    c.loop-i.invariant (rw c.new.ensures at (c.ends_row.ensures holds))
