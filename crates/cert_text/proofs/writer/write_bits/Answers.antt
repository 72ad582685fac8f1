use Rattle.std.proofs.Common.{◌++◌, get_or, ◌∙◌, ap, arith}
use Rattle.cert_text.specs.Canonical.{signed_text}
use Rattle.cert_text.proofs.RowBits.{one_bit_more, no_bit_more}
use Rattle.cert_text.proofs.writer.write_bits.Goals as goal

pub loop-i-preserved : goal.loop-i-preserved
loop-i-preserved c =
    let x = get_or c.args.universals.now c.loop-i.i 0 in
    one_bit_more c.args.universals.now c.args.row.now c.loop-i.i c.loop-i.text.items c.write_signed.new.text.items _
    (omega (arith, c.loop-i-test.true, c.min-i-end.ensures, c.len.ensures))
    (omega (arith, c.loop-i-test.true, c.min-i-end.ensures, c.len.ensures))
    (c.in_ok-write_signed.ensures ∙ ap (λ bit. c.loop-i.text.items ++ signed_text bit x) c.get.ensures)
    c.loop-i.invariant

pub returns : goal.returns
returns c = no_bit_more c.args.universals.now c.args.row.now c.loop-i.i c.loop-i.text.items _
    (omega (arith, c.loop-i-test.false, c.min-i-end.ensures, c.len.ensures)) c.loop-i.invariant
