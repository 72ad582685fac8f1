use Rattle.std.proofs.Common.{Some, sym, ◌∙◌, ap, arith}
use Rattle.std.proofs.lemmas.Option.{slice_get-get_or}
use Rattle.definability.proofs.MetConditions.{all_met, met_more, none_met}
use Rattle.definability.proofs.conditions.bits_of.Goals as goal

pub loop-l-init : goal.loop-l-init
loop-l-init c = search (arith, (none_met c.args.f.now c.args.lits.now c.in_ok-row.row))

pub set_bit-requires : goal.set_bit-requires
set_bit-requires c = c.loop-l.invariant.long

pub loop-l-preserved : goal.loop-l-preserved
loop-l-preserved c =
    met_more c.args.f.now c.args.lits.now c.loop-l.l-index c.l-item.result c.loop-l.row c.set_bit.new.row
    c.requires.consistent (slice_get-get_or c.args.lits.now c.loop-l.l-index c.l-item.result c.loop-l-test.true
    ∙ ap Some (sym c.l-item.is)) c.set_bit.ensures c.loop-l.invariant

pub returns : goal.returns
returns c = all_met c.args.f.now c.args.lits.now c.loop-l.l-index c.loop-l.row c.loop-l-test.false c.loop-l.invariant
