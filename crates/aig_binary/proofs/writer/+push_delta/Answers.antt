use Rattle.std.proofs.Common.{◌∙◌, ◌-◌, ◌/◌, ◌++◌, ap, sym, append_assoc, arith}
use Rattle.aig_binary.specs.Written.{delta_text}
use Rattle.aig_binary.proofs.WrittenDeltas.{more_written}
use Rattle.aig_binary.proofs.writer.+push_delta.Goals as goal

pub returns : goal.returns
returns t c =
    let old = c.args.text.now.items in
    let rest = delta_text (c.args.most - 1) (c.args.delta / 128) in
    let more = more_written c.args.most c.args.delta (omega (arith, c.if-most-eq0.false))
    (omega (arith, c.if-delta-lt128.false)) in
    c.in_ok-push_delta.ensures ∙ ap (λ bytes. bytes ++ rest) c.in_ok-push-2.ensures.items
    ∙ append_assoc old _ rest ∙ ap (λ bytes. old ++ bytes) (sym more)
