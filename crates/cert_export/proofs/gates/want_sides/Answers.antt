use Rattle.std.proofs.Common.{◌∙◌, ap, subst, Some}
use Rattle.cert_export.specs.Needed.{Wants}
use Rattle.cert_export.proofs.GatePlaces.{sides_wanted}
use Rattle.cert_export.proofs.gates.want_sides.Goals as goal

pub returns-in_ok-want-2 : goal.returns-in_ok-want-2
returns-in_ok-want-2 c =
    let entries = c.args.log.now.entries in
    let v = c.name_at-name.result.0 in
    let mid = c.want.new.pending in
    let new = c.want-in-And.new.pending in
    sides_wanted entries c.args.place v c.in-And.left c.in-And.right c.args.pending.now mid new
    c.every_log_is_lawful.ensures (c.name_at-name.ensures ∙ ap (λ n. Some (v, n)) c.in-And.is)
    (subst (λ w. Wants entries w c.args.pending.now mid) c.var.ensures.value c.in_ok-want.ensures)
    (subst (λ w. Wants entries w mid new) c.var-in-And.ensures.value c.in_ok-want-2.ensures)
