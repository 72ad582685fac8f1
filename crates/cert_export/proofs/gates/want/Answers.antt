use Rattle.std.proofs.Common.{sym}
use Rattle.hint_log.specs.Entries.{names_of}
use Rattle.cert_export.proofs.GatePlaces.{named_so, no_gate, nothing_wanted}
use Rattle.cert_export.proofs.gates.want.Goals as goal

pub returns-else-is_gate : goal.returns-else-is_gate
returns-else-is_gate c =
    let entries = c.args.log.now.entries in
    let named = c.in-Some.ensures.some in
    let v = c.args.variable in
    let p = c.in-Some.place in
    let r = c.name_at.result in
    nothing_wanted entries v c.args.pending.now (no_gate entries v p r.1 c.every_log_is_lawful.ensures
    (named_so (names_of entries) p v named.0 r named.1 c.name_at.ensures) (sym c.if-is_gate.ensures))
