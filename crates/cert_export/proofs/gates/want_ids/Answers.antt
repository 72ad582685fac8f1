use Rattle.std.proofs.Common.{slice_index}
use Rattle.std.proofs.lemmas.List.{get_or_default}
use Rattle.cert_export.specs.Needed.{IsIdWanted}
use Rattle.cert_export.proofs.NeededGates.{one_added, all_added, id_stays}
use Rattle.cert_export.proofs.gates.want_ids.Goals as goal

pub loop-id-preserved : goal.loop-id-preserved
loop-id-preserved c =
    let entries = c.args.log.now.entries in
    let ids = c.args.ids.now in
    let i = c.loop-id.id-index in
    let id = slice_index ids i in
    one_added entries (IsIdWanted entries) (id_stays entries) ids c.args.pending.now c.loop-id.pending
    c.want_id.new.pending i id c.loop-id-test.true (get_or_default ids i 0 id c.loop-id-test.true)
    c.loop-id.invariant c.in_ok-want_id.ensures.grew c.in_ok-want_id.ensures.there

pub returns-clause-there : goal.returns-clause-there
returns-clause-there c =
    let entries = c.args.log.now.entries in
    all_added entries (IsIdWanted entries) c.args.ids.now c.args.pending.now c.loop-id.pending c.loop-id.id-index
    c.loop-id-test.false c.loop-id.invariant
