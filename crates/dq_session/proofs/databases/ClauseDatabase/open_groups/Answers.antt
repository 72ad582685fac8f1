use Rattle.std.proofs.Common.{◌≡◌, [], ◌++◌, length, get_or, slice_get, slice_index_or, None, Some, sym, ◌∙◌, ap, subst, arith}
use Rattle.std.specs.List.{filter_map, cons_option}
use Rattle.std.proofs.lemmas.List.{take_all}
use Rattle.std.proofs.lemmas.Option.{slice_get-get_or}
use Rattle.dq_session.specs.Databases.{DatabaseState}
use Rattle.dq_session.specs.declared.live.OpenFrame.{OpenFrame}
use Rattle.dq_session.proofs.Searches.{taken_more}
use Rattle.dq_session.proofs.databases.ClauseDatabase.open_groups.Goals as goal

pub push_group-requires : goal.push_group-requires
push_group-requires c = search (arith, slice_get-get_or)

pub loop-frame-preserved : goal.loop-frame-preserved
loop-frame-preserved c =
    let b = c.args.self.now in
    let i = c.loop-frame.frame-index in
    let items = c.deref-frame-items.result.now in
    let none : OpenFrame = record { number = 0; start = 0 } in
    let o = get_or items i none in
    let are = c.deref-frame-items.ensures.value ∙ ap (λ (x : DatabaseState). x.open_frames) c.self.view_is in
    let there = subst (λ xs. slice_get xs i ≡ Some o) are (slice_get-get_or items i none c.loop-frame-test.true) in
    c.in_ok-push_group.ensures
    ∙ ap (λ gs. gs ++ cons_option (slice_index_or b.groups o.number None) []) c.loop-frame.invariant
    ∙ sym (taken_more (λ (f : OpenFrame). slice_index_or b.groups f.number None) b.open_frames i o there)

pub returns : goal.returns
returns c =
    let b = c.args.self.now in
    let i = c.loop-frame.frame-index in
    let are = c.deref-frame-items.ensures.value ∙ ap (λ (x : DatabaseState). x.open_frames) c.self.view_is in
    let test = c.loop-frame-test.false in
    let long = ap length are in
    c.loop-frame.invariant
    ∙ ap (filter_map (λ (o : OpenFrame). slice_index_or b.groups o.number None))
    (take_all i b.open_frames (omega (arith, test, long)))
