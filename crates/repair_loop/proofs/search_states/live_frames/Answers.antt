use Rattle.std.proofs.Common.{◌∷◌, ◌++◌, [], map, get_or, ◌∙◌, ap, arith}
use Rattle.std.proofs.lemmas.List.{take_all}
use Rattle.std.proofs.lemmas.Option.{slice_get-get_or}
use Rattle.dq_session.specs.declared.live.Live.{Live}
use Rattle.repair_loop.proofs.Beginnings.{mapped_more}
use Rattle.repair_loop.proofs.search_states.live_frames.Goals as goal

pub loop-l-preserved : goal.loop-l-preserved
loop-l-preserved c =
    let i = c.loop-l.l-index in
    let none : Live = record { clause = 0; frame = 0 } in
    let x = get_or c.args.live.now i none in
    c.in_ok-push.ensures.items ∙ ap (λ ns. ns ++ x.frame ∷ []) c.loop-l.invariant
    ∙ mapped_more (λ (k : Live). k.frame) c.args.live.now i x
    (slice_get-get_or c.args.live.now i none c.loop-l-test.true)

pub returns : goal.returns
returns c =
    let test = c.loop-l-test.false in
    c.loop-l.invariant ∙ ap (map (λ (k : Live). k.frame)) (take_all c.loop-l.l-index c.args.live.now (omega (arith, test)))
