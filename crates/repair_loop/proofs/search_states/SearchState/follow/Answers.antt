use Rattle.std.proofs.Common.{◌≡◌, ◌∙◌, refl, ap, sym, subst, map, arith}
use Rattle.dq_session.specs.declared.live.Live.{Live}
use Rattle.dq_session.specs.Databases.{all_of, frames_of, live_of}
use Rattle.definability.specs.Following.{IsLiveFormula}
use Rattle.repair_loop.proofs.FollowedCopies.{copies_left, copies_search}
use Rattle.repair_loop.proofs.LiveDatabases.{live_formula_is}
use Rattle.list_laws.proofs.Results.{on_ok}
use Rattle.repair_loop.proofs.search_states.SearchState.follow.Goals as goal

pub set_live-requires-clause-store : goal.set_live-requires-clause-store
set_live-requires-clause-store g c = search (arith, live_formula_is)

pub returns-clause-left : goal.returns-clause-left
returns-clause-left g c =
    let b = c.args.database.now in
    let (graph, before) = c.requires.search in
    let way = before.here.way in
    let live : c.deref.result.now ≡ live_of b = c.deref.ensures.value ∙ c.requires.begun in
    let frames : c.deref-2.result.now ≡ map (λ (l : Live). l.frame) b.live =
    c.deref-2.ensures.value ∙ c.in_ok-frames.ensures ∙ ap (map (λ (l : Live). l.frame)) c.live.ensures in
    let formula = subst (IsLiveFormula (all_of b) (frames_of b) c.args.f.now c.deref.result.now) (sym frames)
    (subst (λ ns. IsLiveFormula (all_of b) (frames_of b) c.args.f.now ns (map (λ (l : Live). l.frame) b.live)) (sym live)
    (live_formula_is b c.args.log.now.entries way.database c.args.f.now way.now_is)) in
    copies_left c.engines_leave_sessions.ensures c.engines_leave_databases.ensures c.checkers_stay.ensures c.args.f.now graph b
    c.args.self.now.checker c.args.self.now.definability c.set_live.new.self c.args.log.now c.set_live.new.log before
    (c.set_live.ensures.grew (all_of b) (frames_of b) way.stored formula)
    (c.set_live.ensures.store (all_of b) (frames_of b) way.stored formula) c.set_live.ensures.fresh

pub returns-clause-search : goal.returns-clause-search
returns-clause-search g c graph before =
    let b = c.args.database.now in
    let way = before.here.way in
    let live : c.deref.result.now ≡ live_of b = c.deref.ensures.value ∙ c.requires.begun in
    let frames : c.deref-2.result.now ≡ map (λ (l : Live). l.frame) b.live =
    c.deref-2.ensures.value ∙ c.in_ok-frames.ensures ∙ ap (map (λ (l : Live). l.frame)) c.live.ensures in
    let formula = subst (IsLiveFormula (all_of b) (frames_of b) c.args.f.now c.deref.result.now) (sym frames)
    (subst (λ ns. IsLiveFormula (all_of b) (frames_of b) c.args.f.now ns (map (λ (l : Live). l.frame) b.live)) (sym live)
    (live_formula_is b c.args.log.now.entries way.database c.args.f.now way.now_is)) in
    let p = c.set_live.new.self in
    on_ok c.set_live.result (λ copied. copies_search c.engines_leave_sessions.ensures c.engines_leave_databases.ensures c.checkers_stay.ensures
    c.args.f.now graph b c.args.self.now.checker c.args.self.now.definability p c.args.log.now c.set_live.new.log before
    (c.set_live.ensures.grew (all_of b) (frames_of b) way.stored formula)
    (c.set_live.ensures.store (all_of b) (frames_of b) way.stored formula) c.set_live.ensures.fresh copied graph refl) c.set_live.ensures.ready
