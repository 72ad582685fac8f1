use Rattle.std.proofs.Common.{sym, subst, arith}
use Rattle.definability.specs.Following.{FollowsLive}
use Rattle.definability.specs.Store.{store_of}
use Rattle.definability.specs.declared.definability.Definability.{Definability}
use Rattle.definability.proofs.Activated.{open_live, activated_given, activated_ready, activated_following}
use Rattle.definability.proofs.FollowedClauses.{followed_store}
use Rattle.definability.proofs.definability.Definability.follow_live.Goals as goal

pub activate-requires : goal.activate-requires
activate-requires g c =
    let (all, numbered, store, now) = c.requires.store in
    open_live all numbered c.args.f.now c.args.live.now c.args.frames.now
    (store_of c.give_live.new.self) c.give_live.new.log.entries
    (followed_store all numbered (store_of c.args.self.now) (store_of c.give_live.new.self) c.args.log.now
    c.give_live.new.log store (c.give_live.ensures.following all numbered store now))
    now c.in_ok-give_live.ensures.given

pub returns-in_err-activate-clause-following : goal.returns-in_err-activate-clause-following
returns-in_err-activate-clause-following g c =
    subst (λ (p : Definability). FollowsLive c.args.f.now c.args.live.now c.args.frames.now c.args.self.now c.args.log.now p
    c.give_live.new.log) (sym c.in_err-activate.ensures.err) c.give_live.ensures.following

pub returns-clause-following : goal.returns-clause-following
returns-clause-following g c = λ all numbered store now.
    activated_following all numbered c.args.frames.now c.give_live.new.self c.activate.new.self
    c.activate.ensures.same c.in_ok-activate.ensures.first c.in_ok-activate.ensures.second
    (store_of c.args.self.now) c.args.log.now c.give_live.new.log (c.give_live.ensures.following all numbered store now)

pub returns-clause-ready : goal.returns-clause-ready
returns-clause-ready g c =
    let (all, numbered, store, now) = c.requires.store in
    activated_ready all numbered c.args.frames.now c.give_live.new.self c.activate.new.self c.activate.ensures.same
    c.in_ok-activate.ensures.first c.in_ok-activate.ensures.second c.args.f.now c.args.live.now
    c.give_live.new.log.entries
    (followed_store all numbered (store_of c.args.self.now) (store_of c.give_live.new.self) c.args.log.now
    c.give_live.new.log store (c.give_live.ensures.following all numbered store now))
    now c.in_ok-give_live.ensures.given

pub returns-clause-given : goal.returns-clause-given
returns-clause-given g c = search (arith, activated_given)
