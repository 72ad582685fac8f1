use Rattle.std.proofs.Common.{refl, ◌∙◌, arith}
use Rattle.std.proofs.lemmas.Option.{slice_get-get_or}
use Rattle.definability.specs.Store.{store_of}
use Rattle.definability.proofs.FollowedClauses.{all_given_at, followed, given_all, given_none, given_one, live_receiving}
use Rattle.definability.proofs.StoreSteps.{following_none}
use Rattle.definability.proofs.definability.Definability.give_live.Goals as goal
use Rattle.definability.proofs.PreservedStores.{partial}

pub loop-i-init : goal.loop-i-init
loop-i-init g c = (
  c.requires.fit,
  (λ all numbered store now. following_none all numbered (store_of c.args.self.now) c.args.log.now c.args.log.now refl
      (partial all numbered (store_of c.args.self.now) c.args.log.now.entries store)),
  given_none (store_of c.args.self.now) c.args.live.now,
  (λ given. refl),
)

pub follow-requires-clause-standing : goal.follow-requires-clause-standing
follow-requires-clause-standing g c =
    let all = c.requires.store.0 in
    let numbered = c.requires.store.1 in
    let store = c.requires.store.2 in
    let now = c.requires.store.3 in (
      all,
      numbered,
      live_receiving all numbered c.args.f.now c.args.live.now c.args.frames.now now (store_of c.args.self.now)
          (store_of c.loop-i.self) c.args.log.now c.loop-i.log store c.requires.few
          (c.loop-i.invariant.1 all numbered store now) c.loop-i.i c.loop-i-test.true,
    )

pub returns-in_err-follow-clause-following : goal.returns-in_err-follow-clause-following
returns-in_err-follow-clause-following g c = λ all numbered store now.
    followed all numbered c.args.f.now c.args.live.now c.args.frames.now now (store_of c.args.self.now)
    (store_of c.loop-i.self) (store_of c.follow.new.self) c.args.log.now c.loop-i.log c.follow.new.log store
    c.requires.few (c.loop-i.invariant.1 all numbered store now) c.loop-i.i c.loop-i-test.true
    (c.follow.ensures.following all numbered)

pub returns-in_err-follow-clause-nothing : goal.returns-in_err-follow-clause-nothing
returns-in_err-follow-clause-nothing g c = λ given.
    let x = c.loop-i.invariant.1 c.requires.store.0 c.requires.store.1 c.requires.store.2 c.requires.store.3 in
    c.follow.ensures.nothing (x.given 2 _ (all_given_at (store_of c.args.self.now) c.args.live.now c.loop-i.i
    c.loop-i-test.true given)) ∙ c.loop-i.invariant.3 given

pub loop-i-preserved : goal.loop-i-preserved
loop-i-preserved g c =
    let x = c.loop-i.invariant.1 c.requires.store.0 c.requires.store.1 c.requires.store.2 c.requires.store.3 in
    let s = store_of c.args.self.now in
    let m = store_of c.loop-i.self in
    let n = store_of c.follow.new.self in
    let f = c.args.f.now in
    let y = c.follow.ensures.following c.requires.store.0 c.requires.store.1
    (live_receiving c.requires.store.0 c.requires.store.1 f c.args.live.now c.args.frames.now c.requires.store.3 s m
    c.args.log.now c.loop-i.log c.requires.store.2 c.requires.few x c.loop-i.i c.loop-i-test.true) in (
      c.follow.ensures.fit,
      (λ all numbered store now.
          followed all numbered f c.args.live.now c.args.frames.now now s m n c.args.log.now c.loop-i.log
          c.follow.new.log store c.requires.few (c.loop-i.invariant.1 all numbered store now) c.loop-i.i
          c.loop-i-test.true (c.follow.ensures.following all numbered)),
      given_one m n c.args.live.now c.loop-i.i _ y.given
          (slice_get-get_or c.args.live.now c.loop-i.i 0 c.loop-i-test.true) c.in_ok-follow.ensures.given
          c.loop-i.invariant.2,
      (λ given.
          c.follow.ensures.nothing (x.given 2 _ (all_given_at s c.args.live.now c.loop-i.i c.loop-i-test.true given))
          ∙ c.loop-i.invariant.3 given),
    )

pub returns-clause-following : goal.returns-clause-following
returns-clause-following g c = c.loop-i.invariant.1

pub returns-clause-given : goal.returns-clause-given
returns-clause-given g c = search (arith, given_all)

pub returns-clause-nothing : goal.returns-clause-nothing
returns-clause-nothing g c = c.loop-i.invariant.3
