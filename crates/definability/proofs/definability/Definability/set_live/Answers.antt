use Rattle.definability.specs.Store.{store_of, copy_groups}
use Rattle.definability.proofs.FollowedClauses.{followed_store}
use Rattle.definability.proofs.StoreSteps.{live_grew}
use Rattle.definability.proofs.definability.Definability.set_live.Goals as goal

pub returns-clause-grew : goal.returns-clause-grew
returns-clause-grew g c = λ all numbered store now.
    live_grew all (copy_groups c.args.self.now) c.args.log.now c.follow_live.new.log
    (c.follow_live.ensures.following all numbered store now).grew

pub returns-clause-store : goal.returns-clause-store
returns-clause-store g c = λ all numbered store now.
    followed_store all numbered (store_of c.args.self.now) (store_of c.follow_live.new.self) c.args.log.now
    c.follow_live.new.log store (c.follow_live.ensures.following all numbered store now)

pub returns-clause-fresh : goal.returns-clause-fresh
returns-clause-fresh g c =
    let (all, numbered, store, now) = c.requires.store in
    (c.follow_live.ensures.following all numbered store now).new_groups

pub returns-clause-faults : goal.returns-clause-faults
returns-clause-faults g c =
    let (all, numbered, store, now) = c.requires.store in
    (c.follow_live.ensures.following all numbered store now).faults

pub returns-clause-room : goal.returns-clause-room
returns-clause-room g c =
    let (all, numbered, store, now) = c.requires.store in
    (c.follow_live.ensures.following all numbered store now).room
