use Rattle.std.proofs.Common.{Some, sym, ◌∙◌}
use Rattle.definability.specs.Store.{store_of}
use Rattle.definability.specs.declared.frames.Sides.{Sides}
use Rattle.definability.proofs.FrameSteps.{following_group, opened_following}
use Rattle.definability.proofs.RoomSteps.{free_at}
use Rattle.definability.proofs.StoreSteps.{set_here}
use Rattle.definability.proofs.definability.Definability.open_frame.Goals as goal

pub returns-in_err-second-clause-following : goal.returns-in_err-second-clause-following
returns-in_err-second-clause-following g c = λ all numbered f h.
    following_group all numbered (store_of c.args.self.now) c.args.log.now c.group-2.new.log _ h.store
    c.in_ok-first.ensures.unnamed (c.in_err-second.ensures.err ∙ c.in_ok-first.ensures.ok)

pub returns-clause-following : goal.returns-clause-following
returns-clause-following g c = λ all numbered f h.
    let log = c.args.log.now in
    let sides : Sides = record { first = c.in_ok-first.first; second = c.in_ok-second.second } in
    opened_following all numbered (store_of c.args.self.now) log c.group.new.log h.store
    (g.met.O.Oracle.searched c.args.oracle.now log c.requires.fit).logged c.args.frame
    (free_at c.args.self.now.frames.items c.args.frame c.requires.frame c.index.result.now c.index.ensures
    (sym c.is_some.ensures ∙ c.if-is_some.false))
    sides c.in_ok-first.ensures.made.positive c.in_ok-second.ensures.made.positive c.in_ok-first.ensures.unnamed
    c.in_ok-first.ensures.ok c.in_ok-second.ensures.unnamed c.group-2.new.log c.in_ok-second.ensures.ok

pub returns-clause-opened : goal.returns-clause-opened
returns-clause-opened g c =
    let sides : Sides = record { first = c.in_ok-first.first; second = c.in_ok-second.second } in
    (sides, set_here c.args.self.now.frames.items c.args.frame (Some sides) c.requires.frame)
