use Rattle.definability.specs.Store.{store_of}
use Rattle.definability.proofs.Activated.{active_more, open_at}
use Rattle.definability.proofs.definability.Definability.push_group.Goals as goal

pub frame_group-requires-clause-opened : goal.frame_group-requires-clause-opened
frame_group-requires-clause-opened c =
    open_at (store_of c.args.self.now) c.args.side c.args.frames.now c.args.i c.requires.place c.requires.open_frames

pub returns : goal.returns
returns c =
    let s = store_of c.args.self.now in
    let opened = open_at s c.args.side c.args.frames.now c.args.i c.requires.place c.requires.open_frames in
    active_more s c.args.side c.args.frames.now c.args.i c.args.groups.now.items c.push.new.self.items
    c.frame_group.result c.requires.place (opened.0, opened.1, c.frame_group.ensures opened.0 opened.1)
    c.in_ok-push.ensures.items
