use Rattle.std.proofs.Common.{arith}
use Rattle.std.proofs.lemmas.Option.{get_or_from_slice_get}
use Rattle.definability.proofs.FollowedClauses.{can_receive, more_receives, received_then, room_made}
use Rattle.definability.proofs.definability.Definability.complete.Goals as goal

pub copy_variables-requires-clause-standing : goal.copy_variables-requires-clause-standing
copy_variables-requires-clause-standing g c = search arith

pub clause-requires : goal.clause-requires
clause-requires g c = c.requires.standing.2.live.within

pub returns-in_err-copy_variables-clause-following : goal.returns-in_err-copy_variables-clause-following
returns-in_err-copy_variables-clause-following g c = search (arith, more_receives)

pub returns-in_err-make_room-clause-following : goal.returns-in_err-make_room-clause-following
returns-in_err-make_room-clause-following g c =
    let f = c.args.f.now in
    let p = c.args.self.now in
    let clause = c.args.clause in
    let first = more_receives f p c.copy_variables.new.self clause c.args.log.now c.copy_variables.new.log
    c.copy_variables.ensures.more in
    let second = received_then f p c.copy_variables.new.self c.make_room.new.self clause c.args.log.now
    c.copy_variables.new.log c.copy_variables.new.log first (λ all numbered h.
    room_made all numbered c.copy_variables.new.self c.make_room.new.self c.copy_variables.new.log h.standing.store
    (g.met.O.Oracle.searched c.copy_variables.new.oracle c.copy_variables.new.log c.copy_variables.ensures.fit).logged
    c.make_room.ensures.same c.make_room.ensures.given c.make_room.ensures.frames) in
    second

pub returns-in_err-open_frame-clause-following : goal.returns-in_err-open_frame-clause-following
returns-in_err-open_frame-clause-following g c =
    let f = c.args.f.now in
    let p = c.args.self.now in
    let clause = c.args.clause in
    let first = more_receives f p c.copy_variables.new.self clause c.args.log.now c.copy_variables.new.log
    c.copy_variables.ensures.more in
    let second = received_then f p c.copy_variables.new.self c.make_room.new.self clause c.args.log.now
    c.copy_variables.new.log c.copy_variables.new.log first (λ all numbered h.
    room_made all numbered c.copy_variables.new.self c.make_room.new.self c.copy_variables.new.log h.standing.store
    (g.met.O.Oracle.searched c.copy_variables.new.oracle c.copy_variables.new.log c.copy_variables.ensures.fit).logged
    c.make_room.ensures.same c.make_room.ensures.given c.make_room.ensures.frames) in
    let third = received_then f p c.make_room.new.self c.open_frame.new.self clause c.args.log.now
    c.copy_variables.new.log c.open_frame.new.log second (λ all numbered h.
    c.open_frame.ensures.following all numbered f h.standing) in
    third

pub give_sides-requires-clause-standing : goal.give_sides-requires-clause-standing
give_sides-requires-clause-standing g c =
    let f = c.args.f.now in
    let p = c.args.self.now in
    let clause = c.args.clause in
    let first = more_receives f p c.copy_variables.new.self clause c.args.log.now c.copy_variables.new.log
    c.copy_variables.ensures.more in
    let second = received_then f p c.copy_variables.new.self c.make_room.new.self clause c.args.log.now
    c.copy_variables.new.log c.copy_variables.new.log first (λ all numbered h.
    room_made all numbered c.copy_variables.new.self c.make_room.new.self c.copy_variables.new.log h.standing.store
    (g.met.O.Oracle.searched c.copy_variables.new.oracle c.copy_variables.new.log c.copy_variables.ensures.fit).logged
    c.make_room.ensures.same c.make_room.ensures.given c.make_room.ensures.frames) in
    let third = received_then f p c.make_room.new.self c.open_frame.new.self clause c.args.log.now
    c.copy_variables.new.log c.open_frame.new.log second (λ all numbered h.
    c.open_frame.ensures.following all numbered f h.standing) in
    can_receive f p c.open_frame.new.self clause c.args.log.now c.open_frame.new.log c.requires.standing third

pub give_sides-requires-clause-prepared : goal.give_sides-requires-clause-prepared
give_sides-requires-clause-prepared g c = search (arith, get_or_from_slice_get)

pub returns-clause-following : goal.returns-clause-following
returns-clause-following g c =
    let f = c.args.f.now in
    let p = c.args.self.now in
    let clause = c.args.clause in
    let first = more_receives f p c.copy_variables.new.self clause c.args.log.now c.copy_variables.new.log
    c.copy_variables.ensures.more in
    let second = received_then f p c.copy_variables.new.self c.make_room.new.self clause c.args.log.now
    c.copy_variables.new.log c.copy_variables.new.log first (λ all numbered h.
    room_made all numbered c.copy_variables.new.self c.make_room.new.self c.copy_variables.new.log h.standing.store
    (g.met.O.Oracle.searched c.copy_variables.new.oracle c.copy_variables.new.log c.copy_variables.ensures.fit).logged
    c.make_room.ensures.same c.make_room.ensures.given c.make_room.ensures.frames) in
    let third = received_then f p c.make_room.new.self c.open_frame.new.self clause c.args.log.now
    c.copy_variables.new.log c.open_frame.new.log second (λ all numbered h.
    c.open_frame.ensures.following all numbered f h.standing) in
    received_then f p c.open_frame.new.self c.give_sides.new.self clause c.args.log.now c.open_frame.new.log
    c.give_sides.new.log third c.give_sides.ensures.following
