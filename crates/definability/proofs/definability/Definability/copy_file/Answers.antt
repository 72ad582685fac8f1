use Rattle.std.proofs.Common.{refl, length, ap, arith}
use Rattle.definability.proofs.FirstStores.{copied_nothing, file_copies, file_made, first_made, first_standing, given_long}
use Rattle.definability.proofs.definability.Definability.copy_file.Goals as goal

pub returns-in_err-who-clause-made : goal.returns-in_err-who-clause-made
returns-in_err-who-clause-made g c = copied_nothing c.args.f.now c.args.log.now c.args.log.now refl

pub returns-in_err-spare-clause-made : goal.returns-in_err-spare-clause-made
returns-in_err-spare-clause-made g c = search (arith, copied_nothing)

pub returns-in_err-make_places-clause-made : goal.returns-in_err-make_places-clause-made
returns-in_err-make_places-clause-made g c = first_made c.args.f.now c.in_ok-spare.spare c.args.log.now c.group.new.log
    c.in_ok-spare.ensures.unnamed c.in_ok-spare.ensures.ok

pub give_file-requires-clause-standing : goal.give_file-requires-clause-standing
give_file-requires-clause-standing g c = first_standing c.args.f.now c.make_places.new.self c.in_ok-spare.spare c.args.log.now c.group.new.log
    c.requires.none c.in_ok-spare.ensures.unnamed c.in_ok-spare.ensures.made c.in_ok-spare.ensures.ok
    c.in_ok-make_places.ensures c.requires.few

pub give_file-requires-clause-given : goal.give_file-requires-clause-given
give_file-requires-clause-given g c = search (arith, given_long)

pub give_file-requires-clause-frames : goal.give_file-requires-clause-frames
give_file-requires-clause-frames g c = ap length c.in_ok-make_places.ensures.frames

pub returns-in_err-give_file-clause-made : goal.returns-in_err-give_file-clause-made
returns-in_err-give_file-clause-made g c =
    search (
      arith,
      (file_made c.args.f.now c.make_places.new.self c.in_ok-spare.spare c.args.log.now c.group.new.log c.requires.none c.in_ok-spare.ensures.unnamed c.in_ok-spare.ensures.made c.in_ok-spare.ensures.ok c.in_ok-make_places.ensures c.give_file.new.self c.give_file.new.log c.give_file.ensures.following),
    )

pub activate_file-requires-clause-first : goal.activate_file-requires-clause-first
activate_file-requires-clause-first g c = search arith

pub activate_file-requires-clause-second : goal.activate_file-requires-clause-second
activate_file-requires-clause-second g c = search arith

pub returns-in_err-activate_file-clause-made : goal.returns-in_err-activate_file-clause-made
returns-in_err-activate_file-clause-made g c =
    search (
      arith,
      (file_made c.args.f.now c.make_places.new.self c.in_ok-spare.spare c.args.log.now c.group.new.log c.requires.none c.in_ok-spare.ensures.unnamed c.in_ok-spare.ensures.made c.in_ok-spare.ensures.ok c.in_ok-make_places.ensures c.give_file.new.self c.give_file.new.log c.give_file.ensures.following),
    )

pub returns-clause-made : goal.returns-clause-made
returns-clause-made g c = file_made c.args.f.now c.make_places.new.self c.in_ok-spare.spare c.args.log.now c.group.new.log
    c.requires.none c.in_ok-spare.ensures.unnamed c.in_ok-spare.ensures.made c.in_ok-spare.ensures.ok
    c.in_ok-make_places.ensures c.give_file.new.self c.give_file.new.log c.give_file.ensures.following

pub returns-clause-copies : goal.returns-clause-copies
returns-clause-copies g c = file_copies c.args.f.now c.make_places.new.self c.in_ok-spare.spare c.args.log.now c.group.new.log
    c.requires.none c.in_ok-spare.ensures.unnamed c.in_ok-spare.ensures.made c.in_ok-spare.ensures.ok
    c.in_ok-make_places.ensures c.give_file.new.self c.give_file.new.log c.give_file.ensures.following
    c.args.from c.requires.from c.in_ok-give_file.ensures.given
    c.activate_file.new.self c.in_ok-activate_file.ensures
