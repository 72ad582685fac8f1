use Rattle.std.proofs.Common.{length, replicate, arith}
use Rattle.std.proofs.lemmas.Option.{get_or_from_slice_get}
use Rattle.definability.proofs.FirstStores.{by_clause, by_copies, file_receiving, given_then, can_give_still}
use Rattle.definability.proofs.definability.Definability.give_clause.Goals as goal

pub copy_variables-requires-clause-standing : goal.copy_variables-requires-clause-standing
copy_variables-requires-clause-standing g c = search (arith, replicate)

pub returns-in_err-copy_variables-clause-more : goal.returns-in_err-copy_variables-clause-more
returns-in_err-copy_variables-clause-more g c = search (arith, by_copies)

pub give_sides-requires-clause-standing : goal.give_sides-requires-clause-standing
give_sides-requires-clause-standing g c =
    let f = c.args.f.now in (
      f,
      replicate (length f.matrix) 0,
      file_receiving f c.args.self.now c.copy_variables.new.self c.args.log.now
          c.copy_variables.new.log c.args.place c.requires.open_file c.copy_variables.ensures.more c.requires.place,
    )

pub give_sides-requires-clause-prepared : goal.give_sides-requires-clause-prepared
give_sides-requires-clause-prepared g c = search (arith, can_give_still, by_copies, get_or_from_slice_get)

pub returns-clause-more : goal.returns-clause-more
returns-clause-more g c =
    let f = c.args.f.now in
    given_then f c.args.self.now c.copy_variables.new.self c.give_sides.new.self c.args.log.now
    c.copy_variables.new.log c.give_sides.new.log
    (by_copies f c.args.self.now c.copy_variables.new.self c.args.log.now c.copy_variables.new.log
    c.requires.open_file c.copy_variables.ensures.more)
    (by_clause f c.copy_variables.new.self c.give_sides.new.self _ c.copy_variables.new.log c.give_sides.new.log
    (file_receiving f c.args.self.now c.copy_variables.new.self c.args.log.now c.copy_variables.new.log c.args.place
    c.requires.open_file c.copy_variables.ensures.more c.requires.place)
    c.give_sides.ensures.following c.give_sides.ensures.same c.give_sides.ensures.long)
