use Rattle.std.proofs.Common.{arith}
use Rattle.dqdimacs_reader.proofs.Keys.{if_new, if_more}
use Rattle.dqdimacs_reader.proofs.distinct.insert_into.Goals as goal

pub returns-clause-is_new : goal.returns-clause-is_new
returns-clause-is_new c =
    if_new c.insert.result c.args.literal c.args.literals.now c.args.keys.now c.key_of.result c.key_of.ensures
    c.requires.keys c.insert.ensures.added

pub returns-clause-keys : goal.returns-clause-keys
returns-clause-keys c = search (arith, if_more)
