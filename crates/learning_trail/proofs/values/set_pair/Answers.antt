use Rattle.std.proofs.Common.{◌+◌, ◌*◌, refl, arith}
use Rattle.learning_trail.proofs.PairedValues.{paired_length, set_both}
use Rattle.learning_trail.proofs.values.set_pair.Goals as goal

pub overflow_mul-place : goal.overflow_mul-place
overflow_mul-place c = search (arith, paired_length)

pub index_mut-requires : goal.index_mut-requires
index_mut-requires c = search (arith, paired_length)

pub overflow_mul-place-2 : goal.overflow_mul-place-2
overflow_mul-place-2 c = search (arith, paired_length)

pub overflow_add-place : goal.overflow_add-place
overflow_add-place c = search (arith, paired_length)

pub index_mut-requires-2 : goal.index_mut-requires-2
index_mut-requires-2 c = search (arith, paired_length)

pub returns-clause-paired : goal.returns-clause-paired
returns-clause-paired c =
    (set_both c.args.values.now.items c.args.place (c.args.place * 2) (c.args.place * 2 + 1) c.args.value
    c.negated.result refl refl c.negated.ensures c.requires.paired).paired

pub returns-clause-plain : goal.returns-clause-plain
returns-clause-plain c =
    (set_both c.args.values.now.items c.args.place (c.args.place * 2) (c.args.place * 2 + 1) c.args.value
    c.negated.result refl refl c.negated.ensures c.requires.paired).is
