use Rattle.std.proofs.Common.{arith}
use Rattle.std.proofs.lemmas.Option.{slice_get-get_or}
use Rattle.candidate_functions.proofs.classes.is_class_of.Goals as goal

pub returns-then-place-classes : goal.returns-then-place-classes
returns-then-place-classes c is =
    search (
      arith,
      (slice_get-get_or c.args.classes.now c.args.place c.index-classes-place.result c.if-place-classes.true),
      c.have_one_set.ensures,
    )
