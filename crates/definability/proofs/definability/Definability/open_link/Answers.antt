use Rattle.std.proofs.Common.{refl, arith}
use Rattle.std.proofs.lemmas.Option.{slice_get-get_or}
use Rattle.dq_lits.specs.Formula.{declared}
use Rattle.definability.specs.Store.{store_of}
use Rattle.definability.proofs.FollowedClauses.{more_none}
use Rattle.definability.proofs.PartAnswers.{link_opened}
use Rattle.definability.proofs.definability.Definability.open_link.Goals as goal

pub returns-in_err-who-clause-more : goal.returns-in_err-who-clause-more
returns-in_err-who-clause-more g c = more_none c.args.f.now c.args.self.now c.args.log.now c.args.log.now refl

pub returns-in_err-group-clause-more : goal.returns-in_err-group-clause-more
returns-in_err-group-clause-more g c = search (arith, more_none)

pub index_mut-requires : goal.index_mut-requires
index_mut-requires g c = search arith

pub index_mut-requires-2 : goal.index_mut-requires-2
index_mut-requires-2 g c = search arith

pub returns-clause-more : goal.returns-clause-more
returns-clause-more g c = record {
  follows = λ all numbered h.
      link_opened c.args.f.now c.every_formula_is_lawful.ensures.prefix c.args.place _
      (slice_get-get_or (declared c.args.f.now) c.args.place 0 c.requires.place) (store_of c.args.self.now) c.args.log.now
      (g.met.O.Oracle.searched c.args.oracle.now c.args.log.now c.requires.fit).logged all numbered h
      c.in_ok-group.group c.requires.so_far c.in_ok-group.ensures.made.positive c.in_ok-group.ensures.unnamed
      c.group.new.log c.in_ok-group.ensures.ok;
  given = refl;
  frames = refl;
  first_groups = refl;
  second_groups = refl;
}
