use Rattle.std.proofs.Common.{refl, arith}
use Rattle.definability.specs.Store.{store_of}
use Rattle.definability.proofs.FollowedClauses.{more_none}
use Rattle.definability.proofs.PartAnswers.{are_twins, half_given, link_made, link_plain, places_within}
use Rattle.definability.proofs.definability.Definability.give_half.Goals as goal

pub copy_at-requires : goal.copy_at-requires
copy_at-requires g c = (places_within c.args.f.now c.args.self.now c.args.log.now.entries c.requires.standing
    c.args.place c.requires.place).1

pub copy_at-requires-2 : goal.copy_at-requires-2
copy_at-requires-2 g c = (places_within c.args.f.now c.args.self.now c.args.log.now.entries c.requires.standing
    c.args.place c.requires.place).2

pub index-requires : goal.index-requires
index-requires g c = search arith

pub add-requires-clause-made : goal.add-requires-clause-made
add-requires-clause-made g c =
    link_made c.args.f.now c.every_formula_is_lawful.ensures.prefix c.args.place c.declared_at.result
    c.declared_at.ensures (store_of c.args.self.now) c.args.log.now
    (g.met.O.Oracle.searched c.args.oracle.now c.args.log.now c.requires.fit).logged c.requires.standing.0
    c.requires.standing.1 c.requires.standing.2 c.index.result.now c.index.ensures

pub add-requires-clause-plain : goal.add-requires-clause-plain
add-requires-clause-plain g c =
    let so_far = c.requires.so_far in
    link_plain c.args.log.now.entries _ c.args.half c.requires.half c.half_of-lits.result
    (c.half_of-lits.ensures c.args.log.now.entries (are_twins c.args.f.now c.every_formula_is_lawful.ensures.prefix c.args.place c.declared_at.result
    c.declared_at.ensures (store_of c.args.self.now) c.args.log.now
    (g.met.O.Oracle.searched c.args.oracle.now c.args.log.now c.requires.fit).logged c.requires.standing.0
    c.requires.standing.1 c.requires.standing.2
    c.copy_at.result c.copy_at-2.result c.copy_at.ensures c.copy_at-2.ensures (omega (arith, so_far))))

pub returns-in_err-add-clause-more : goal.returns-in_err-add-clause-more
returns-in_err-add-clause-more g c = search (arith, more_none)

pub index_mut-requires : goal.index_mut-requires
index_mut-requires g c = search arith

pub returns-clause-more : goal.returns-clause-more
returns-clause-more g c = record {
  follows = λ all numbered h.
      let so_far = c.requires.so_far in
      half_given c.args.f.now c.every_formula_is_lawful.ensures.prefix c.args.place c.declared_at.result
      c.declared_at.ensures (store_of c.args.self.now) c.args.log.now
      (g.met.O.Oracle.searched c.args.oracle.now c.args.log.now c.requires.fit).logged all numbered h
      c.args.half c.requires.half so_far c.index.result.now c.index.ensures c.half_of-lits.result
      (c.half_of-lits.ensures c.args.log.now.entries (are_twins c.args.f.now c.every_formula_is_lawful.ensures.prefix c.args.place c.declared_at.result
      c.declared_at.ensures (store_of c.args.self.now) c.args.log.now
      (g.met.O.Oracle.searched c.args.oracle.now c.args.log.now c.requires.fit).logged
      all numbered h c.copy_at.result c.copy_at-2.result c.copy_at.ensures c.copy_at-2.ensures
      (omega (arith, so_far)))) c.add.new.log c.in_ok-add.ensures.ok;
  given = refl;
  frames = refl;
  first_groups = refl;
  second_groups = refl;
}
