use Rattle.std.proofs.Common.{inl, refl, arith, ◌++◌, sym, subst}
use Rattle.definability.specs.Store.{store_of}
use Rattle.definability.specs.Following.{IsFollowing}
use Rattle.definability.proofs.PartSteps.{raised}
use Rattle.definability.proofs.FollowedClauses.{more_none}
use Rattle.definability.proofs.PartAnswers.{copy_named, fresh_copy, other_first, places_within}
use Rattle.definability.proofs.definability.Definability.name_first.Goals as goal

pub new_var-requires-clause-fresh : goal.new_var-requires-clause-fresh
new_var-requires-clause-fresh g c =
    let so_far = c.requires.so_far in
    fresh_copy c.args.f.now c.every_formula_is_lawful.ensures.prefix c.args.place c.declared_at.result
    c.declared_at.ensures (store_of c.args.self.now) c.args.log.now
    (g.met.O.Oracle.searched c.args.oracle.now c.args.log.now c.requires.fit).logged c.requires.standing.0
    c.requires.standing.1 c.requires.standing.2 1 (omega (arith, so_far))

pub returns-in_err-v-clause-more : goal.returns-in_err-v-clause-more
returns-in_err-v-clause-more g c = search (arith, more_none)

pub put-requires : goal.put-requires
put-requires g c = (places_within c.args.f.now c.args.self.now c.args.log.now.entries c.requires.standing c.args.place
    c.requires.place).1

pub index_mut-requires : goal.index_mut-requires
index_mut-requires g c = search arith

pub returns-clause-more : goal.returns-clause-more
returns-clause-more g c = record {
  follows = λ all numbered h.
      let so_far = c.requires.so_far in
      subst (λ gs. IsFollowing all numbered (store_of c.args.self.now) c.args.log.now
      (record (raised (store_of c.args.self.now) c.args.place 1 (record { universals = c.put.new.self.universals.items; existentials = c.put.new.self.existentials.items }) (store_of c.args.self.now).second
      (store_of c.args.self.now).links) { active = gs.items ++ c.args.self.now.second.groups.items }) c.new_var.new.log)
      (sym c.put.ensures.groups)
      (copy_named c.args.f.now c.every_formula_is_lawful.ensures.prefix c.args.place c.declared_at.result
      c.declared_at.ensures (store_of c.args.self.now) c.args.log.now
      (g.met.O.Oracle.searched c.args.oracle.now c.args.log.now c.requires.fit).logged all numbered h 1 (inl refl)
      c.pos.result c.in_ok-v.v c.pos.ensures (omega (arith, so_far)) c.in_ok-v.ensures.unnamed
      (record { universals = c.put.new.self.universals.items; existentials = c.put.new.self.existentials.items }) (store_of c.args.self.now).second (c.put.ensures.universals, c.put.ensures.existentials) (refl, refl)
      c.put.ensures.copies
      (other_first (record { universals = c.put.new.self.universals.items; existentials = c.put.new.self.existentials.items }) (store_of c.args.self.now).first (store_of c.args.self.now).second)
      c.new_var.new.log c.in_ok-v.ensures.ok);
  given = refl;
  frames = refl;
  first_groups = c.put.ensures.groups;
  second_groups = refl;
}
