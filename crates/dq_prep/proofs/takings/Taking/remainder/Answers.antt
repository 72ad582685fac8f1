use Rattle.std.proofs.Common.{◌≡◌, false, ◌∙◌, sym, subst, ap, refl, []}
use Rattle.std.specs.Prelude.{slice_index_or}
use Rattle.std.specs.List.{All, Contains, list_any}
use Rattle.dq_lits.specs.Literal.{variable_of}
use Rattle.dq_lits.specs.Formula.{declared, existential_of}
use Rattle.dq_lits.specs.Derivation.{is_tautology}
use Rattle.dq_prep.specs.Units.{taken_literals}
use Rattle.dq_prep.specs.Roles.{AreOpen}
use Rattle.dq_prep.specs.Reduction.{sees_in}
use Rattle.dq_prep.specs.Takings.{IsRemainder, keeps_more, remainder_of_one}
use Rattle.dq_prep.proofs.LiteralRoles.{look, universals-are-seen, open-existential}
use Rattle.dq_prep.proofs.Remainders.{tautology-at, satisfied-other, more-other, none-stands, one-stands}
use Rattle.dq_prep.proofs.takings.Taking.remainder.Goals as goal

pub opens-requires-clause-bound : goal.opens-requires-clause-bound
opens-requires-clause-bound c =
    subst (All (λ l. Contains (declared c.args.self.now.formula.now) (variable_of l))) (sym c.clause-clause.ensures)
    (c.requires.right.well.bound c.args.place [] c.requires.within)

pub keeps_more-requires-clause-existential : goal.keeps_more-requires-clause-existential
keeps_more-requires-clause-existential c =
    let f = c.args.self.now.formula.now in
    let bound = subst (All (λ l. Contains (declared f) (variable_of l))) (sym c.clause-clause.ensures)
    (c.requires.right.well.bound c.args.place [] c.requires.within) in
    let open' = subst (AreOpen f
    (taken_literals c.args.self.now.trace) c.clause-clause.result.now) c.in-One.is c.opens.ensures in
    open-existential f (taken_literals c.args.self.now.trace) c.clause-clause.result.now c.in-One.l
    c.requires.right.well bound open'.1

pub returns-in-Satisfied : goal.returns-in-Satisfied
returns-in-Satisfied c =
    let f = c.args.self.now.formula.now in
    let looked = look f c.args.self.now.trace c.args.place c.clause-clause.result.now c.requires.right.well
    c.requires.right.units c.requires.within c.clause-clause.ensures in
    satisfied-other f c.args.self.now.trace c.args.place c.clause-clause.result.now looked (c.in-Satisfied.ensures)

pub returns-in-Nothing : goal.returns-in-Nothing
returns-in-Nothing c =
    let f = c.args.self.now.formula.now in
    let looked = look f c.args.self.now.trace c.args.place c.clause-clause.result.now c.requires.right.well
    c.requires.right.units c.requires.within c.clause-clause.ensures in
    let tautology = tautology-at c.args.self.now.tautologies.now f.matrix c.args.place c.clause-clause.result.now
    c.requires.right.tautologies c.requires.within c.clause-clause.ensures in
    subst (IsRemainder f c.args.self.now.trace c.args.place) (sym c.remainder_of_none.ensures)
    (none-stands f c.args.self.now.trace c.args.place c.clause-clause.result.now
    (slice_index_or c.args.self.now.tautologies.now c.args.place false) looked tautology c.in-Nothing.ensures)

pub returns-in-One : goal.returns-in-One
returns-in-One c =
    let f = c.args.self.now.formula.now in
    let clause = c.clause-clause.result.now in
    let l = c.in-One.l in
    let looked = look f c.args.self.now.trace c.args.place clause c.requires.right.well
    c.requires.right.units c.requires.within c.clause-clause.ensures in
    let more : c.keeps_more.result ≡ keeps_more f clause l =
    c.keeps_more.ensures ∙ ap (λ x. keeps_more f x l) (sym c.clause-clause.ensures) in
    subst (IsRemainder f c.args.self.now.trace c.args.place)
    (sym (c.remainder_of_one.ensures ∙ ap (remainder_of_one l) more))
    (one-stands f c.args.self.now.trace c.args.place clause l (is_tautology clause)
    (list_any (λ k. sees_in (variable_of k) (existential_of f (variable_of l))) clause) looked
    (universals-are-seen f c.requires.right.well) refl refl c.in-One.ensures)

pub returns-in-More : goal.returns-in-More
returns-in-More c =
    let f = c.args.self.now.formula.now in
    let looked = look f c.args.self.now.trace c.args.place c.clause-clause.result.now c.requires.right.well
    c.requires.right.units c.requires.within c.clause-clause.ensures in
    more-other f c.args.self.now.trace c.args.place c.clause-clause.result.now looked (c.in-More.ensures)
