use Rattle.std.proofs.Common.{◌≡◌, rules}
use Rattle.dq_formula.specs.Sets.{universal_places}
use Rattle.dq_formula.proofs.Subsets.{places_ascend, distinct_universals}
use Rattle.dq_formula.proofs.formula.Formula.seen_places.Goals as goal

pub returns-clause-ascend : goal.returns-clause-ascend
returns-clause-ascend c =
    let f = c.args.self.now in
    let seen = c.seen-seen.result.now in
    let places : c.in_ok-collect.field-0.items ≡ universal_places f seen = search rules in
    rw places (places_ascend f.universals seen (distinct_universals f c.every_formula_is_lawful.ensures.prefix)
    c.seen-seen.ensures.ordered)
