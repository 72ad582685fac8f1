use Rattle.std.proofs.Common.{◌≤◌, length, arith}
use Rattle.dq_formula.proofs.Lawful.{take-filter}
use Rattle.dq_formula.proofs.Subsets.{distinct_universals}
use Rattle.dq_formula.proofs.formula.Formula.seen.Goals as goal

pub returns-in-FirstOf-clause-ordered : goal.returns-in-FirstOf-clause-ordered
returns-in-FirstOf-clause-ordered c =
    let f = c.args.self.now in
    let within : c.in-FirstOf.n ≤ length f.universals = search arith in
    rw c.universals.ensures (take-filter c.in-FirstOf.n f.universals
    (distinct_universals f c.every_formula_is_lawful.ensures.prefix) within)
