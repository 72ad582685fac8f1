use Rattle.std.proofs.Common.{sym, subst, arith}
use Rattle.dq_formula.specs.Dependencies.{dependencies}
use Rattle.skolem_checker.specs.Reads.{IsSetNoted}
use Rattle.skolem_checker.proofs.SightsLaws.{prefix_noted, list_noted}
use Rattle.skolem_checker.proofs.sights.note_set.Goals as goal

pub returns-in-FirstOf-clause-noted : goal.returns-in-FirstOf-clause-noted
returns-in-FirstOf-clause-noted c =
    let f = c.args.f.now in
    subst (λ set. IsSetNoted f c.args.listed.now c.set_bit.new.words c.args.i (dependencies f.universals set))
    (sym c.in-FirstOf.is)
    (prefix_noted f c.args.listed.now c.args.stops.now c.set_bit.new.words c.args.i c.in-FirstOf.n c.requires.nothing.0
    c.set_bit.ensures.set)

pub returns-in-Listed-clause-noted : goal.returns-in-Listed-clause-noted
returns-in-Listed-clause-noted c = search (arith, list_noted)
