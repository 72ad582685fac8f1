use Rattle.std.proofs.Common.{refl, sym, ◌∙◌, subst, ◌<◌, length, arith}
use Rattle.lifted_proofs.specs.Sources.{TellsTaken}
use Rattle.lifted_proofs.proofs.KeptSources.{source-none, source-unit}
use Rattle.lifted_proofs.proofs.sources.source_at.Goals as goal

pub returns-in_default : goal.returns-in_default
returns-in_default c = search (arith, source-none)

pub returns : goal.returns
returns c =
    let t = c.args.table.now in
    let units = t.units.now in
    source-unit t.formula.now units c.args.place c.in-Some.j
    (record { taken = c.in-Some.j; place = c.args.place }) c.is_satisfied.result c.requires.right.units
    c.requires.within c.is_satisfied.ensures c.if-not-is_satisfied.false
    (subst (TellsTaken units (length units) c.args.place) (sym c.unit_of.ensures ∙ c.in-Some.is)
    (c.requires.tell c.args.place (subst (λ n. c.args.place < n) (sym c.requires.many) c.requires.within))) refl refl
