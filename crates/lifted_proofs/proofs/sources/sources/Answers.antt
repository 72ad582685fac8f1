use Rattle.std.proofs.Common.{◌∙◌, ap, subst, sym, arith, reverse}
use Rattle.lifted_proofs.specs.Carried.{AreSources}
use Rattle.lifted_proofs.specs.Sources.{IsSourceAt}
use Rattle.lifted_proofs.proofs.KeptPlaces.{kept-are}
use Rattle.lifted_proofs.proofs.KeptSources.{kept_first, sources-more, sources-same}
use Rattle.lifted_proofs.proofs.sources.sources.Goals.{in-Some+in_ok-push, in_default}
use Rattle.lifted_proofs.proofs.sources.sources.Goals as goal

pub loop-place-preserved : goal.loop-place-preserved
loop-place-preserved c =
    let f = c.args.table.now.formula.now in
    let units = c.args.table.now.units.now in
    let place = c.loop-place.place in
    elim c.match-source_at.branch [
      | in-Some+in_ok-push w ↦
          sources-more f units place w.in-Some.source c.loop-place.sources.items c.match-source_at.sources.items
          (subst (IsSourceAt f units place) w.in-Some.is c.source_at.ensures) c.loop-place.invariant
          (ap (λ v. v.items) w.sources-is ∙ w.in_ok-push.ensures.items)
      | in_default w ↦
          sources-same f units place c.loop-place.sources.items c.match-source_at.sources.items
          (subst (IsSourceAt f units place) w.in_default.is c.source_at.ensures) c.loop-place.invariant
          (ap (λ v. v.items) w.sources-is)
    ]

pub returns : goal.returns
returns c =
    let f = c.args.table.now.formula.now in
    let units = c.args.table.now.units.now in
    subst (λ ks. AreSources f units ks c.loop-place.sources.items)
    (ap (kept_first f units) (omega arith) ∙ sym (kept-are f (reverse units))) c.loop-place.invariant
