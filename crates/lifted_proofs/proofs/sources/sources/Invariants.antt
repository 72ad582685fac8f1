use Rattle.lifted_proofs.specs.Carried.{AreSources}
use Rattle.lifted_proofs.proofs.KeptSources.{kept_first}
use Rattle.lifted_proofs.proofs.sources.sources.Given as goal

abbrev pub invariant-loop-place : goal.invariant-loop-place
invariant-loop-place l =
    AreSources l.table.formula.now l.table.units.now
    (kept_first l.table.formula.now l.table.units.now l.place) l.sources.items
