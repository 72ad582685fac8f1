use Rattle.planted_formulas.proofs.AddedGates.{next_undeclared, universals_more}
use Rattle.planted_formulas.proofs.formulas.add_universals.Goals as goal

pub add_universal-requires-clause-undeclared : goal.add_universal-requires-clause-undeclared
add_universal-requires-clause-undeclared c = next_undeclared c.args.f.now.variables c.loop-place.place c.loop-place.f
    c.loop-place.invariant

pub loop-place-preserved : goal.loop-place-preserved
loop-place-preserved c =
    universals_more c.args.f.now.variables c.loop-place.place c.loop-place.f c.add_universal.new.self
    c.loop-place.invariant c.in_ok-add_universal.ensures.ok
