use Rattle.pec_front.proofs.DeclaredRanges.{universal-more, universal-new}
use Rattle.pec_front.proofs.prefixes.declare_universals.Goals as goal

pub add_universal-requires-clause-undeclared : goal.add_universal-requires-clause-undeclared
add_universal-requires-clause-undeclared c =
    universal-new c.args.f.now c.loop-x.f c.loop-x.x c.requires.nothing c.requires.universals c.loop-x.invariant

pub loop-x-preserved : goal.loop-x-preserved
loop-x-preserved c =
    universal-more c.args.f.now c.loop-x.f c.add_universal.new.self c.loop-x.x c.loop-x.invariant
    c.in_ok-add_universal.ensures.ok
