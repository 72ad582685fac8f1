use Rattle.std.proofs.Common.{arith}
use Rattle.pec_front.proofs.DeclaredRanges.{seeing-more, seeing-new}
use Rattle.pec_front.proofs.prefixes.declare_seeing_all.Goals as goal

pub add_first-requires-clause-undeclared : goal.add_first-requires-clause-undeclared
add_first-requires-clause-undeclared c =
    seeing-new c.args.f.now c.loop-y.f c.args.first c.loop-y.y c.requires.declared c.loop-y.invariant

pub loop-y-preserved : goal.loop-y-preserved
loop-y-preserved c = search (arith, seeing-more)
