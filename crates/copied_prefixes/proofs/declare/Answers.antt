use Rattle.std.proofs.Common.{length, arith}
use Rattle.dq_lits.specs.Formula.{existential_of}
use Rattle.copied_prefixes.proofs.CopiedPrefixes.{reach-wider}
use Rattle.copied_prefixes.proofs.declare.Goals as goal

pub declare_next-requires-clause-reach : goal.declare_next-requires-clause-reach
declare_next-requires-clause-reach c =
    let y = c.existential_at-y.result in
    reach-wider c.args.f.now (existential_of c.args.f.now y) c.end_of-end.result
    (length c.declare_universals.new.g.universals) (omega (arith, c.in_ok-declare_universals.ensures.universals))
    c.end_of-end.ensures.end
