use Rattle.std.proofs.Common.{ap, ◌∙◌, arith, get_or}
use Rattle.dq_formula.specs.Prefix.{is_declared}
use Rattle.copied_prefixes.proofs.CopiedPrefixes.{universal-fresh}
use Rattle.copied_prefixes.proofs.declare_universals.Goals as goal

pub add_universal-requires-clause-undeclared : goal.add_universal-requires-clause-undeclared
add_universal-requires-clause-undeclared c =
    let f = c.args.f.now in
    let g = c.loop-at.g in
    let held = c.loop-at.invariant in
    ap (λ us. is_declared g (get_or us c.loop-at.at 0)) c.universals.ensures
    ∙ universal-fresh f g c.loop-at.at c.requires.lawful held.0 held.1
    (omega (arith, c.loop-at-test.true, c.requires.within))
