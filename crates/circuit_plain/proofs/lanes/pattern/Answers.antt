use Rattle.std.proofs.Common.{arith}
use Rattle.circuit_plain.proofs.PatternLaws.{low_pattern, parity_pattern, half_pattern, high_pattern}
use Rattle.circuit_plain.proofs.lanes.pattern.Goals as goal

pub returns-then-place-lt6-clause-bits : goal.returns-then-place-lt6-clause-bits
returns-then-place-lt6-clause-bits c l b below b_below =
    low_pattern c.args.first l b c.requires.whole below b_below c.args.place c.if-place-lt6.true

pub returns-then-place-eq6-clause-bits : goal.returns-then-place-eq6-clause-bits
returns-then-place-eq6-clause-bits c l b below b_below =
    parity_pattern c.args.first l b c.requires.whole below b_below c.args.place c.if-place-eq6.true

pub returns-then-place-eq7-clause-bits : goal.returns-then-place-eq7-clause-bits
returns-then-place-eq7-clause-bits c l b below b_below =
    half_pattern c.args.first l b c.requires.whole below b_below c.args.place c.if-place-eq7.true

pub returns-clause-bits : goal.returns-clause-bits
returns-clause-bits c l b below b_below =
    high_pattern c.args.first l b c.requires.whole below b_below c.args.place
    (omega (arith, c.if-place-lt6.false, c.if-place-eq6.false, c.if-place-eq7.false))
