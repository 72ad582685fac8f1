use Rattle.std.proofs.Common.{refl}
use Rattle.defined_checker.proofs.pairs.is_free_pair.Goals as goal

pub returns : goal.returns
returns c y is = (
  λ holds. record {
    first = (c.are_true.ensures.0 holds).0;
    second = (c.are_true.ensures.0 holds).1;
    alike = (c.if-not-are_alike.ensures y is).0 refl;
    apart = c.if-not-differs.ensures.0 refl;
  },
  λ pair. c.are_true.ensures.1 (pair.first, pair.second),
)
