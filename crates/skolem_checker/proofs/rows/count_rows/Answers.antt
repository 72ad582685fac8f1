use Rattle.std.proofs.Common.{arith}
use Rattle.std.proofs.lemmas.Nat.{one_shl}
use Rattle.std.proofs.Math.Nat.{pow-le-pow_right}
use Rattle.skolem_checker.proofs.rows.count_rows.Goals as goal

pub returns-clause-small : goal.returns-clause-small
returns-clause-small c = search (arith, pow-le-pow_right, one_shl)
