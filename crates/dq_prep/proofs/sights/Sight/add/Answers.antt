use Rattle.std.proofs.Common.{nat_lt, arith}
use Rattle.dq_prep.proofs.SeenUniversals.{firsts-added}
use Rattle.dq_prep.proofs.sights.Sight.add.Goals as goal

pub returns-in-FirstOf : goal.returns-in-FirstOf
returns-in-FirstOf c x listed = search (arith, nat_lt, firsts-added)
