use Rattle.std.proofs.Common.{arith}
use Rattle.cert_judge.proofs.free_texts.pass_over.Goals as goal

pub returns-in_ok-next-in-Circuit-clause-gives : goal.returns-in_ok-next-in-Circuit-clause-gives
returns-in_ok-next-in-Circuit-clause-gives c bytes answer says = search arith

pub returns-in_ok-next-in-Binary-clause-gives : goal.returns-in_ok-next-in-Binary-clause-gives
returns-in_ok-next-in-Binary-clause-gives c bytes answer says = search arith
