use Rattle.std.proofs.Common.{◌≢◌, ℕ, arith}
use Rattle.std.proofs.lemmas.List.Elements.{All-append}
use Rattle.cert_judge.proofs.Pieces.{rest_back}
use Rattle.cert_judge.proofs.streams.keep_rest.Goals as goal

abbrev NoFeed : ℕ → Type 0
NoFeed byte = byte ≢ 10

pub returns-then-is_settled-clause-gives : goal.returns-then-is_settled-clause-gives
returns-then-is_settled-clause-gives c f bytes answer says = search arith

pub returns-clause-gives : goal.returns-clause-gives
returns-clause-gives c f bytes answer says = search (arith, rest_back)

pub returns-clause-one_line : goal.returns-clause-one_line
returns-clause-one_line c = search (arith, All-append)
