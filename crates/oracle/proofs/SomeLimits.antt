-- A stop under some assumptions.
use Rattle.std.proofs.Common.{List}
use Rattle.dq_lits.specs.Literal.{Literal}
use Rattle.hint_log.specs.Entries.{ProofLog}
use Rattle.oracle.specs.Limits.{IsAtLimit, IsAtSomeLimit}

pub some_limit : (log : ProofLog) {assumptions : List Literal} → IsAtLimit log assumptions → IsAtSomeLimit log
some_limit log {assumptions} at = (assumptions, at)
