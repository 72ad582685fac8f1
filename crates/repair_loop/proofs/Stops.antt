-- What stands where a step is refused.
use Rattle.std.proofs.Common.{◌≡◌, inl, inr, ℕ, Bool, List, refl}
use Rattle.dq_lits.specs.Formula.{Dqbf}
use Rattle.hint_log.specs.Entries.{ProofLog, steps_of}
use Rattle.hint_log.specs.declared.stops.Stop.{Stop}
use Rattle.hint_log.specs.declared.stops.Stop.TheVariants.{Memory, Limit}
use Rattle.oracle.specs.Limits.{IsAtSomeLimit}
use Rattle.circuit_cnf.specs.Failing.{IsFailure}
use Rattle.circuit_cnf.specs.declared.checkers.Checker.{Checker}
use Rattle.dq_session.specs.Databases.{DatabaseState}
use Rattle.definability.specs.declared.definability.Definability.{Definability}
use Rattle.repair_loop.specs.Searching.{AreCandidates}
use Rattle.repair_loop.specs.Preservation.{FailuresAreRounds}
use Rattle.repair_loop.specs.Stopping.{IsStoppedAtLimit}
use Rattle.repair_loop.specs.Turning.{IsOpen}

-- a clause could be learned
pub by_lemma : (f : Dqbf) (log : ProofLog) → IsAtSomeLimit log → IsStoppedAtLimit f log
by_lemma f log at = record { reached = at.1.reached; next = inl (at.0, at.1.next) }

-- a round could be logged
pub by_round : FailuresAreRounds → (f : Dqbf) (b : DatabaseState) (c : Checker) (p : Definability) (ready : Bool) (log : ProofLog)
    (output : _) → IsOpen f b c p ready log.entries → AreCandidates f b.table.rows output
    → (row values : List Bool) (j : ℕ) → IsFailure f output row values j → steps_of log.entries ≡ log.limit →
    IsStoppedAtLimit f log
by_round law f b c p ready log output o are row values j bad reached =
    let next = law f b c p ready log.entries output row values j o are bad in
    record {
      reached = reached;
      next = inr (record { row = row; values = values; j = j; refutes = next.0; follows = next.1 });
    }

-- what isn't want of memory is the limit
pub stop_left : (e : Stop) → (e ≡ Memory → ⊥) → e ≡ Limit
stop_left Memory other = absurd (other refl)
stop_left Limit other = refl
