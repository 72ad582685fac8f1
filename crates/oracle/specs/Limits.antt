-- A search that ends at the log's limit has its next step in hand, which the limit alone forbids: a
-- clause that conflict analysis would learn next (J. Marques-Silva, K. Sakallah, "GRASP", 1999). So
-- no search may give up before it looked, and withhold a verdict that costs no further step.
use Rattle.std.specs.Prelude.{◌≡◌, ℕ, true, List}
use Rattle.dq_lits.specs.Literal.{Literal, variable_of, opposite}
use Rattle.dq_lits.specs.Derivation.{IsDerived, holds}
use Rattle.hint_log.specs.Entries.{Entry, ProofLog, clause_at, steps_of}
use Rattle.hint_log.specs.Naming.{is_selector}
use Rattle.hint_log.specs.ProductiveLog.{IsNewByPropagation}
use Rattle.oracle.specs.Searched.{Stands}

-- a clause that could be learned where these literals are assumed: derived from earlier ids by
-- hints, new by propagation, on variables that have names; its selectors are negated, and those of
-- active groups
pub record HasNextLemma (entries : List Entry) (assumptions : List Literal) : Type 0 where
  pub clause : List Literal
  pub hints : List ℕ
  pub derived : IsDerived (clause_at entries) clause hints
  pub new : IsNewByPropagation entries clause
  pub stands : (l : Literal) → holds clause l ≡ true → Stands entries l
  pub active : (l : Literal) → holds clause l ≡ true → is_selector entries (variable_of l) ≡ true
      → holds assumptions (opposite l) ≡ true

-- no step is left, and one could be taken
pub record IsAtLimit (log : ProofLog) (assumptions : List Literal) : Type 0 where
  pub reached : steps_of log.entries ≡ log.limit
  pub next : HasNextLemma log.entries assumptions

-- so it is under some assumptions
abbrev pub IsAtSomeLimit : ProofLog → Type 0
IsAtSomeLimit log = (assumptions : List Literal) × IsAtLimit log assumptions
