-- A proof that is judged item by item: its run, without the clauses of the base.
use Rattle.std.specs.Prelude.{ℕ, Bool, true, false, not, List, [], ◌∷◌, ◌++◌, Option, None, Some}
use Rattle.std.specs.List.{filter}
use Rattle.dq_lits.specs.Literal.{Literal}
use Rattle.dq_lits.specs.Derivation.{LiveClauses, is_empty}
use Rattle.rup_core.specs.Items.{is_among}
use Rattle.rup_core.specs.Judging.{LineState, no_line}
use Rattle.rup_core.specs.Lines.{clause_of_id}
use Rattle.rup_core.specs.Runs.{Run}

pub record ProofState : Type 0 where
  -- the last line so far is empty
  pub finished : Bool
  -- the derived lines that aren't deleted
  pub lines : List (ℕ × List Literal)
  -- the first line that isn't derived
  pub fault : Option ℕ
  -- there are marks for the variables from 1 on up to this one
  pub marks : ℕ
  -- the line that is being judged
  pub line : LineState

abbrev pub or_clause : Option (List Literal) → Option (List Literal) → Option (List Literal)
or_clause None other = other
or_clause (Some clause) other = Some clause

-- the clauses of a base, and these lines
abbrev pub with_lines : LiveClauses → List (ℕ × List Literal) → LiveClauses
with_lines live lines id = or_clause (clause_of_id lines id) (live id)

abbrev pub run_over : LiveClauses → ProofState → Run
run_over live p =
    record { finished = p.finished; live = with_lines live p.lines; fault = p.fault }

-- behind a line that isn't derived nothing changes any more
abbrev pub with_derived : Option ℕ → Bool → ℕ → List Literal → ProofState → ProofState
with_derived (Some _) is_derived id literals p = p
with_derived None false id literals p = record p { fault = Some id }
with_derived None true id literals p =
    record p { finished = is_empty literals; lines = p.lines ++ (id, literals) ∷ [] }

-- a line was judged
abbrev pub ended : Bool → ℕ → List Literal → ProofState → ProofState
ended is_derived id literals p =
    record (with_derived p.fault is_derived id literals p) { line = no_line }

abbrev pub without_lines : Option ℕ → List ℕ → ProofState → ProofState
without_lines (Some _) ids p = p
without_lines None ids p =
    record p { lines = filter (λ line. not (is_among ids line.0)) p.lines }
