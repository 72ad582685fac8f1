-- Derivations that delete, as in LRAT (L. Cruz-Filipe et al., "Efficient certified RAT
-- verification", 2017): lines, and between them ids whose clauses are gone from there on.
use Rattle.std.specs.Prelude.{◌≡◌, ℕ, ◌==◌, Bool, false, List, [], ◌∷◌, Option, None, Some, if◌then◌else◌}
use Rattle.std.specs.List.{AllByRecursion, list_any}
use Rattle.dq_lits.specs.Derivation.{LiveClauses, with_clause, line_fault, ProofStep, ProofFault, unfinished, fault_of_step, is_empty}

pub data ProofItem : Type 0 where
  -- its clause has its id from then on
  derived : ProofStep → ProofItem
  -- no clause has one of these ids from then on
  gone : List ℕ → ProofItem

abbrev pub is_among : List ℕ → ℕ → Bool
is_among ids id = list_any (λ i. i == id) ids

abbrev pub without_clauses : LiveClauses → List ℕ → LiveClauses
without_clauses live ids id = if is_among ids id then None else live id

-- the first fault of the items to come, where `finished` tells whether the last line before them is
-- empty; deletions are no lines
abbrev pub items_fault : Bool → LiveClauses → List ProofItem → Option ProofFault
items_fault finished live [] = if finished then None else Some unfinished
items_fault finished live (derived step ∷ items) =
    fault_of_step (line_fault live step.literals step.hints) step.id
    (items_fault (is_empty step.literals) (with_clause live step.id step.literals) items)
items_fault finished live (gone ids ∷ items) =
    items_fault finished (without_clauses live ids) items

-- every line is derived, and the last one is the empty clause
abbrev pub ItemsDerive : LiveClauses → List ProofItem → Type 0
ItemsDerive live items = items_fault false live items ≡ None

-- no line of the items hints one of these ids
abbrev pub AreUnused : List ℕ → List ProofItem → Type 0
AreUnused ids [] = Unit {0}
AreUnused ids (derived step ∷ items) =
    AllByRecursion (λ hint. is_among ids hint ≡ false) step.hints × AreUnused ids items
AreUnused ids (gone _ ∷ items) = AreUnused ids items
