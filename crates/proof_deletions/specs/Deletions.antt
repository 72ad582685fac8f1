-- Deletions behind the lines of a proof, as LRAT's producers write them (L. Cruz-Filipe et al.,
-- "Efficient certified RAT verification", 2017): a derived clause goes behind the last line that
-- hints it.
use Rattle.std.specs.Prelude.{◌≡◌, ℕ, ◌-◌, ◌≤◌, Bool, not, ◌&&◌, List, [], ◌∷◌, ◌++◌, map, length}
use Rattle.std.specs.List.{All, filter, list_any, range_with_len}
use Rattle.dq_lits.specs.Derivation.{ProofStep}
use Rattle.rup_core.specs.Items.{ProofItem, derived, gone, is_among}

-- one of these lines hints the id
abbrev pub is_hinted : List ProofStep → ℕ → Bool
is_hinted steps id = list_any (λ step. is_among step.hints id) steps

-- of the ids from one on that are below a line's, those that it hints and no later line does,
-- ascending
abbrev pub spent_ids : ℕ → ProofStep → List ProofStep → List ℕ
spent_ids first step later =
    filter (λ id. is_among step.hints id && not (is_hinted later id))
    (range_with_len first (step.id - first))

-- where there are none, there is no deletion
abbrev pub deletion : List ℕ → List ProofItem
deletion [] = []
deletion (id ∷ ids) = gone (id ∷ ids) ∷ []

-- behind each line but the last one, what it was the last to hint of the lines from an id on
abbrev pub deleting_from : ℕ → List ProofStep → List ProofItem
deleting_from first [] = []
deleting_from first (step ∷ []) = derived step ∷ []
deleting_from first (step ∷ next ∷ later) =
    derived step
    ∷ (deletion (spent_ids first step (next ∷ later)) ++ deleting_from first (next ∷ later))

abbrev pub lines_of : List ProofItem → List ProofStep
lines_of [] = []
lines_of (derived step ∷ items) = step ∷ lines_of items
lines_of (gone _ ∷ items) = lines_of items

abbrev pub first_number : List ProofStep → ℕ
first_number [] = 0
first_number (step ∷ steps) = step.id

-- the lines with deletions
abbrev pub with_deletions : List ProofItem → List ProofItem
with_deletions items = deleting_from (first_number (lines_of items)) (lines_of items)

-- lines alone, numbered one after the other, from 1 on or later
pub record AreNumberedLines (items : List ProofItem) : Type 0 where
  pub lines : items ≡ map derived (lines_of items)
  pub numbered : map (λ step. step.id) (lines_of items)
      ≡ range_with_len (first_number (lines_of items)) (length (lines_of items))
  pub from_one : All (λ step. 1 ≤ step.id) (lines_of items)
