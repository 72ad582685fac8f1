-- How steps are kept: their ids, their literals and their hints in lists of their own.
use Rattle.std.specs.Prelude.{◌≡◌, ℕ, List, [], ◌∷◌, length}
use Rattle.dq_lits.specs.Derivation.{ProofStep}
use Rattle.dq_lits.specs.Literal.{Literal}

abbrev pub steps_from : List ℕ → List (List Literal) → List (List ℕ) → List ProofStep
steps_from [] literals hints = []
steps_from (id ∷ ids) [] hints = []
steps_from (id ∷ ids) (ls ∷ literals) [] = []
steps_from (id ∷ ids) (ls ∷ literals) (hs ∷ hints) =
    record { id = id; literals = ls; hints = hs } ∷ steps_from ids literals hints

pub record AreAsMany (ids : List ℕ) (literals : List (List Literal))
    (hints : List (List ℕ)) : Type 0 where
  pub clauses : length literals ≡ length ids
  pub hinted : length hints ≡ length ids
