-- Which ids the lines of a proof have, and which of these may be deleted.
use Rattle.std.specs.Prelude.{ℕ, ◌+◌, ◌==◌, Bool, true, false, not, ◌&&◌, ◌||◌, List, [], ◌∷◌}
use Rattle.rup_core.specs.Items.{ProofItem, derived, gone}

pub record Numbering : Type 0 where
  -- the id of the next line
  pub next : ℕ
  -- whether an id is that of a line before, derived or not, that wasn't deleted
  pub live : ℕ → Bool

abbrev pub numbered_from : ℕ → Numbering
numbered_from first = record { next = first; live = λ _. false }

abbrev pub with_next : Numbering → Numbering
with_next n = record { next = n.next + 1; live = λ id. (id == n.next) || n.live id }

abbrev pub without : Numbering → ℕ → Numbering
without n deleted = record n { live = λ id. not (id == deleted) && n.live id }

-- one by one, so that an id that stands twice isn't live at its second place
abbrev pub are_live : Numbering → List ℕ → Bool
are_live n [] = true
are_live n (id ∷ ids) = n.live id && are_live (without n id) ids

abbrev pub without_all : Numbering → List ℕ → Numbering
without_all n [] = n
without_all n (id ∷ ids) = without_all (without n id) ids

-- the numbering behind an item
abbrev pub behind_item : Numbering → ProofItem → Numbering
behind_item n (derived _) = with_next n
behind_item n (gone ids) = without_all n ids
