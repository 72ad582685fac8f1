-- Which ids can stand as lines, one after the other, over a base.
use Rattle.std.specs.Prelude.{◌≡◌, ℕ, ◌<◌, ◌≤◌, Bool, true, List, [], ◌∷◌, Some, ◌⊎◌}
use Rattle.std.specs.List.{All, Contains}
use Rattle.dq_lits.specs.Literal.{Literal}
use Rattle.dq_lits.specs.Derivation.{LiveClauses, is_empty}
use Rattle.hint_log.specs.Entries.{Entry, Given, Learned, Answer, has_id, numbered}
use Rattle.hint_log.specs.Reached.{Reaches}
use Rattle.hint_log.specs.declared.origins.Origin.{Origin}
use Rattle.cert_export.specs.Renaming.{Renaming, renamed_clause}
use Rattle.cert_export.specs.Lines.{is_derived, line_clause}

-- the id of a given clause that stands in the base
abbrev pub IsBaseId : (Origin → List Literal → Type 0) → List Entry → ℕ → Type 0
IsBaseId usable entries id =
    (origin : Origin) × (c : List Literal) × (numbered has_id entries id ≡ Some (Given origin c))
    × usable origin c

abbrev pub IsHintable : (Origin → List Literal → Type 0) → List Entry → List ℕ → ℕ → Type 0
IsHintable usable entries done id = IsBaseId usable entries id ⊎ Contains done id

-- an id of a derived clause whose hints stand in the base or are lines before, with a number of its
-- own
pub record IsNextLine (usable : Origin → List Literal → Type 0) (entries : List Entry)
    (number : ℕ → ℕ) (base : ℕ) (done : List ℕ) (id : ℕ) : Type 0 where
  pub clause : List Literal
  pub hints : List ℕ
  pub derived : (numbered has_id entries id ≡ Some (Learned clause hints))
      ⊎ (numbered has_id entries id ≡ Some (Answer clause hints))
  pub ready : All (IsHintable usable entries done) hints
  pub fresh : (other : ℕ) → Contains done other → number other ≡ number id → ⊥
  pub behind : base < number id

abbrev pub AreLines : (Origin → List Literal → Type 0) → List Entry → (ℕ → ℕ) → ℕ → List ℕ → List ℕ
    → Type 0
AreLines usable entries number base done [] = Unit {0}
AreLines usable entries number base done (id ∷ ids) =
    IsNextLine usable entries number base done id
    × AreLines usable entries number base (id ∷ done) ids

-- the last line is empty
abbrev pub AreFinished : Renaming → List Entry → Bool → List ℕ → Type 0
AreFinished r entries finished [] = finished ≡ true
AreFinished r entries finished (id ∷ ids) =
    AreFinished r entries (is_empty (line_clause r entries id)) ids

-- the base's clauses are the given ones, renamed
abbrev pub IsRenamedBase : Renaming → (Origin → ℕ) → (Origin → List Literal → Type 0) → LiveClauses
    → ℕ → List Entry → Type 0
IsRenamedBase r base_id usable live base entries =
    (id : ℕ) (origin : Origin) (c : List Literal)
    → numbered has_id entries id ≡ Some (Given origin c) → usable origin c
    → (live (base_id origin) ≡ Some (renamed_clause r c)) × (base_id origin ≤ base)

-- a derived clause that the answer rests on
abbrev pub IsLine : List Entry → ℕ → ℕ → Type 0
IsLine entries id h = Reaches entries id h × (is_derived (numbered has_id entries h) ≡ true)

-- lines are numbered in the order of the log, behind the base
pub record AreLineNumbers (entries : List Entry) (id base : ℕ) (number : ℕ → ℕ) : Type 0 where
  pub rising : (h k : ℕ) → IsLine entries id h → IsLine entries id k → h < k → number h < number k
  pub behind : (h : ℕ) → IsLine entries id h → base < number h
