-- A line's propagation: the literals that its hints make true, newest first.
use Rattle.std.specs.Prelude.{◌≡◌, ℕ, ◌+◌, ◌⊎◌, Bool, true, not, List, [], ◌∷◌, drop, None, Some}
use Rattle.std.specs.List.{Contains}
use Rattle.dq_lits.specs.Literal.{Literal, opposite}
use Rattle.dq_lits.specs.Derivation.{LiveClauses, holds, hint_fault, IsDerived, AreSame}
use Rattle.hint_log.specs.Entries.{Entry}
use Rattle.hint_log.specs.Entries.{clause_at, hints_at, origin_at}
use Rattle.interpolants.specs.declared.chains.Link.{Link}

abbrev pub trues_of : List Literal → List Link → List Literal
trues_of first [] = first
trues_of first (link ∷ links) = link.pivot ∷ trues_of first links

-- each literal of the hinted clause is the pivot or false
pub record Leads (live : LiveClauses) (trues : List Literal) (link : Link) : Type 0 where
  pub clause : List Literal
  pub clause_is : live link.hint ≡ Some clause
  pub leads : (l : Literal) → holds clause l ≡ true
      → (l ≡ link.pivot) ⊎ (holds trues (opposite l) ≡ true)

abbrev pub AreLed : LiveClauses → List Literal → List Link → Type 0
AreLed live first [] = Unit {0}
AreLed live first (link ∷ links) = Leads live (trues_of first links) link × AreLed live first links

pub record IsFalseAt (live : LiveClauses) (trues : List Literal) (id : ℕ) : Type 0 where
  pub clause : List Literal
  pub clause_is : live id ≡ Some clause
  pub is_false : (l : Literal) → holds clause l ≡ true → holds trues (opposite l) ≡ true

-- the links' hints are among these
abbrev pub AreHinted : List ℕ → List Link → Type 0
AreHinted hints [] = Unit {0}
AreHinted hints (link ∷ links) = Contains hints link.hint × AreHinted hints links

-- what a replay finds
pub record IsReplay (live : LiveClauses) (first : List Literal) (hints : List ℕ) (links : List Link)
    (last : ℕ) : Type 0 where
  pub led : AreLed live first links
  pub hinted : AreHinted hints links
  pub last_hinted : Contains hints last
  pub conflict : IsFalseAt live (trues_of first links) last

abbrev pub is_open : List Literal → Literal → Bool
is_open trues l = not (holds trues (opposite l))

-- what a replay keeps
pub record IsReplaying (live : LiveClauses) (first : List Literal) (hints : List ℕ) (i : ℕ)
    (trues : List Literal) (links : List Link) : Type 0 where
  pub same : AreSame trues (trues_of first links)
  pub left : hint_fault live trues (i + 1) (drop i hints) ≡ None
  pub led : AreLed live first links
  pub hinted : AreHinted hints links

-- what isn't given is derived by its hints
abbrev pub AreDerived : List Entry → Type 0
AreDerived entries = (id : ℕ) (clause : List Literal) (hints : List ℕ) →
    clause_at entries id ≡ Some clause → origin_at entries id ≡ None
    → hints_at entries id ≡ Some hints → IsDerived (clause_at entries) clause hints
