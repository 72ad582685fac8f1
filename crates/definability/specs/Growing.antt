-- How a log grows while the copies are made, for private contracts.
use Rattle.std.specs.Prelude.{◌≡◌, ◌⊎◌, ◌≤◌, ℕ, Bool, true, false, List, length, None, Some}
use Rattle.std.specs.List.{Contains}
use Rattle.dq_lits.specs.Literal.{Literal}
use Rattle.dq_lits.specs.Formula.{Dqbf}
use Rattle.hint_log.specs.Entries.{Entry, Given, ProofLog, name_of}
use Rattle.hint_log.specs.Growth.{Grew}
use Rattle.hint_log.specs.ProductiveLog.{fault_groups, fault_room}
use Rattle.hint_log.specs.declared.names.Name.{Name}
use Rattle.hint_log.specs.declared.names.Name.TheVariants.{Selector, Copy as CopyOf}
use Rattle.hint_log.specs.declared.origins.Origin.{Origin}
use Rattle.hint_log.specs.declared.origins.Origin.TheVariants.{Copy, Link}
use Rattle.log_laws.specs.Engines.{copies, IsAddedBy}
use Rattle.definability.specs.declared.definability.Definability.{Definability}
use Rattle.definability.specs.Copies.{IsDefinability}

-- names, and clauses in groups that were made since, wherever one begins to look
abbrev pub GrewAnew : Dqbf → ProofLog → ProofLog → Type 0
GrewAnew f old new =
    (standing : ℕ) (start : List Entry)
    → ((v : ℕ) → name_of old.entries v ≡ None → name_of start v ≡ None)
    → Grew (IsAddedBy f copies standing true start) old new

-- clauses in one group, which is the standing one or was made since
abbrev pub GrewIn : Dqbf → ℕ → ProofLog → ProofLog → Type 0
GrewIn f group old new =
    (standing : ℕ) (start : List Entry) → (group ≡ standing) ⊎ (name_of start group ≡ None)
    → Grew (IsAddedBy f copies standing true start) old new

-- nothing was named or given
pub record HasSameGivens (old new : List Entry) : Type 0 where
  pub names : (v : ℕ) → name_of new v ≡ name_of old v
  pub entries : (e : Entry) → Contains old e → Contains new e
  pub givens : (origin : Origin) (c : List Literal) → Contains new (Given origin c)
      → Contains old (Given origin c)

-- whatever came of a search: the copies stand, nothing was named or given, and what is new in the
-- log may be any group's
pub record HasSearched (f : Dqbf) (p : Definability) (old new : ProofLog) : Type 0 where
  pub copied : IsDefinability f p new.entries
  pub same : HasSameGivens old.entries new.entries
  pub grew : (group : ℕ) → Grew (IsAddedBy f copies group true old.entries) old new

-- there is room for a given clause more
abbrev pub HasFewFaults : List Entry → Type 0
HasFewFaults entries = length (fault_groups entries) ≤ fault_room entries

-- copies, and selectors
abbrev pub is_copy_name : Name → Bool
is_copy_name (CopyOf s v) = true
is_copy_name (Selector g) = true
is_copy_name _ = false

-- clauses of copies, and equations between these
abbrev pub is_copy_origin : Origin → Bool
is_copy_origin (Copy s j) = true
is_copy_origin (Link v i) = true
is_copy_origin _ = false

-- only copies and selectors were named, and only clauses on copies were given
pub record HasCopied (old new : List Entry) : Type 0 where
  pub names : (v : ℕ) (n : Name) → name_of new v ≡ Some n
      → (name_of old v ≡ Some n) ⊎ (is_copy_name n ≡ true)
  pub givens : (origin : Origin) (c : List Literal) → Contains new (Given origin c)
      → Contains old (Given origin c) ⊎ (is_copy_origin origin ≡ true)

-- what is new are given clauses of origins that pass the test, in this group
pub record Gives (f : Dqbf) (test : Origin → Bool) (group : ℕ) (old new : ProofLog) : Type 0 where
  pub grew : GrewIn f group old new
  pub names : (v : ℕ) → name_of new.entries v ≡ name_of old.entries v
  pub givens : (origin : Origin) (c : List Literal) → Contains new.entries (Given origin c)
      → Contains old.entries (Given origin c) ⊎ (test origin ≡ true)
