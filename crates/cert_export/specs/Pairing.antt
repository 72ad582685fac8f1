-- Pairs' numbers, as they are read from variables' names and the rounds of the instances that they
-- stand in.
use Rattle.std.specs.Prelude.{◌≡◌, ℕ, ◌+◌, ◌*◌, ◌==◌, ◌≤◌, Bool, true, List, length, Option, None, Some}
use Rattle.std.specs.List.{All, Contains, position_or_len}
use Rattle.dq_lits.specs.Literal.{Literal, variable_of}
use Rattle.dq_lits.specs.Formula.{Dqbf}
use Rattle.hint_log.specs.Entries.{Entry, Given, has_id, numbered, name_of}
use Rattle.hint_log.specs.Naming.{rows_of}
use Rattle.hint_log.specs.declared.names.Name.{Name}
use Rattle.hint_log.specs.declared.names.Name.TheVariants.{Pair}
use Rattle.hint_log.specs.declared.origins.Origin.{Origin}
use Rattle.hint_log.specs.declared.origins.Origin.TheVariants.{Instance}
use Rattle.cert_text.specs.Pairs.{is_pair_number}
use Rattle.refutation_checker.specs.Refutation.{normal_number}
use Rattle.cert_export.specs.Expansion.{rows_among, pair_of, pair_renaming}
use Rattle.cert_export.specs.Exported.{normal_names}
use Rattle.cert_export.specs.Renaming.{Renaming, IsPartOf, IsNamed}

-- the pair has the number of its existential under the kept row at this place
pub record IsPairAt (f : Dqbf) (rows kept : List (List Bool)) (place k y : ℕ) : Type 0 where
  pub from_one : 1 ≤ y
  pub in_range : y ≤ f.variables
  pub number : pair_of f rows kept (Some (Pair k y))
      ≡ Some (normal_number f kept (place * f.variables + y))
  pub is_pair : is_pair_number f (length kept) (place * f.variables + y) ≡ true

-- a name that is such a pair's, or no pair's
abbrev pub IsNameAt : Dqbf → List (List Bool) → List (List Bool) → ℕ → Option Name → Type 0
IsNameAt f rows kept place None = ⊥
IsNameAt f rows kept place (Some (Pair k y)) = IsPairAt f rows kept place k y
IsNameAt f rows kept place (Some _) = Unit {0}

-- so it is of a variable's name, under the rows of these rounds
abbrev pub HasNameAt : Dqbf → List Entry → List ℕ → ℕ → ℕ → Type 0
HasNameAt f entries rounds place v =
    IsNameAt f (rows_of entries) (rows_among entries rounds) place (name_of entries v)

-- the variables of an instance under the row of the round at its place
abbrev pub AreNamedAt : Dqbf → List Entry → List ℕ → Origin → List Literal → Type 0
AreNamedAt f entries rounds (Instance k j) clause =
    Contains rounds k
    × All (λ l. HasNameAt f entries rounds (position_or_len (λ i. i == k) rounds) (variable_of l))
    clause
AreNamedAt f entries rounds _ clause = ⊥

-- the given clauses among these ids are such instances
abbrev pub HaveNames : Dqbf → List Entry → List ℕ → List ℕ → Type 0
HaveNames f entries rounds ids =
    (id : ℕ) (origin : Origin) (c : List Literal) → Contains ids id
    → numbered has_id entries id ≡ Some (Given origin c) → AreNamedAt f entries rounds origin c

-- numbers of pairs, which are those that they are to be
pub record ArePairNames (f : Dqbf) (entries : List Entry) (rounds : List ℕ)
    (r : Renaming) : Type 0 where
  pub right : IsPartOf (normal_names f (rows_among entries rounds) r) (pair_renaming f entries rounds)
  pub pairs : (v x : ℕ) → r v ≡ Some x
      → is_pair_number f (length (rows_among entries rounds)) x ≡ true

-- a variable has its pair's number, or none where it has no pair
abbrev pub IsPairNamed : Dqbf → List Entry → List ℕ → Renaming → Literal → Type 0
IsPairNamed f entries rounds r l =
    IsNamed (pair_renaming f entries rounds) (normal_names f (rows_among entries rounds) r) l

pub record ArePairsNamed (f : Dqbf) (entries : List Entry) (rounds : List ℕ) (r : Renaming)
    (clause : List Literal) : Type 0 where
  pub names : ArePairNames f entries rounds r
  pub named : All (IsPairNamed f entries rounds r) clause
