-- What the calls of a log ask for.
use Rattle.std.specs.Prelude.{◌≡◌, ◌==◌, ℕ, ◌≤◌, ◌<◌, ◌^◌, Bool, true, false, List, Option, Some, None, IsSome, Contains}
use Rattle.std.specs.List.{All}
use Rattle.dq_lits.specs.Literal.{Literal, variable_of}
use Rattle.hint_log.specs.Entries.{Entry, Named, Given, Learned, Answer, name_of, last_id}
use Rattle.hint_log.specs.declared.names.Name.{Name}
use Rattle.hint_log.specs.declared.names.Name.TheVariants.{Input, And, Copy as CopyOf, Term}
use Rattle.hint_log.specs.Growth.{Each}

-- the literals stand on variables that have names
abbrev pub AreNamed : List Entry → List Literal → Type 0
AreNamed entries literals = All (λ l. IsSome (name_of entries (variable_of l))) literals

-- inputs and gates
abbrev pub is_circuit_name : Option Name → Bool
is_circuit_name (Some (Input _)) = true
is_circuit_name (Some (And _ _)) = true
is_circuit_name _ = false

-- first copies, and gates over them
abbrev pub is_term_name : Option Name → Bool
is_term_name (Some (CopyOf side _)) = side == 1
is_term_name (Some (Term _ _)) = true
is_term_name _ = false

-- the sides of a gate stand on inputs and gates that were named before, or on first copies and
-- gates over them
abbrev pub HasSides : List Entry → Name → Type 0
HasSides entries (And a b) =
    (is_circuit_name (name_of entries (variable_of a)) ≡ true)
    × (is_circuit_name (name_of entries (variable_of b)) ≡ true)
HasSides entries (Term a b) =
    (is_term_name (name_of entries (variable_of a)) ≡ true)
    × (is_term_name (name_of entries (variable_of b)) ≡ true)
HasSides entries _ = Unit {0}

-- an entry has this id
pub record IsId (entries : List Entry) (id : ℕ) : Type 0 where
  pub from_one : 1 ≤ id
  pub last : id ≤ last_id entries

abbrev pub AreIds : List Entry → List ℕ → Type 0
AreIds entries ids = (id : ℕ) → Contains ids id → IsId entries id

-- a variable that has no name may have this one, which no other has
pub record IsNewName (earlier : List Entry) (v : ℕ) (name : Name) : Type 0 where
  pub from_one : 1 ≤ v
  pub in_range : v < 2 ^ 62
  pub unnamed : name_of earlier v ≡ None
  pub fresh : (w : ℕ) → name_of earlier w ≡ Some name → ⊥
  pub sides : HasSides earlier name

-- what is asked of an entry behind these
abbrev pub MayFollow : List Entry → Entry → Type 0
MayFollow earlier (Named v name) = IsNewName earlier v name
MayFollow earlier (Given _ clause) = AreNamed earlier clause
MayFollow earlier (Learned clause hints) = AreNamed earlier clause × AreIds earlier hints
MayFollow earlier (Answer clause hints) = AreNamed earlier clause × AreIds earlier hints
MayFollow earlier _ = Unit {0}

-- what holds of every log
abbrev pub AreLogged : List Entry → Type 0
AreLogged entries = Each MayFollow entries
