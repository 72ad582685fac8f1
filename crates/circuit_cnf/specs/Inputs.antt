-- Inputs that were named, and nothing else of a circuit, for private contracts.
use Rattle.std.specs.Prelude.{◌≡◌, ℕ, List, Some}
use Rattle.std.specs.List.{Contains}
use Rattle.dq_lits.specs.Literal.{Literal}
use Rattle.hint_log.specs.Entries.{Entry, Given, name_of}
use Rattle.hint_log.specs.declared.names.Name.TheVariants.{Input, And, Bad}
use Rattle.hint_log.specs.declared.origins.Origin.TheVariants.{Gate}

pub record HasNoGates (entries : List Entry) : Type 0 where
  pub unnamed : (v : ℕ) (a b : Literal) → name_of entries v ≡ Some (And a b) → ⊥
  pub no_bads : (v group j : ℕ) → name_of entries v ≡ Some (Bad group j) → ⊥
  pub not_given : (v i : ℕ) (c : List Literal) → Contains entries (Given (Gate v i) c) → ⊥

-- the inputs that have names are of these universals
abbrev pub AreInputsOf : List ℕ → List Entry → Type 0
AreInputsOf universals entries =
    (v x : ℕ) → name_of entries v ≡ Some (Input x) → Contains universals x
