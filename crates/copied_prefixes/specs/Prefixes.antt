-- Words of private contracts: a prefix that is copied.
use Rattle.std.specs.Prelude.{◌≡◌, ℕ, ◌≤◌, [], Some, IsSome, length, take, slice_index_or}
use Rattle.std.specs.List.{All, Contains}
use Rattle.dq_lits.specs.Formula.{Existential, Dqbf, existential_of}

-- the first universals and existentials, so many, and no clause
abbrev pub begun : Dqbf → ℕ → ℕ → Dqbf
begun f n i = record f {
  universals = take n f.universals;
  existentials = take i f.existentials;
  matrix = [];
}

pub record IsBegun (f g : Dqbf) : Type 0 where
  pub universals : length g.universals ≤ length f.universals
  pub existentials : length g.existentials ≤ length f.existentials
  pub same : g ≡ begun f (length g.universals) (length g.existentials)

-- the existential at a place has this variable
pub record IsAt (f : Dqbf) (place y : ℕ) : Type 0 where
  pub existential : Existential
  pub found : existential_of f y ≡ Some existential
  pub named : existential.variable ≡ y
  pub stands : slice_index_or f.existentials place existential ≡ existential
  pub declared : IsSome (existential_of f y)
  pub from_one : 1 ≤ y
  pub in_range : y ≤ f.variables

-- the existential depends on some of the first universals, so many
abbrev pub SeesAmong : Dqbf → ℕ → Existential → Type 0
SeesAmong f end e = All (Contains (take end f.universals)) e.sees
