-- Words of private contracts: the universals that a clause's existentials depend on.
use Rattle.std.specs.Prelude.{◌≡◌, ℕ, ◌==◌, nat_lt, Bool, true, not, ◌||◌, List}
use Rattle.std.specs.List.{position_or_len}
use Rattle.number_tables.specs.Numbers.{has_number}
use Rattle.dq_lits.specs.Literal.{Literal, variable_of}
use Rattle.dq_lits.specs.Formula.{Dqbf, is_universal, existential_of}
use Rattle.dq_prep.specs.declared.sights.Sight.{Sight}
use Rattle.dq_prep.specs.Reduction.{sees_in, is_seen}

abbrev pub is_within : Dqbf → Sight → ℕ → Bool
is_within f s x = nat_lt (position_or_len (λ u. u == x) f.universals) s.first || has_number s.others x

-- a literal that stays by this: it is on no universal, or on one within
abbrev pub keeps : Dqbf → Sight → Literal → Bool
keeps f s l = not (is_universal f (variable_of l)) || is_within f s (variable_of l)

-- of these universals, those that the existential depends on were added
abbrev pub Adds : Dqbf → Sight → Sight → ℕ → List ℕ → Type 0
Adds f old new y universals = (x : ℕ) → has_number universals x ≡ true
    → is_within f new x ≡ (is_within f old x || sees_in x (existential_of f y))

-- of these universals, there are those that some existential of the clause depends on
abbrev pub AreWithin : Dqbf → Sight → List Literal → List ℕ → Type 0
AreWithin f s clause universals = (x : ℕ) → has_number universals x ≡ true
    → is_within f s x ≡ is_seen f clause x
