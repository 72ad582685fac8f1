-- Words of private contracts: existentials of a formula that is being built.
use Rattle.std.specs.Prelude.{ℕ, List}
use Rattle.dq_lits.specs.Formula.{Existential}

-- the variable sees these universals
abbrev pub seeing : List ℕ → ℕ → Existential
seeing universals v = record { variable = v; sees = universals }
