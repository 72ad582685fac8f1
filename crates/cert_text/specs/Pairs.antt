-- The variables of an expansion refutation: pairs of an existential and a row (universal expansion;
-- U. Bubeck, H. Kleine Büning, "Dependency quantified Horn formulas", 2006).
use Rattle.std.specs.Prelude.{ℕ, ◌+◌, ◌-◌, ◌/◌, ◌%◌, ◌==◌, nat_lt, Bool, not, ◌&&◌, is_some}
use Rattle.dq_lits.specs.Formula.{Dqbf, existential_of}

-- the number is (k - 1) * V + y for an existential y and a k from 1 to the number of rows
abbrev pub is_pair_number : Dqbf → ℕ → ℕ → Bool
is_pair_number f rows number =
    not (f.variables == 0) && (not (number == 0)
    && (nat_lt ((number - 1) / f.variables) rows
    && is_some (existential_of f ((number - 1) % f.variables + 1))))
