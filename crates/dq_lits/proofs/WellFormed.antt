-- Well-formed formulas, by a test.
use Rattle.std.proofs.Common.{◌≡◌, ℕ, ◌==◌, ◌≤◌, Bool, true, false, not, ◌&&◌, List, [], ◌∷◌, nat_le}
use Rattle.std.specs.List.{All, Contains, list_any, list_all, IsDistinct}
use Rattle.std.proofs.lemmas.Bool.{and_parts, leb-true, not-true, eqb-true}
use Rattle.std.proofs.lemmas.Bool.Decides.{Decides-eqb}
use Rattle.std.proofs.lemmas.Map.Made.{AllPairs-from_IsDistinct}
use Rattle.std.proofs.lemmas.Map.Views.{Contains-from_any}
use Rattle.list_laws.proofs.Folds.{each, all_passing}
use Rattle.dq_lits.specs.Literal.{variable_of}
use Rattle.dq_lits.specs.Formula.{Dqbf, declared, IsWellFormed}

abbrev is_declared : List ℕ → ℕ → Bool
is_declared xs v = list_any (λ x. v == x) xs

abbrev are_distinct : List ℕ → Bool
are_distinct [] = true
are_distinct (x ∷ xs) = list_all (λ y. not (x == y)) xs && are_distinct xs

abbrev in_range : Dqbf → ℕ → Bool
in_range f v = nat_le 1 v && nat_le v f.variables

abbrev pub is_well_formed : Dqbf → Bool
is_well_formed f =
    list_all (in_range f) (declared f)
    && (are_distinct (declared f)
    && (list_all (λ y. list_all (is_declared f.universals) y.sees) f.existentials
    && list_all (λ clause. list_all (λ l. is_declared (declared f) (variable_of l)) clause) f.matrix))

distinct_by : (xs : List ℕ) → are_distinct xs ≡ true → IsDistinct (λ x y. x == y) xs
unfolding IsDistinct
distinct_by [] h = tt
distinct_by (x ∷ xs) h =
    let parts = and_parts (list_all (λ y. not (x == y)) xs) (are_distinct xs) h in
    (each (λ y. not (x == y)) (λ y. (x == y) ≡ false) (λ y. not-true (x == y)) xs parts.0, distinct_by xs parts.1)

pub well_formed_by : (f : Dqbf) → is_well_formed f ≡ true → IsWellFormed f
well_formed_by f h =
    let range = and_parts (list_all (in_range f) (declared f)) _ h in
    let once = and_parts (are_distinct (declared f)) _ range.1 in
    let seen = and_parts (list_all (λ y. list_all (is_declared f.universals) y.sees) f.existentials) _ once.1 in
    record {
      prefix = record {
        in_range = all_passing (in_range f) (λ v. (1 ≤ v) × (v ≤ f.variables))
            (λ v test. let parts = and_parts (nat_le 1 v) (nat_le v f.variables) test in
            (leb-true 1 v parts.0, leb-true v f.variables parts.1))
            (declared f) range.0;
        declared_once = AllPairs-from_IsDistinct Decides-eqb (declared f) (distinct_by (declared f) once.0);
        sees_universals = all_passing (λ y. list_all (is_declared f.universals) y.sees)
            (λ y. All (Contains f.universals) y.sees)
            (λ y. all_passing (is_declared f.universals) (Contains f.universals)
            (λ x. Contains-from_any eqb-true x f.universals) y.sees)
            f.existentials seen.0;
      };
      bound = all_passing (λ clause. list_all (λ l. is_declared (declared f) (variable_of l)) clause)
          (All (λ l. Contains (declared f) (variable_of l)))
          (λ clause. all_passing (λ l. is_declared (declared f) (variable_of l)) (λ l. Contains (declared f) (variable_of l))
          (λ l. Contains-from_any eqb-true (variable_of l) (declared f)) clause)
          f.matrix seen.1;
    }
