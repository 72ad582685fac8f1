-- Literals on pairs.
use Rattle.std.proofs.Common.{◌≡◌, ℕ, ◌+◌, ◌-◌, ◌*◌, ◌%◌, ◌≤◌, ◌==◌, Bool, true, false, not, inl, inr, List, [], ◌∷◌, map, get_or, Option, Some, None, IfSome, is_some, refl, sym, ◌∙◌, ap, subst, arith}
use Rattle.std.specs.List.{All, Contains, list_any, filter, filter_map, position_or_len}
use Rattle.std.proofs.lemmas.Bool.{true≢false, or_cases, or_left, or_right, cases_Bool}
use Rattle.std.proofs.lemmas.List.Elements.{All-contains, Contains-append_cases, Contains-append_right, All-tail, All-head}
use Rattle.list_laws.proofs.Members.{tested_inside}
use Rattle.list_laws.proofs.Numbers.{pair_variable}
use Rattle.dq_lits.specs.Literal.{Literal, positive, negative, variable_of, opposite, on_variable, same_literal}
use Rattle.dq_lits.specs.Formula.{Existential, Dqbf, declared, is_universal, existential_of, IsWellFormed}
use Rattle.dq_lits.specs.Henkin.{same_bits, restriction}
use Rattle.dq_lits.specs.Derivation.{holds, is_tautology}
use Rattle.dq_lits.specs.Expansion.{row_assignment, agree_on, pair_literal, instance_clause, universal_literal_true}
use Rattle.dq_lits.proofs.Truth.{same_literal-sound}
use Rattle.dq_lits.proofs.SignedLiterals.{same_literal-refl, opposite_variable, variable_of-on, one_variable}
use Rattle.dq_lits.proofs.Choices.{same_bits-sound}
use Rattle.dq_formula.specs.Prefix.{existential_variables}
use Rattle.dq_formula.proofs.Entries.{is_some-find, list_any-map}
use Rattle.dq_prep.specs.Units.{left_of}
use Rattle.dq_prep.specs.Roles.{open_literals}
use Rattle.dq_prep.proofs.LeftLiterals.{left-opens}
use Rattle.dq_prep.proofs.LiteralRoles.{universals-see-nothing}
use Rattle.dq_prep.proofs.SeenUniversals.{filters-agree}
use Rattle.dq_prep.proofs.SignedLiterals.{not-same, pair-in, pair-any}
use Rattle.dq_prep.proofs.WellFormed.{IsBound, all-left}
use Rattle.refutation_checker.specs.Pairs.{pair_of, first_agreeing, existential_part}
use Rattle.refutation_checker.proofs.PairNumbers.{instance_part}
use Rattle.lifted_proofs.specs.Lines.{paired}

pub opposite-on : (n : ℕ) (l : Literal) → opposite (on_variable n l) ≡ on_variable n (opposite l)
opposite-on n (positive v) = refl
opposite-on n (negative v) = refl

-- the opposite of a literal on its pair
pub opposite-paired : (f : Dqbf) (rows : List (List Bool)) (row : List Bool) (l : Literal)
    → opposite (paired f rows row l) ≡ paired f rows row (opposite l)
opposite-paired f rows row l = search (arith, opposite-on, opposite_variable)

-- a bound variable is an existential's or a universal's
pub existential-or-universal : (f : Dqbf) (l : Literal) → IsWellFormed f → IsBound f l
    → is_some (existential_of f (variable_of l)) ≡ not (is_universal f (variable_of l))
existential-or-universal f l well bound = elim (cases_Bool (is_universal f (variable_of l))) [
  | inl universal ↦ ap (λ (o : Option Existential). is_some o) (universals-see-nothing f well l universal)
      ∙ sym (ap not universal)
  | inr other ↦
      elim (Contains-append_cases f.universals (existential_variables f) (variable_of l) bound) [
        | inl universal ↦
            absurd (true≢false (sym (tested_inside f.universals (variable_of l) universal) ∙ other))
        | inr existential ↦
            is_some-find (λ y. y.variable == variable_of l) f.existentials
            ∙ sym (list_any-map (λ x. x == variable_of l) (λ y. y.variable) f.existentials)
            ∙ tested_inside (existential_variables f) (variable_of l) existential
            ∙ sym (ap not other)
      ]
]

pub bound-in : (f : Dqbf) (xs : List Literal) (l : Literal) → All (IsBound f) xs → holds xs l ≡ true → IsBound f l
bound-in f [] l all h = absurd (true≢false (sym h))
bound-in f (x ∷ xs) l all h = elim (or_cases (same_literal l x) (holds xs l) h) [
  | inl same ↦ subst (IsBound f) (sym (same_literal-sound l x same)) (All-head (IsBound f) x xs all)
  | inr later ↦ bound-in f xs l (All-tail (IsBound f) x xs all) later
]

existentials-are : (f : Dqbf) (clause : List Literal) → IsWellFormed f → All (IsBound f) clause
    → existential_part f clause ≡ filter (λ l. not (is_universal f (variable_of l))) clause
existentials-are f clause well bound =
    filters-agree (λ l. is_some (existential_of f (variable_of l))) (λ l. not (is_universal f (variable_of l))) clause
    (λ k d below. existential-or-universal f (get_or clause k d) well (bound k d below))

-- what is left of a clause, on pairs
pub left-paired : (f : Dqbf) (rows : List (List Bool)) (row : List Bool) (trues clause : List Literal)
    → IsWellFormed f → All (IsBound f) clause
    → filter_map (pair_literal f rows row) (left_of f trues clause)
    ≡ map (paired f rows row) (open_literals f trues clause)
left-paired f rows row trues clause well bound = search (arith, instance_part, existentials-are, all-left, left-opens)

pub clause-paired : (f : Dqbf) (rows : List (List Bool)) (row : List Bool) (clause : List Literal)
    → list_any (universal_literal_true f row) clause ≡ false
    → instance_clause f rows row clause ≡ Some (map (paired f rows row) (existential_part f clause))
clause-paired f rows row clause none = search (arith, instance_part)

-- rows that agree give one pair
pub one-pair : (f : Dqbf) (rows : List (List Bool)) (r s : List Bool) (v : ℕ)
    → IfSome (existential_of f v) (λ y. agree_on f y r s ≡ true) → pair_of f rows r v ≡ pair_of f rows s v
one-pair f rows r s v agrees = by (existential_of f v) agrees
  where
    by : (o : Option Existential) → IfSome o (λ y. agree_on f y r s ≡ true)
        → first_agreeing f rows o r * f.variables + v ≡ first_agreeing f rows o s * f.variables + v
    by None agrees = refl
    by (Some y) agrees =
        ap (λ bits. position_or_len (λ row. same_bits bits (restriction y (row_assignment f row))) rows * f.variables
        + v)
        (same_bits-sound (restriction y (row_assignment f r)) (restriction y (row_assignment f s)) agrees)

abbrev pub InRange : Dqbf → ℕ → Type 0
InRange f v = (1 ≤ v) × (v ≤ f.variables)

pub pair-variable : (f : Dqbf) (rows : List (List Bool)) (r s : List Bool) (v w : ℕ) → InRange f v → InRange f w
    → pair_of f rows r v ≡ pair_of f rows s w → v ≡ w
pair-variable f rows r s v w rv rw same =
    sym (pair_variable (first_agreeing f rows (existential_of f v) r) f.variables v rv.0 rv.1)
    ∙ ap (λ n. (n - 1) % f.variables + 1) same
    ∙ pair_variable (first_agreeing f rows (existential_of f w) s) f.variables w rw.0 rw.1

pub bound-range : (f : Dqbf) (v : ℕ) → IsWellFormed f → Contains (declared f) v → InRange f v
bound-range f v well bound = All-contains (InRange f) (declared f) v well.prefix.in_range bound

pub existential-range : (f : Dqbf) (v : ℕ) → IsWellFormed f → Contains (existential_variables f) v → InRange f v
existential-range f v well inside = search (arith, bound-range, Contains-append_right)

-- a literal of a list on pairs
pub paired-in : (f : Dqbf) (rows : List (List Bool)) (row : List Bool) (ls : List Literal) (p : Literal)
    → holds (map (paired f rows row) ls) p ≡ true
    → (l : Literal) × (holds ls l ≡ true) × (p ≡ paired f rows row l)
paired-in f rows row [] p h = absurd (true≢false (sym h))
paired-in f rows row (l ∷ ls) p h =
    search (arith, or_cases, or_left, same_literal-refl, same_literal-sound, (paired-in f rows row ls p), or_right)

pub paired-holds : (f : Dqbf) (rows : List (List Bool)) (row : List Bool) (ls : List Literal) (l : Literal)
    → holds ls l ≡ true → holds (map (paired f rows row) ls) (paired f rows row l) ≡ true
paired-holds f rows row [] l h = h
paired-holds f rows row (k ∷ ks) l h =
    search (arith, or_cases, or_left, same_literal-sound, same_literal-refl, or_right, (paired-holds f rows row ks l))

-- on pairs no literal comes to stand beside its negation
pub paired-plain : (f : Dqbf) (rows : List (List Bool)) (row : List Bool) (ls : List Literal)
    → ((l : Literal) → holds ls l ≡ true → InRange f (variable_of l)) → is_tautology ls ≡ false
    → is_tautology (map (paired f rows row) ls) ≡ false
paired-plain f rows row ls range plain = elim (cases_Bool (is_tautology (map (paired f rows row) ls))) [
  | inr other ↦ other
  | inl both ↦
      let r = pair-in (map (paired f rows row) ls) (map (paired f rows row) ls) both in
      let a = paired-in f rows row ls r.0 r.1 in
      let b = paired-in f rows row ls (opposite r.0) r.2 in
      let first : variable_of r.0 ≡ pair_of f rows row (variable_of a.0) =
      ap variable_of a.2 ∙ variable_of-on (pair_of f rows row (variable_of a.0)) a.0 in
      let second : variable_of r.0 ≡ pair_of f rows row (variable_of b.0) =
      sym (opposite_variable r.0) ∙ ap variable_of b.2 ∙ variable_of-on (pair_of f rows row (variable_of b.0)) b.0 in
      let same = pair-variable f rows row row (variable_of b.0) (variable_of a.0) (range b.0 b.1) (range a.0 a.1)
      (sym second ∙ first) in
      absurd (elim (one_variable b.0 a.0 same) [
        | inl is ↦
            let twice : opposite r.0 ≡ r.0 = b.2 ∙ ap (paired f rows row) is ∙ sym a.2 in
            true≢false (sym (same_literal-refl r.0) ∙ ap (λ q. same_literal q r.0) (sym twice) ∙ not-same r.0)
        | inr is ↦
            true≢false (sym (pair-any ls ls a.0 a.1 (ap (holds ls) (sym is) ∙ b.1)) ∙ plain)
      ])
]
