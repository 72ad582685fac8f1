-- The rule that a clause states by itself.
use Rattle.std.proofs.Common.{◌≡◌, ◌≢◌, ℕ, ◌<◌, ◌+◌, ◌==◌, Bool, true, false, true≢false, not, ◌||◌, List, [], ◌∷◌, ◌++◌, take, get_or, length, Option, None, Some, refl, sym, ◌∙◌, ap, subst, if◌then◌else◌, arith}
use Rattle.list_laws.proofs.Truths.{not_true}
use mathlib.Core.Bool.{beq}
use Rattle.std.specs.Prelude.{IsSome}
use Rattle.std.specs.List.{All, Contains, list_all, filter_map, cons_option}
use Rattle.std.proofs.lemmas.Bool.{and_parts, eq-eqb, eqb-true}
use Rattle.std.proofs.lemmas.List.{take_more}
use Rattle.std.proofs.lemmas.List.Elements.{filter_map-append, All-head, All-tail, All-cons, All-nil}
use Rattle.dq_lits.specs.Formula.{Dqbf, Existential, existential_of}
use Rattle.dq_lits.specs.Henkin.{MatrixHolds}
use Rattle.dq_lits.specs.Literal.{Assignment, Literal, positive, negative, variable_of, is_negative, opposite, literal_true, clause_true}
use Rattle.dq_lits.proofs.SignedLiterals.{opposite_variable}
use Rattle.dq_lits.proofs.TrueClauses.{opposite-false}
use Rattle.dq_formula.specs.Rules.{IsRule, cube_true}
use Rattle.known_functions.specs.Stating.{FitsRule, rest_literal, rest_cube}

-- one literal of the clause more
pub rest_more : (y : ℕ) (xs : List Literal) (i : ℕ) (l : Literal) (o : Option Literal) (old new : List Literal) →
    i < length xs → get_or xs i l ≡ l →
    o ≡ rest_literal y l → old ≡ rest_cube y (take i xs) → new ≡ old ++ cons_option o [] →
    new ≡ rest_cube y (take (i + 1) xs)
rest_more y xs i l o old new lt at is before pushed =
    pushed ∙ ap (λ ls. ls ++ cons_option o []) before ∙ ap (λ p. rest_cube y (take i xs) ++ cons_option p []) is
    ∙ sym (ap (filter_map (rest_literal y)) (take_more xs i l lt ∙ ap (λ k. take i xs ++ k ∷ []) at) ∙ filter_map-append
    (rest_literal y) (take i xs) (l ∷ []))

-- the cube is over what the existential sees
pub rest_seen : (y : ℕ) (e : Existential) (bit : Bool) (ls : List Literal) → All (FitsRule y e bit) ls →
    All (λ l. Contains e.sees (variable_of l)) (rest_cube y ls)
rest_seen y e bit [] fits = All-nil (λ l. Contains e.sees (variable_of l))
rest_seen y e bit (l ∷ ls) fits = by (variable_of l == y) refl
    (rest_seen y e bit ls (All-tail (FitsRule y e bit) l ls fits)) where
      by : (b : Bool) → (variable_of l == y) ≡ b → All (λ l. Contains e.sees (variable_of l)) (rest_cube y ls) →
          All (λ l. Contains e.sees (variable_of l)) (rest_cube y (l ∷ ls))
      by true is later = subst (λ b. All (λ l. Contains e.sees (variable_of l))
          (cons_option (if b then None else Some (opposite l)) (rest_cube y ls))) (sym is) later
      by false is later = subst (λ b. All (λ l. Contains e.sees (variable_of l))
          (cons_option (if b then None else Some (opposite l)) (rest_cube y ls))) (sym is)
          (All-cons (λ l. Contains e.sees (variable_of l)) (opposite l) (rest_cube y ls)
          (subst (Contains e.sees) (sym (opposite_variable l)) ((All-head (FitsRule y e bit) l ls fits).seen is)) later)

-- a true literal with this sign gives its variable the bit
own_bit : (m : Assignment) (l : Literal) (bit : Bool) → is_negative l ≡ not bit → literal_true m l ≡ true →
    m (variable_of l) ≡ bit
own_bit m (positive v) true sign holds = holds
own_bit m (positive v) false sign holds = absurd (true≢false (sym sign))
own_bit m (negative v) true sign holds = absurd (true≢false sign)
own_bit m (negative v) false sign holds = not_true (m v) holds

-- where the cube and the clause are true, the existential has the bit
pub rest_forces : (y : ℕ) (e : Existential) (bit : Bool) (m : Assignment) (ls : List Literal) →
    All (FitsRule y e bit) ls → list_all (literal_true m) (rest_cube y ls) ≡ true → clause_true m ls ≡ true → m y ≡ bit
rest_forces y e bit m [] fits cube holds = absurd (true≢false (sym holds))
rest_forces y e bit m (l ∷ ls) fits cube holds = by (rest_forces y e bit m ls (All-tail (FitsRule y e bit) l ls fits))
    (variable_of l == y) refl (literal_true m l) refl where
      fit : FitsRule y e bit l
      fit = All-head (FitsRule y e bit) l ls fits

      spelled : (b : Bool) → (variable_of l == y) ≡ b → list_all (literal_true m)
          (cons_option (if b then None else Some (opposite l)) (rest_cube y ls)) ≡ true
      spelled b is = subst (λ b. list_all (literal_true m) (cons_option (if b then None else Some (opposite l))
          (rest_cube y ls)) ≡ true) is cube

      left : (t : Bool) → literal_true m l ≡ t → (t || clause_true m ls) ≡ true
      left t is = subst (λ t. (t || clause_true m ls) ≡ true) is holds

      by : (list_all (literal_true m) (rest_cube y ls) ≡ true → clause_true m ls ≡ true → m y ≡ bit) → (b : Bool) →
          (variable_of l == y) ≡ b → (t : Bool) → literal_true m l ≡ t → m y ≡ bit
      by further true own true is = subst (λ v. m v ≡ bit) (eqb-true (variable_of l) y own)
          (own_bit m l bit (fit.own own) is)
      by further true own false is = further (spelled true own) (left false is)
      by further false other t is =
          let both = and_parts (literal_true m (opposite l)) (list_all (literal_true m) (rest_cube y ls))
          (spelled false other) in
          further both.1 (left false (opposite-false m l both.0))

-- a clause of the matrix that fits states a rule
pub states_rule : (f : Dqbf) (y number : ℕ) (bit : Bool) (clause cube : List Literal) → IsSome (existential_of f y) →
    number < length f.matrix → clause ≡ get_or f.matrix number [] →
    cube ≡ rest_cube y clause → ((e : Existential) → existential_of f y ≡ Some e → All (FitsRule y e bit) clause) →
    IsRule f (record { y = y; cube = cube; bit = bit })
states_rule f y number bit clause cube declared there at spelled fits = record {
  over_seen = λ e found. subst (All (λ l. Contains e.sees (variable_of l))) (sym spelled)
      (rest_seen y e bit clause (fits e found));
  forced = λ m matrix truth. by (existential_of f y) refl declared m matrix truth;
}
  where
    by : (o : Option Existential) → existential_of f y ≡ o → IsSome o → (m : Assignment) → MatrixHolds f m →
        cube_true m cube ≡ true → m y ≡ bit
    by None found some m matrix truth = cc
    by (Some e) found some m matrix truth = rest_forces y e bit m clause (fits e found)
        (subst (λ c. cube_true m c ≡ true) spelled truth) (subst (λ c. clause_true m c ≡ true) (sym at)
        (matrix number [] there))

-- two bits that aren't equal
pub differ : (a b : Bool) → not (beq a b) ≡ true → a ≡ not b
differ true true h = cc
differ true false h = refl
differ false true h = refl
differ false false h = cc

-- a literal fits on either side of the test
pub fits_own : (y : ℕ) (e : Existential) (bit sign : Bool) (l : Literal) (v : ℕ) → v ≡ variable_of l →
    sign ≡ is_negative l → v ≡ y → sign ≡ not bit → FitsRule y e bit l
fits_own y e bit sign l v is signed same says = search (arith, true≢false, eq-eqb)

pub fits_seen : (y : ℕ) (e : Existential) (bit : Bool) (l : Literal) (v : ℕ) → v ≡ variable_of l → v ≢ y →
    Contains e.sees v → FitsRule y e bit l
fits_seen y e bit l v is other seen = search (arith, eqb-true)
