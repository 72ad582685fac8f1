-- How a clause stands, by its open literals.
use Rattle.std.proofs.Common.{◌≡◌, ℕ, zero, suc, ◌<◌, ◌≤◌, Bool, true, false, not, ◌||◌, inl, inr, List, [], ◌∷◌, map, length, get_or, slice_get, Some, sym, ◌∙◌, ap, subst, arith}
use Rattle.std.specs.Prelude.{slice_index_or}
use Rattle.std.specs.List.{All, list_any, filter}
use Rattle.std.proofs.lemmas.Bool.{true≢false, or_cases, or_left, or_right, or_parts, and_parts}
use Rattle.std.proofs.lemmas.List.{get_or-map}
use Rattle.std.proofs.lemmas.List.Elements.{filter_passes}
use Rattle.list_laws.proofs.Truths.{not_true}
use Rattle.dq_lits.specs.Literal.{Literal, positive, negative, variable_of, opposite, same_literal}
use Rattle.dq_lits.specs.Formula.{Dqbf, is_universal, existential_of}
use Rattle.dq_lits.specs.Derivation.{holds, is_tautology}
use Rattle.dq_lits.proofs.Truth.{same_literal-sound}
use Rattle.dq_lits.proofs.SignedLiterals.{same_literal-refl}
use Rattle.dq_prep.specs.declared.traces.Taken.{Taken}
use Rattle.dq_prep.specs.declared.roles.Opens.TheVariants.{Nothing, One}
use Rattle.dq_prep.specs.Reduction.{sees_in, is_seen}
use Rattle.dq_prep.specs.Units.{taken_literals, is_satisfied, left_of, IsUnit, AreUnits}
use Rattle.dq_prep.specs.Roles.{is_open, open_literals, AreOpen}
use Rattle.dq_prep.specs.Takings.{IsNoUnit, IsRemainder, remainder_of_none, remainder_of_one}
use Rattle.dq_prep.proofs.OpenLiterals.{none-universal}
use Rattle.dq_prep.proofs.LeftLiterals.{UniversalsSeeNothing, left-opens, left-is-open, seen-left, tautology-stays, alone-plain}
use Rattle.list_laws.proofs.Options.{some_same}

-- what an existential sees is a universal
abbrev pub UniversalsAreSeen : Dqbf → Type 0
UniversalsAreSeen f = (y x : ℕ) → sees_in x (existential_of f y) ≡ true → is_universal f x ≡ true

-- a clause that is looked at
pub record Looked (f : Dqbf) (units : List Taken) (place : ℕ) (clause : List Literal) : Type 0 where
  pub nothing : UniversalsSeeNothing f
  pub are : AreUnits f units
  pub at : slice_get f.matrix place ≡ Some clause

-- a further unit there is one of this clause
unit-of : (f : Dqbf) (units : List Taken) (place : ℕ) (clause : List Literal) (u : Taken)
    → Looked f units place clause → u.place ≡ place → (it : IsUnit f units u) → it.clause ≡ clause
unit-of f units place clause u looked same it = search (arith, some_same)

pub satisfied-other : (f : Dqbf) (units : List Taken) (place : ℕ) (clause : List Literal)
    → Looked f units place clause → is_satisfied (taken_literals units) clause ≡ true → IsNoUnit f units place
satisfied-other f units place clause looked satisfied u same it = search (arith, true≢false, unit-of)

few-pass : (p : Literal → Bool) (l : Literal) → 2 ≤ length (filter p (l ∷ [])) → ⊥
few-pass p l = search arith

pub more-other : (f : Dqbf) (units : List Taken) (place : ℕ) (clause : List Literal)
    → Looked f units place clause → 2 ≤ length (open_literals f (taken_literals units) clause)
    → IsNoUnit f units place
more-other f units place clause looked many u same it = search (arith, unit-of, left-opens, few-pass)

tautology-other : (f : Dqbf) (units : List Taken) (place : ℕ) (clause : List Literal)
    → Looked f units place clause → is_satisfied (taken_literals units) clause ≡ false → is_tautology clause ≡ true
    → IsNoUnit f units place
tautology-other f units place clause looked unsatisfied both u same it =
    search (arith, tautology-stays, unit-of, true≢false, alone-plain)

-- where no literal is open
pub none-stands : (f : Dqbf) (units : List Taken) (place : ℕ) (clause : List Literal) (tautology : Bool)
    → Looked f units place clause → tautology ≡ is_tautology clause
    → AreOpen f (taken_literals units) clause Nothing → IsRemainder f units place (remainder_of_none tautology)
none-stands f units place clause true looked is open' = tautology-other f units place clause looked open'.0 (sym is)
none-stands f units place clause false looked is open' = search (arith, left-is-open)

-- the one open literal sees a variable of the clause
seen-other : (f : Dqbf) (units : List Taken) (place : ℕ) (clause : List Literal) (l : Literal)
    → Looked f units place clause → UniversalsAreSeen f → is_satisfied (taken_literals units) clause ≡ false
    → open_literals f (taken_literals units) clause ≡ l ∷ []
    → list_any (λ k. sees_in (variable_of k) (existential_of f (variable_of l))) clause ≡ true
    → IsNoUnit f units place
seen-other f units place clause l looked seen unsatisfied open' sees u same it =
    let trues = taken_literals units in
    let r = one-of (λ k. sees_in (variable_of k) (existential_of f (variable_of l))) clause sees in
    let k = r.0 in
    let universal = seen (variable_of l) (variable_of k) r.2 in
    let none : holds trues (opposite k) ≡ false =
    none-universal f units (opposite k) looked.are (on-opposite k universal) in
    let there : is_seen f (open_literals f trues clause) (variable_of k) ≡ true =
    ap (λ ls. is_seen f ls (variable_of k)) open'
    ∙ or_left (sees_in (variable_of k) (existential_of f (variable_of l))) false r.2 in
    let left : left_of f trues clause ≡ u.literal ∷ [] =
    ap (left_of f trues) (sym (unit-of f units place clause u looked same it)) ∙ it.left in
    let in-left : holds (u.literal ∷ []) k ≡ true =
    ap (λ ls. holds ls k) (sym left) ∙ seen-left f trues clause k looked.nothing r.1 none there in
    let equal : k ≡ u.literal = elim (or_cases (same_literal k u.literal) false in-left) [
      | inl here ↦ same_literal-sound k u.literal here
      | inr none' ↦ cc
    ] in
    true≢false (sym universal ∙ ap (λ q. is_universal f (variable_of q)) equal ∙ it.existential)
  where
    one-of : (p : Literal → Bool) (xs : List Literal) → list_any p xs ≡ true
        → (k : Literal) × (holds xs k ≡ true) × (p k ≡ true)
    one-of p [] h = cc
    one-of p (x ∷ xs) h = search (arith, or_cases, or_left, same_literal-refl, or_right, (one-of p xs))

    on-opposite : (k : Literal) → is_universal f (variable_of k) ≡ true
        → is_universal f (variable_of (opposite k)) ≡ true
    on-opposite (positive v) h = h
    on-opposite (negative v) h = h

-- where one literal is
pub one-stands : (f : Dqbf) (units : List Taken) (place : ℕ) (clause : List Literal) (l : Literal)
    (tautology sees : Bool) → Looked f units place clause → UniversalsAreSeen f → tautology ≡ is_tautology clause
    → sees ≡ list_any (λ k. sees_in (variable_of k) (existential_of f (variable_of l))) clause
    → AreOpen f (taken_literals units) clause (One l)
    → IsRemainder f units place (remainder_of_one l (tautology || sees))
one-stands f units place clause l true sees looked seen is says open' =
    tautology-other f units place clause looked open'.0 (sym is)
one-stands f units place clause l false true looked seen is says open' =
    seen-other f units place clause l looked seen open'.0 open'.1 (sym says)
one-stands f units place clause l false false looked seen is says open' =
    let trues = taken_literals units in
    let p : Literal → Bool = λ k. sees_in (variable_of k) (existential_of f (variable_of l)) in
    let unseen : All (λ k. is_seen f (open_literals f trues clause) (variable_of k) ≡ false) clause =
    λ k d below.
    let q = get_or clause k d in
    ap (λ ls. is_seen f ls (variable_of q)) open'.1
    ∙ ap (λ b. b || false) (none-passes p clause (sym says) k d below) in
    let passes : is_open f trues l ≡ true =
    ap (λ ls. is_open f trues (get_or ls 0 l)) (sym open'.1)
    ∙ filter_passes (is_open f trues) clause 0 l (subst (λ ls. 0 < length ls) (sym open'.1) (omega arith)) in
    record {
      clause = clause;
      at = looked.at;
      unsatisfied = open'.0;
      left = left-is-open f trues clause looked.nothing open'.0 (sym is) unseen ∙ open'.1;
      existential =
          not_true (is_universal f (variable_of l))
          (and_parts (not (is_universal f (variable_of l))) (not (holds trues (opposite l))) passes).0;
    }
  where
    none-passes : (p : Literal → Bool) (xs : List Literal) → list_any p xs ≡ false → All (λ x. p x ≡ false) xs
    none-passes p [] h k d below = absurd (omega arith)
    none-passes p (x ∷ xs) h zero d below = (or_parts (p x) (list_any p xs) h).0
    none-passes p (x ∷ xs) h (suc k) d below = none-passes p xs (or_parts (p x) (list_any p xs) h).1 k d (omega arith)

-- the formula's clause at a place
pub clause-at : (matrix : List (List Literal)) (place : ℕ) (clause : List Literal) → place < length matrix
    → clause ≡ slice_index_or matrix place [] → slice_get matrix place ≡ Some clause
clause-at [] place clause below is = absurd (omega arith)
clause-at (c ∷ cs) zero clause below is = ap Some (sym is)
clause-at (c ∷ cs) (suc place) clause below is = clause-at cs place clause (omega arith) is

pub tautology-at : (tautologies : List Bool) (matrix : List (List Literal)) (place : ℕ) (clause : List Literal)
    → tautologies ≡ map is_tautology matrix → place < length matrix → clause ≡ slice_index_or matrix place []
    → slice_index_or tautologies place false ≡ is_tautology clause
tautology-at tautologies matrix place clause are below is = search (arith, get_or-map)
