-- The places of the clauses that are kept, and of those that go.
use Rattle.std.proofs.Common.{◌≡◌, ◌≢◌, ℕ, zero, suc, ◌+◌, ◌<◌, Bool, true, false, not, cond, inl, inr, List, [], ◌∷◌, length, Option, Some, None, slice_get, refl, sym, ◌∙◌, ap, subst, arith, is_some, get_or, ◌++◌}
use Rattle.std.specs.List.{cons_option, filter, Contains, range_with_len, filter_map, All, AllPairs}
use Rattle.std.proofs.lemmas.Bool.{true≢false, cases_eq, cases_Bool, cond-true, cond-false, eq-eqb, ne_eqb, or_cases, or_left, or_right}
use Rattle.std.proofs.lemmas.Option.{same_Some, get_or_from_slice_get, slice_get_within}
use Rattle.dq_lits.specs.Literal.{Literal, opposite, same_literal}
use Rattle.dq_lits.specs.Formula.{Dqbf}
use Rattle.dq_lits.specs.Derivation.{holds, is_tautology}
use Rattle.dq_lits.proofs.Truth.{same_literal-sound}
use Rattle.dq_lits.proofs.SignedLiterals.{same_literal-refl, opposite-opposite}
use Rattle.dq_lits.proofs.HeldLiterals.{filter-passes, holds_of_filter}
use Rattle.dq_prep.specs.declared.traces.Taken.{Taken}
use Rattle.dq_prep.specs.Reduction.{stays}
use Rattle.dq_prep.specs.Units.{AreUnits, taken_literals, is_satisfied, left_of, without_false}
use Rattle.dq_prep.specs.Simplified.{taken_at, kept_clause, kept_clauses}
use Rattle.dq_prep.proofs.ToldValues.{unit-fresh}
use Rattle.dq_prep.proofs.SignedLiterals.{not-same}
use Rattle.lifted_proofs.specs.Goals.{clause_at}
use Rattle.lifted_proofs.specs.KeptPlaces.{IsPart, all_gone, here, gone_one, kept_places, places_of, kept_at}
use Rattle.std.proofs.lemmas.List.FromFn.{get_or-range_with_len, length-range_with_len}
use Rattle.list_laws.proofs.Members.{filter_keeps, place_of, place_within}
use Rattle.std.proofs.lemmas.List.Elements.{filter-append, All-filter, filter_passes}
use Rattle.std.specs.Bool.{beq}
use Rattle.list_laws.proofs.Numbers.{range_more, range_distinct}
use Rattle.std.proofs.lemmas.List.Kept.{AllPairs-filter}

part-filter : (p : Literal → Bool) (ys : List Literal) → IsPart (filter p ys) ys
part-filter p [] = all_gone
part-filter p (y ∷ ys) = search (arith, (part-filter p ys), filter, here, gone_one)

part-part : {xs ys zs : List Literal} → IsPart xs ys → IsPart ys zs → IsPart xs zs
part-part all_gone q = all_gone
part-part (here p) (here q) = here (part-part p q)
part-part (gone_one p) (here q) = gone_one (part-part p q)
part-part (here p) (gone_one q) = gone_one (part-part (here p) q)
part-part (gone_one p) (gone_one q) = gone_one (part-part (gone_one p) q)

pub part-left : (f : Dqbf) (trues clause : List Literal) → IsPart (left_of f trues clause) clause
part-left f trues clause = by (is_tautology (without_false trues clause))
  where
    rest : List Literal
    rest = without_false trues clause

    by : (b : Bool) → IsPart (cond b rest (filter (stays f rest) rest)) clause
    by true = part-filter (λ l. not (holds trues (opposite l))) clause
    by false = part-part (part-filter (stays f rest) rest)
        (part-filter (λ l. not (holds trues (opposite l))) clause)

-- a part of what comes later, where its first element stands elsewhere
pub part-later : {x y : Literal} {xs ys : List Literal} → IsPart (x ∷ xs) (y ∷ ys) → x ≢ y → IsPart (x ∷ xs) ys
part-later (here p) apart = absurd (apart refl)
part-later (gone_one p) apart = p

part-tail : {x : Literal} {xs ys : List Literal} → IsPart (x ∷ xs) ys → IsPart xs ys
part-tail (here p) = gone_one p
part-tail (gone_one p) = gone_one (part-tail p)

pub part-next : {x y : Literal} {xs ys : List Literal} → IsPart (x ∷ xs) (y ∷ ys) → IsPart xs ys
part-next (here p) = p
part-next (gone_one p) = part-tail p

pub part-none : {xs : List Literal} → IsPart xs [] → xs ≡ []
part-none all_gone = refl

-- ---- units that were taken of a clause

pub record IsTakenAt (f : Dqbf) (units : List Taken) (place : ℕ) (clause left : List Literal) : Type 0 where
  pub literal : Literal
  pub left_is : left ≡ literal ∷ []
  pub held : holds (taken_literals units) literal ≡ true
  pub part : IsPart left clause

taken-clause : (f : Dqbf) (units : List Taken) (place : ℕ) (clause left : List Literal) → AreUnits f units
    → slice_get f.matrix place ≡ Some clause → taken_at place units ≡ Some left
    → IsTakenAt f units place clause left
taken-clause f [] place clause left are at is = cc
taken-clause f (u ∷ us) place clause left are at is =
    search (
      arith,
      cases_eq,
      cond-true,
      eq-eqb,
      or_left,
      same_literal-refl,
      part-left,
      (taken-clause f us place clause left are.1 at),
      cond-false,
      ne_eqb,
      or_right,
    )

-- what is kept of a clause is a part of it, and has no literal that is false
pub record IsLeft (units : List Taken) (clause left : List Literal) : Type 0 where
  pub part : IsPart left clause
  pub none_false : (l : Literal) → holds left l ≡ true → holds (taken_literals units) (opposite l) ≡ false

-- no unit's literal is another's negation
pub units-agree : (f : Dqbf) (units : List Taken) (l : Literal) → AreUnits f units
    → holds (taken_literals units) l ≡ true → holds (taken_literals units) (opposite l) ≡ false
units-agree f [] l are held = absurd (true≢false (sym held))
units-agree f (u ∷ us) l are held =
    search (
      arith,
      (unit-fresh f us u are.0),
      or_cases,
      (same_literal-sound l u.literal),
      (not-same u.literal),
      cases_Bool,
      (opposite-opposite l),
      same_literal-sound,
      true≢false,
      (units-agree f us l are.1),
    )

left-open : (f : Dqbf) (trues clause : List Literal) (l : Literal) → holds (left_of f trues clause) l ≡ true
    → holds trues (opposite l) ≡ false
left-open f trues clause l held = search (arith, filter-passes, holds_of_filter)

pub left-is : (f : Dqbf) (units : List Taken) (place : ℕ) (clause left : List Literal) → AreUnits f units
    → slice_get f.matrix place ≡ Some clause → kept_clause f units place clause ≡ Some left → IsLeft units clause left
left-is f units place clause left are at kept = by (is_satisfied trues clause) kept
  where
    trues : List Literal
    trues = taken_literals units

    by : (b : Bool) → cond b (taken_at place units) (Some (left_of f trues clause)) ≡ Some left
        → IsLeft units clause left
    by true is =
        let t = taken-clause f units place clause left are at is in
        record {
          part = t.part;
          none_false = λ l held.
              let own : holds (t.literal ∷ []) l ≡ true = ap (λ xs. holds xs l) (sym t.left_is) ∙ held in
              elim (or_cases (same_literal l t.literal) false own) [
                | inl same ↦
                    ap (λ k. holds trues (opposite k)) (same_literal-sound l t.literal same)
                    ∙ units-agree f units t.literal are t.held
                | inr none ↦ absurd (true≢false (sym none))
              ];
        }
    by false is =
        let own : left_of f trues clause ≡ left = same_Some (left_of f trues clause) left is in
        record {
          part = subst (λ xs. IsPart xs clause) own (part-left f trues clause);
          none_false = λ l held. left-open f trues clause l (ap (λ xs. holds xs l) own ∙ held);
        }

-- ---- the places

-- a number stands in a list of them
abbrev pub StandsIn : List ℕ → ℕ → Type 0
StandsIn ps p = (j : ℕ) × (slice_get ps j ≡ Some p)

pub range-more : (count : ℕ) → range_with_len 0 (count + 1) ≡ range_with_len 0 count ++ count ∷ []
range-more count = search (arith, (range_more 0 count))

module _ (f : Dqbf) (units : List Taken) (kept : Bool) where
  abbrev chosen : ℕ → Bool
  chosen p = beq (is_some (kept_at f units p)) kept

  pub place-in : (count j p : ℕ) → slice_get (places_of f units kept count) j ≡ Some p
      → (p < count) × (is_some (kept_at f units p) ≡ kept)
  place-in count j p at =
      let ps = places_of f units kept count in
      let within = slice_get_within ps j p at in
      let is = get_or_from_slice_get ps j p 0 at in
      let all : All (λ x. x < count) (range_with_len 0 count) = λ i d below.
      omega (arith, below, length-range_with_len 0 count, get_or-range_with_len 0 count i d) in (
        subst (λ x. x < count) is (All-filter chosen (λ x. x < count) (range_with_len 0 count) all j 0 within),
        by (is_some (kept_at f units p)) kept
            (subst (λ x. chosen x ≡ true) is (filter_passes chosen (range_with_len 0 count) j 0 within)),
      )
    where
      by : (a b : Bool) → beq a b ≡ true → a ≡ b
      by a b h = grind arith

  pub place-there : (count p : ℕ) → p < count → is_some (kept_at f units p) ≡ kept
      → StandsIn (places_of f units kept count) p
  place-there count p below is =
      place_of (places_of f units kept count) p
      (filter_keeps chosen (range_with_len 0 count) p (by (is_some (kept_at f units p)) kept is)
      (subst (Contains (range_with_len 0 count)) (omega arith) (place_within 0 count p below)))
    where
      by : (a b : Bool) → a ≡ b → beq a b ≡ true
      by a b h = grind arith

  pub places-distinct : (count : ℕ) → AllPairs (λ i j. i ≢ j) (places_of f units kept count)
  places-distinct count = AllPairs-filter (λ i j. i ≢ j) chosen (range_with_len 0 count) (range_distinct 0 count)

  -- one clause more
  pub places-more : (count : ℕ) → places_of f units kept (count + 1)
      ≡ places_of f units kept count ++ cond (beq (is_some (kept_at f units count)) kept) (count ∷ []) []
  places-more count = search (arith, range-more, filter-append)

-- what is kept, by the places of clauses
kept-from : (f : Dqbf) (units : List Taken) (first : ℕ) (clauses : List (List Literal))
    → ((i : ℕ) → i < length clauses → get_or clauses i [] ≡ clause_at f (first + i))
    → kept_clauses f units first clauses ≡ filter_map (kept_at f units) (range_with_len first (length clauses))
kept-from f units first [] same = refl
kept-from f units first (c ∷ cs) same =
    let here' : c ≡ clause_at f first = same 0 (omega arith) ∙ ap (clause_at f) (omega arith) in
    ap (λ x. cons_option (kept_clause f units first x) (kept_clauses f units (suc first) cs)) here'
    ∙ ap (cons_option (kept_at f units first))
    (kept-from f units (suc first) cs (λ i below. same (suc i) (omega (arith, below)) ∙ ap (clause_at f) (omega arith))
    ∙ ap (λ n. filter_map (kept_at f units) (range_with_len n (length cs))) (omega arith))

pub kept-are : (f : Dqbf) (units : List Taken)
    → kept_clauses f units 0 f.matrix ≡ filter_map (kept_at f units) (range_with_len 0 (length f.matrix))
kept-are f units = kept-from f units 0 f.matrix (λ i below. ap (clause_at f) (omega arith))

module _ (f : Dqbf) (units : List Taken) where
  abbrev kept_of : List ℕ → List ℕ
  kept_of ps = filter (λ p. beq (is_some (kept_at f units p)) true) ps

  at-same : (ps : List ℕ) (j p : ℕ) → slice_get (kept_of ps) j ≡ Some p
      → slice_get (filter_map (kept_at f units) ps) j ≡ kept_at f units p
  at-same [] j p at = cc
  at-same (q ∷ qs) j p at = by (kept_at f units q) refl j at (λ i. at-same qs i p)
    where
      by : (o : Option (List Literal)) → kept_at f units q ≡ o → (j : ℕ)
          → slice_get (cond (beq (is_some o) true) (q ∷ kept_of qs) (kept_of qs)) j ≡ Some p
          → ((i : ℕ) → slice_get (kept_of qs) i ≡ Some p
          → slice_get (filter_map (kept_at f units) qs) i ≡ kept_at f units p)
          → slice_get (cons_option (kept_at f units q) (filter_map (kept_at f units) qs)) j ≡ kept_at f units p
      by None e j at later = rw e (later j at)
      by (Some left) e zero at later = rw e (sym e ∙ ap (kept_at f units) cc)
      by (Some left) e (suc j) at later = rw e (later j at)

  as-long : (ps : List ℕ) → length (kept_of ps) ≡ length (filter_map (kept_at f units) ps)
  as-long [] = refl
  as-long (q ∷ qs) = search (arith, (as-long qs))

  pub as-many : length (kept_places f units) ≡ length (kept_clauses f units 0 f.matrix)
  as-many = search (arith, as-long, kept-are)

  pub left-at : (j p : ℕ) → slice_get (kept_places f units) j ≡ Some p
      → slice_get (kept_clauses f units 0 f.matrix) j ≡ kept_at f units p
  left-at j p at = ap (λ cs. slice_get cs j) (kept-are f units) ∙ at-same (range_with_len 0 (length f.matrix)) j p at

-- a dropped clause is satisfied
pub dropped-true : (f : Dqbf) (units : List Taken) (place : ℕ) → is_some (kept_at f units place) ≡ false
    → is_satisfied (taken_literals units) (clause_at f place) ≡ true
dropped-true f units place none = search arith
