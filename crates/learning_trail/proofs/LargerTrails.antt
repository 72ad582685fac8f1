-- Clauses by their ids, and a trail that grows.
use Rattle.std.proofs.Common.{◌≡◌, ℕ, zero, suc, ◌<◌, ◌≤◌, true, false, inl, inr, List, [], ◌∷◌, ◌++◌, MatchOption, length, get_or, Option, None, Some, refl, sym, ◌∙◌, ap, subst, arith, All, Contains}
use Rattle.std.specs.List.{list_any}
use Rattle.std.proofs.lemmas.List.{append_assoc}
use Rattle.std.proofs.lemmas.List.Elements.{All-cons, All-append, All-nil, All-get_or, Contains-get_or}
use Rattle.std.proofs.lemmas.Option.{slice_get-get_or, slice_get_within}
use Rattle.dq_lits.specs.Literal.{Literal, variable_of}
use Rattle.dq_lits.specs.Derivation.{holds}
use Rattle.dq_lits.proofs.HeldLiterals.{holds_cases}
use Rattle.oracle.specs.Fit.{live_in}
use Rattle.learning_trail.specs.declared.trails.Step.{Step}
use Rattle.learning_trail.specs.Steps.{is_decision, Grown}
use Rattle.dq_lits.specs.Truth.{IsFree}
use Rattle.learning_trail.specs.Passes.{AreWithin, IsOpening}

abbrev pub implied_step : Literal → ℕ → Step
implied_step l id = record { literal = l; reason = Some id }

pub clause_read : (clauses : List (List Literal)) (i : ℕ) (c : List Literal) → i < length clauses →
    get_or clauses i c ≡ c → live_in clauses (suc i) ≡ Some c
clause_read clauses i c lt at = slice_get-get_or clauses i c lt ∙ ap (λ x. Some x) at

pub clause_within : (clauses : List (List Literal)) (room i : ℕ) (c : List Literal) → i < length clauses →
    get_or clauses i c ≡ c → AreWithin room clauses → All (λ l. variable_of l ≤ room) c
clause_within clauses room i c lt at all = search (arith, All-get_or)

pub literal_within : (room : ℕ) (c : List Literal) (l : Literal) → All (λ k. variable_of k ≤ room) c →
    holds c l ≡ true → variable_of l ≤ room
literal_within room c l all h = by c (λ k lt. All-get_or (λ (x : Literal). variable_of x ≤ room) c k l lt all) h
  where
    by : (xs : List Literal) → ((k : ℕ) → k < length xs → variable_of (get_or xs k l) ≤ room) → holds xs l ≡ true →
        variable_of l ≤ room
    by [] at g = cc
    by (x ∷ xs) at g = elim (holds_cases x xs l g) [
      | inl e ↦ let h = at zero (omega arith) in let v : variable_of l ≡ variable_of x = ap variable_of e in
          omega (arith, h, v)
      | inr later ↦ by xs (λ k lt. at (suc k) (omega arith)) later
    ]

pub grown_none : (xs : List Step) → Grown xs xs
grown_none xs = record { more = []; is = refl; implied = All-nil (λ s. is_decision s ≡ false) }

pub grown_one : (old new : List Step) (l : Literal) (id : ℕ) → Grown old new → Grown old (implied_step l id ∷ new)
grown_one old new l id g = record {
  more = implied_step l id ∷ g.more;
  is = ap (λ xs. implied_step l id ∷ xs) g.is;
  implied = All-cons (λ s. is_decision s ≡ false) (implied_step l id) g.more refl g.implied;
}

pub grown_both : (a b c : List Step) → Grown a b → Grown b c → Grown a c
grown_both a b c f g = record {
  more = g.more ++ f.more;
  is = g.is ∙ ap (λ xs. g.more ++ xs) f.is ∙ sym (append_assoc g.more f.more a);
  implied = All-append (λ s. is_decision s ≡ false) g.more f.more g.implied f.implied;
}

pub live_within : (clauses : List (List Literal)) (room id : ℕ) (c : List Literal) → live_in clauses id ≡ Some c →
    AreWithin room clauses → All (λ l. variable_of l ≤ room) c
live_within clauses room zero c is within = let n : None ≡ Some c = is in cc
live_within clauses room (suc i) c is within =
    let lt = slice_get_within clauses i c is in
    let s : Some (get_or clauses i c) ≡ Some c = sym (slice_get-get_or clauses i c lt) ∙ is in
    let e : get_or clauses i c ≡ c = cc in
    clause_within clauses room i c lt e within

pub contains_live : (clauses : List (List Literal)) (id : ℕ) (c : List Literal) → live_in clauses id ≡ Some c →
    Contains clauses c
contains_live clauses zero c is = let n : None ≡ Some c = is in cc
contains_live clauses (suc i) c is =
    let lt = slice_get_within clauses i c is in
    let s : Some (get_or clauses i c) ≡ Some c = sym (slice_get-get_or clauses i c lt) ∙ is in
    let e : get_or clauses i c ≡ c = cc in
    subst (Contains clauses) e (Contains-get_or clauses i c lt)

-- a clause of an id is open, or true
pub opening_in : (clauses : List (List Literal)) (trues c : List Literal) (id : ℕ) (found : Option Literal) →
    live_in clauses id ≡ Some c
    → MatchOption found (list_any (holds trues) c ≡ true) (λ l. IsFree trues l × (holds c l ≡ true))
    → MatchOption found ((d : List Literal) → live_in clauses id ≡ Some d → list_any (holds trues) d ≡ true)
    (λ l. IsOpening clauses trues (Some l))
opening_in clauses trues c id None is h = search arith
opening_in clauses trues c id (Some l) is h = (h.0, c, contains_live clauses id c is, h.1)
