-- Where what is kept of clauses comes from.
use Rattle.std.proofs.Common.{◌≡◌, ◌≢◌, ℕ, suc, ◌+◌, ◌<◌, ◌==◌, Bool, true, false, inl, inr, List, [], ◌∷◌, ◌++◌, length, reverse, Option, Some, None, refl, sym, ◌∙◌, ap, subst, arith}
use Rattle.std.specs.List.{Contains, cons_option, range_with_len, filter_map}
use Rattle.std.proofs.lemmas.Bool.{cond-true, cond-false, ne_eqb}
use Rattle.std.proofs.lemmas.Option.{slice_get_within, slice_get-get_or, get_or_from_slice_get}
use Rattle.std.proofs.lemmas.List.{length-append, take_all, append-nil}
use Rattle.std.proofs.lemmas.List.Sorted.{Contains-permutation, IsPermutation-reverse, IsPermutation-sym}
use Rattle.list_laws.proofs.Elements.{last_or_before, last_there}
use Rattle.dq_lits.specs.Literal.{Literal, opposite}
use Rattle.dq_lits.specs.Formula.{Dqbf}
use Rattle.dq_lits.specs.Derivation.{holds}
use Rattle.dq_lits.proofs.SignedLiterals.{opposite-opposite}
use Rattle.dq_prep.specs.declared.traces.Taken.{Taken}
use Rattle.dq_prep.specs.Units.{AreUnits, taken_literals, is_satisfied, left_of}
use Rattle.dq_prep.specs.Simplified.{taken_at}
use Rattle.dq_prep.proofs.Units.{get-at, unit-taken}
use Rattle.lifted_proofs.specs.UnitTables.{first_literals, IsFalseBy}
use Rattle.lifted_proofs.specs.Goals.{clause_at, left_by}
use Rattle.lifted_proofs.specs.Carried.{AreSources}
use Rattle.lifted_proofs.specs.Sources.{TellsTaken, IsSourceAt}
use Rattle.lifted_proofs.specs.declared.goals.Source.{Source}
use Rattle.lifted_proofs.proofs.TakenUnits.{unit-at, first-holds}
use Rattle.lifted_proofs.proofs.AskedGoals.{keeps-more}
use Rattle.std.proofs.lemmas.List.Elements.{filter_map-append}
use Rattle.lifted_proofs.specs.KeptPlaces.{kept_at}
use Rattle.lifted_proofs.proofs.KeptPlaces.{range-more}

pub taken-by : (units : List Taken) (l k : Literal) (o : Option ℕ) → k ≡ opposite l
    → IsFalseBy units (length units) k o → (o ≡ None → holds (first_literals units (length units)) l ≡ false)
    × ((j : ℕ) → o ≡ Some j → holds (first_literals units (length units)) l ≡ true)
taken-by units l k None is none = search (arith, opposite-opposite)
taken-by units l k (Some i) is (before, (u, (at, same))) = search (arith, opposite-opposite, first-holds)

pub all-literals : (units : List Taken) → first_literals units (length units) ≡ taken_literals (reverse units)
all-literals units = ap (λ us. taken_literals (reverse us)) (take_all (length units) units (omega arith))

none-at : (place : ℕ) (us : List Taken) → ((u : Taken) → Contains us u → u.place ≢ place) → taken_at place us ≡ None
none-at place [] none = refl
none-at place (u ∷ us) none =
    cond-false (u.place == place) (Some (u.literal ∷ [])) (taken_at place us)
    (ne_eqb u.place place (none u (0, omega arith, refl)))
    ∙ none-at place us (λ w inside. none w (suc inside.0, omega (arith, inside.1), inside.2))

-- what is kept of a clause of which a unit was taken
pub source-unit : (f : Dqbf) (units : List Taken) (place j : ℕ) (s : Source) (b : Bool) → AreUnits f (reverse units)
    → place < length f.matrix → b ≡ is_satisfied (first_literals units (length units)) (clause_at f place) → b ≡ true
    → TellsTaken units (length units) place (Some j) → s.taken ≡ j → s.place ≡ place
    → IsSourceAt f units place (Some s)
source-unit f units place j s b are within is yes-is (u, (at, here)) taken at-place =
    search (
      arith,
      (unit-at f units j u are at),
      (get-at f.matrix u.place),
      (all-literals units),
      (slice_get_within units j u at),
      (get_or_from_slice_get units j u u at),
      (Contains-permutation units (reverse units) u (IsPermutation-reverse units)),
      (IsPermutation-reverse units),
      (unit-taken f (reverse units)),
      cond-true,
    )

-- a clause that goes
pub source-none : (f : Dqbf) (units : List Taken) (place : ℕ) (b : Bool)
    → b ≡ is_satisfied (first_literals units (length units)) (clause_at f place) → b ≡ true
    → TellsTaken units (length units) place None → IsSourceAt f units place None
source-none f units place b is yes-is none =
    cond-true (is_satisfied (taken_literals (reverse units)) (clause_at f place)) (taken_at place (reverse units))
    (Some (left_of f (taken_literals (reverse units)) (clause_at f place)))
    (ap (λ ls. is_satisfied ls (clause_at f place)) (sym (all-literals units)) ∙ sym is ∙ yes-is)
    ∙ none-at place (reverse units) (λ u inside.
    let r = Contains-permutation (reverse units) units u (IsPermutation-sym units (reverse units)
    (IsPermutation-reverse units)) inside in
    none r.0 u r.1 (slice_get-get_or units r.0 u r.1 ∙ ap Some r.2))

-- what is kept of the first clauses
abbrev pub kept_first : Dqbf → List Taken → ℕ → List (List Literal)
kept_first f units place = filter_map (kept_at f (reverse units)) (range_with_len 0 place)

kept-next : (f : Dqbf) (units : List Taken) (place : ℕ)
    → kept_first f units (place + 1) ≡ kept_first f units place ++ cons_option (kept_at f (reverse units) place) []
kept-next f units place = search (arith, range-more, filter_map-append)

pub sources-more : (f : Dqbf) (units : List Taken) (place : ℕ) (s : Source) (sources new : List Source)
    → IsSourceAt f units place (Some s) → AreSources f units (kept_first f units place) sources → new ≡ sources ++ s ∷ []
    → AreSources f units (kept_first f units (place + 1)) new
sources-more f units place s sources new at was more =
    let left = left_by f units s in
    let front = kept_first f units place in
    let next : kept_first f units (place + 1) ≡ front ++ left ∷ [] =
    kept-next f units place ∙ ap (λ o. front ++ cons_option o []) at.1 in
    subst (AreSources f units (kept_first f units (place + 1))) (sym more)
    (subst (λ ks. AreSources f units ks (sources ++ s ∷ [])) (sym next) (record {
      many = length-append sources (s ∷ []) ∙ ap (λ n. n + 1) was.many ∙ sym (length-append front (left ∷ []));
      each = λ j k there. elim (last_or_before sources s j k there) [
        | inl before ↦
            let it = was.each j k before in
            (it.0, keeps-more front (left ∷ []) j (left_by f units k) it.1)
        | inr last ↦ search (arith, last_there)
      ];
    }))

pub sources-same : (f : Dqbf) (units : List Taken) (place : ℕ) (sources new : List Source)
    → IsSourceAt f units place None → AreSources f units (kept_first f units place) sources → new ≡ sources
    → AreSources f units (kept_first f units (place + 1)) new
sources-same f units place sources new none was same = search (arith, kept-next, append-nil)
