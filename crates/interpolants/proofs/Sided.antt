-- The variables of the A side, collected clause by clause.
use Rattle.std.proofs.Common.{◌≡◌, ℕ, ◌<◌, ◌≤◌, true, ◌||◌, inl, inr, List, [], ◌∷◌, take, length, get_or, Contains, ◌+◌, sym, ◌∙◌, ap, subst, Option, IsSome, arith}
use Rattle.std.specs.List.{list_any}
use Rattle.std.specs.Option.{is_some}
use Rattle.list_laws.proofs.Members.{only_one}
use Rattle.hint_log.specs.declared.origins.Origin.{Origin}
use Rattle.std.proofs.lemmas.Bool.{or_cases, or_left, or_right}
use Rattle.std.proofs.lemmas.List.{get_or_default, take_all, take_more}
use Rattle.std.proofs.lemmas.List.Elements.{Contains-append_cases}
use Rattle.dq_lits.specs.Literal.{Literal, positive, opposite}
use Rattle.dq_lits.specs.Derivation.{holds}
use Rattle.dq_lits.proofs.SignedLiterals.{opposite_variable}
use Rattle.hint_log.specs.Entries.{clause_at}
use Rattle.hint_log.specs.Reached.{AreReached}
use Rattle.interpolants.specs.Interpolant.{Partition, is_on_a, IsReachedGiven, stands_on}
use Rattle.interpolants.specs.Sides.{AreSelectors, AreOfA, AreOfSome}
use Rattle.interpolants.proofs.Truth.{any_same}
use Rattle.list_laws.proofs.Options.{some_same}

-- a given clause has an origin
pub is_given : (o found : Option Origin) → o ≡ found → is_some found ≡ true → IsSome o
is_given o found is h = ap is_some is ∙ h

pub given_is : (o found : Option Origin) → o ≡ found → IsSome o → is_some found ≡ true
given_is o found is h = ap is_some (sym is) ∙ h

pub contains_place : (ids : List ℕ) (i : ℕ) → i < length ids → Contains ids (get_or ids i 0)
contains_place ids i lt = (i, lt, get_or_default ids i (get_or ids i 0) 0 lt)

-- by the selectors of the A side, whether a clause is on it
pub on_a_by_selectors : (q : Partition) (selectors : List Literal) → AreSelectors q.entries q.a_side selectors →
    (clause : List Literal) →
    list_any (λ l. holds selectors (opposite l)) clause ≡ is_on_a q clause
on_a_by_selectors q selectors are clause = search (arith, any_same, opposite_variable)

pub some_more : (q : Partition) (ids : List ℕ) (i : ℕ) (variables more clause : List Literal) →
    AreOfSome q (take i ids) variables → i < length ids →
    IsReachedGiven q (get_or ids i 0) clause → is_on_a q clause ≡ true →
    ((v : ℕ) → holds more (positive v) ≡ (holds variables (positive v) || stands_on clause v)) →
    AreOfSome q (take (i + 1) ids) more
some_more q ids i variables more clause before lt given on_a are =
    let at = get_or ids i 0 in
    let P : List ℕ → Type 0 = λ xs. AreOfSome q xs more in
    subst P (sym (take_more ids i 0 lt)) (record {
      sound = search (arith, or_cases);
      assumed = λ v h. are v ∙ or_left (holds variables (positive v)) (stands_on clause v) (before.assumed v h);
      given = λ other has c other_given other_on_a v h.
          elim (Contains-append_cases (take i ids) (at ∷ []) other has) [
            | inl early ↦ are v ∙ or_left (holds variables (positive v)) (stands_on clause v)
                (before.given other early c other_given other_on_a v h)
            | inr here ↦ search (arith, same_clause, only_one, or_right)
          ];
    })
  where
    same_clause : (q : Partition) (at other : ℕ) (c d : List Literal) → at ≡ other → IsReachedGiven q at c →
        IsReachedGiven q other d → c ≡ d
    same_clause q at other c d same g h = some_same c d (sym g.clause_is ∙ ap (clause_at q.entries) same ∙ h.clause_is)

pub some_past : (q : Partition) (ids : List ℕ) (i : ℕ) (variables : List Literal) → AreOfSome q (take i ids) variables →
    i < length ids →
    ((clause : List Literal) → IsReachedGiven q (get_or ids i 0) clause → is_on_a q clause ≡ true → ⊥) →
    AreOfSome q (take (i + 1) ids) variables
some_past q ids i variables before lt not_here =
    let at = get_or ids i 0 in
    let P : List ℕ → Type 0 = λ xs. AreOfSome q xs variables in
    subst P (sym (take_more ids i 0 lt)) (record {
      sound = before.sound;
      assumed = before.assumed;
      given = λ other has c other_given other_on_a v h.
          elim (Contains-append_cases (take i ids) (at ∷ []) other has) [
            | inl early ↦ before.given other early c other_given other_on_a v h
            | inr here ↦
                let Q : ℕ → Type 0 = λ n. IsReachedGiven q n c in
                absurd (not_here c (subst Q (sym (only_one at other here)) other_given) other_on_a)
          ];
    })

pub some_all : (q : Partition) (ids : List ℕ) (i : ℕ) (variables : List Literal) → AreReached q.entries q.id ids →
    length ids ≤ i → AreOfSome q (take i ids) variables →
    AreOfA q variables
some_all q ids i variables reached all some = search (arith, take_all)
