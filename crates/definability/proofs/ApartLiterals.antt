-- What is asked of both copies: no two of its literals contradict one another.
use Rattle.std.proofs.Common.{◌≡◌, ◌≢◌, ℕ, true, false, true≢false, inl, inr, List, [], ◌∷◌, ◌++◌, IsSome, refl, sym, ap, subst, arith}
use Rattle.std.specs.List.{All}
use Rattle.std.proofs.lemmas.Bool.{cases_Bool}
use Rattle.std.proofs.lemmas.List.Elements.{All-head, All-tail, All-cons}
use Rattle.dq_lits.specs.Derivation.{holds, is_tautology}
use Rattle.dq_lits.specs.Literal.{Literal, positive, negative, variable_of, is_negative, opposite}
use Rattle.dq_lits.proofs.HeldLiterals.{any_one, any_gives, all_held, held_of_all, holds_cases}
use Rattle.dq_lits.proofs.SignedLiterals.{opposite_variable, opposite-other, opposite-negative}
use Rattle.hint_log.specs.Conditions.{AreNamed}
use Rattle.hint_log.specs.Entries.{Entry, name_of}
use Rattle.oracle.specs.Calls.{IsMade, IsPlain, assumed}
use Rattle.oracle.specs.declared.groups.Group.{Group}
use Rattle.definability.specs.Dividing.{asked_of, IsAsked, IsCopyLiteral}
use Rattle.definability.specs.declared.asking.Asked.{Asked}
use Rattle.definability.proofs.DividedAnswers.{held_in_either, copy_among, copy_name}

-- a literal is its variable and its sign
same_parts : (k l : Literal) → variable_of k ≡ variable_of l → is_negative k ≡ is_negative l → k ≡ l
same_parts (positive v) (positive w) same sign = ap positive same
same_parts (positive v) (negative w) same sign = cc
same_parts (negative v) (positive w) same sign = cc
same_parts (negative v) (negative w) same sign = ap negative same

-- conditions that agree with one another, and a literal of which they say nothing
module _ (conditions : List Literal) (last : Literal) (consistent : is_tautology conditions ≡ false)
    (others : All (λ l. variable_of l ≢ variable_of last) conditions) where
  apart_from_last : (l : Literal) → holds conditions l ≡ true → variable_of l ≡ variable_of last → ⊥
  apart_from_last l h = held_of_all (λ k. variable_of k ≢ variable_of last) conditions others l h

  pub no_contradiction : (l : Literal) → holds (asked_of conditions last) l ≡ true →
      holds (asked_of conditions last) (opposite l) ≡ true → ⊥
  no_contradiction l h k =
      search (
        arith,
        held_in_either,
        true≢false,
        any_one,
        apart_from_last,
        opposite_variable,
        opposite-other,
        holds_cases,
      )

-- so copies of these on one side don't contradict one another
copies_apart : (es : List Entry) (side : ℕ) (originals : List Literal) →
    ((l : Literal) → holds originals l ≡ true → holds originals (opposite l) ≡ true → ⊥) → (l : Literal) →
    IsCopyLiteral es side originals l → IsCopyLiteral es side originals (opposite l) → ⊥
copies_apart es side originals none l a b =
    search (arith, copy_name, opposite_variable, opposite-negative, same_parts)

-- nor do copies on different sides
sides_apart : (es : List Entry) (firsts seconds : List Literal) (k l : Literal) → variable_of k ≡ variable_of l →
    IsCopyLiteral es 1 firsts k → IsCopyLiteral es 2 seconds l → ⊥
sides_apart es firsts seconds k l same a b = search (arith, copy_name)

module _ (es : List Entry) (v : ℕ) (conditions : List Literal) (asked : Asked)
    (are : IsAsked es v conditions asked) where
  abbrev firsts : List Literal
  firsts = asked_of conditions (positive v)

  abbrev seconds : List Literal
  seconds = asked_of conditions (negative v)

  first_copy : (l : Literal) → holds asked.first.items l ≡ true → IsCopyLiteral es 1 firsts l
  first_copy = copy_among es 1 firsts asked.first.items are.first

  second_copy : (l : Literal) → holds asked.second.items l ≡ true → IsCopyLiteral es 2 seconds l
  second_copy = copy_among es 2 seconds asked.second.items are.second

  plain_copy : (side : ℕ) (originals : List Literal) (l : Literal) → IsCopyLiteral es side originals l → IsPlain es l
  plain_copy side originals l copy = search (arith, copy_name)

  pub asked_plain : All (IsPlain es) (asked.first.items ++ asked.second.items)
  asked_plain = all_held (IsPlain es) (asked.first.items ++ asked.second.items)
      (λ l h. elim (held_in_either asked.first.items asked.second.items l h) [
        | inl one ↦ plain_copy 1 firsts l (first_copy l one)
        | inr other ↦ plain_copy 2 seconds l (second_copy l other)
      ])

  -- the assumptions of the first copy have names
  pub first_named : (groups : List Group) → All (IsMade es) groups → AreNamed es (assumed groups asked.first.items)
  first_named [] made = all_held (λ l. IsSome (name_of es (variable_of l))) asked.first.items
      (λ l h. (plain_copy 1 firsts l (first_copy l h)).named)
  first_named (g ∷ groups) made =
      All-cons (λ l. IsSome (name_of es (variable_of l))) g.selector (assumed groups asked.first.items)
      (subst IsSome (sym (All-head (IsMade es) g groups made).named) refl)
      (first_named groups (All-tail (IsMade es) g groups made))

  module _ (consistent : is_tautology conditions ≡ false) (others : All (λ l. variable_of l ≢ v) conditions) where
    no_pair : (l : Literal) → holds (asked.first.items ++ asked.second.items) l ≡ true →
        holds (asked.first.items ++ asked.second.items) (opposite l) ≡ true → ⊥
    no_pair l h k = elim (held_in_either asked.first.items asked.second.items l h) [
      | inl one ↦ elim (held_in_either asked.first.items asked.second.items (opposite l) k) [
        | inl also ↦ copies_apart es 1 firsts (no_contradiction conditions (positive v) consistent others) l
            (first_copy l one) (first_copy (opposite l) also)
        | inr other ↦ sides_apart es firsts seconds l (opposite l) (sym (opposite_variable l)) (first_copy l one)
            (second_copy (opposite l) other)
      ]
      | inr other ↦ elim (held_in_either asked.first.items asked.second.items (opposite l) k) [
        | inl one ↦ sides_apart es firsts seconds (opposite l) l (opposite_variable l) (first_copy (opposite l) one)
            (second_copy l other)
        | inr also ↦ copies_apart es 2 seconds (no_contradiction conditions (negative v) consistent others) l
            (second_copy l other) (second_copy (opposite l) also)
      ]
    ]

    pub both_apart : is_tautology (asked.first.items ++ asked.second.items) ≡ false
    both_apart = elim (cases_Bool (is_tautology (asked.first.items ++ asked.second.items))) [
      | inl some ↦ (
          let w = any_gives (λ l. holds (asked.first.items ++ asked.second.items) (opposite l))
          (asked.first.items ++ asked.second.items) some in
          absurd (no_pair w.0 w.1 w.2))
      | inr none ↦ none
    ]
