-- Where another literal of a clause isn't false: behind a place, and before it.
use Rattle.std.proofs.Common.{◌≡◌, ℕ, suc, ◌+◌, ◌≤◌, ◌<◌, true, false, List, [], ◌∷◌, take, drop, length, inl, inr, Option, None, Some, MatchOption, sym, ◌∙◌, ap, arith}
use Rattle.std.proofs.lemmas.Bool.{false≢true, eqb-true, eqb-false, or_cases, or_left}
use Rattle.std.proofs.lemmas.List.{get_or-drop, length-drop, take-append-drop}
use Rattle.dq_lits.specs.Literal.{Literal, opposite, same_literal}
use Rattle.dq_lits.specs.Derivation.{holds}
use Rattle.dq_lits.proofs.Truth.{same_literal-sound}
use Rattle.dq_lits.proofs.HeldLiterals.{holds-append}
use Rattle.cdcl_core.specs.Chains.{watch_at}
use Rattle.cdcl_core.specs.Visits.{AreOthersFalse, IsOther}

-- the literals from one place on, before another, are false but for one
abbrev pub AreFalseBetween : List Literal → List Literal → Literal → ℕ → ℕ → Type 0
AreFalseBetween trues lits other from at =
    (i : ℕ) → from ≤ i → i < at → same_literal (watch_at lits i) other ≡ false
    → holds trues (opposite (watch_at lits i)) ≡ true

index_of : (xs : List Literal) (k : Literal) → holds xs k ≡ true →
    (i : ℕ) × (i < length xs) × (same_literal k (watch_at xs i) ≡ true)
index_of [] k h = absurd (false≢true h)
index_of (x ∷ xs) k h = elim (or_cases (same_literal k x) (holds xs k) h) [
  | inl e ↦ (0, omega arith, e)
  | inr t ↦ (let r = index_of xs k t in let low = r.1 in (suc r.0, omega (arith, low), r.2))
]

-- none was looked at yet
pub none_between : (trues lits : List Literal) (other : Literal) (from at : ℕ) → at ≤ from →
    AreFalseBetween trues lits other from at
none_between trues lits other from at past i low high = absurd (omega (arith, past, low, high))

-- one more is false, or is the other one
pub one_between : (trues lits : List Literal) (other : Literal) (from at : ℕ) →
    AreFalseBetween trues lits other from at →
    (same_literal (watch_at lits at) other ≡ false → holds trues (opposite (watch_at lits at)) ≡ true) →
    AreFalseBetween trues lits other from (at + 1)
one_between trues lits other from at so_far here i low high apart = search (arith, eqb-true, eqb-false)

-- all behind a place are false but for the other one
pub none_behind : (trues lits : List Literal) (other : Literal) (from at : ℕ) → length lits ≤ at →
    AreFalseBetween trues lits other from at → AreOthersFalse trues (drop from lits) other
none_behind trues lits other from at past so_far k among apart =
    search (arith, index_of, length-drop, same_literal-sound, get_or-drop)

-- behind it and before it
pub all_others : (trues lits : List Literal) (other : Literal) (from : ℕ) →
    AreOthersFalse trues (take from lits) other → AreOthersFalse trues (drop from lits) other →
    AreOthersFalse trues lits other
all_others trues lits other from before behind k among apart =
    elim (or_cases (holds (take from lits) k) (holds (drop from lits) k)
    (sym (holds-append (take from lits) (drop from lits) k) ∙ ap (λ xs. holds xs k) (take-append-drop from lits) ∙ among)) [
      | inl h ↦ before k h apart
      | inr h ↦ behind k h apart
    ]

-- what is found before it is a literal of the clause
pub other_among : (trues lits : List Literal) (other : Literal) (from : ℕ) (k : Literal) →
    IsOther trues (take from lits) other k → IsOther trues lits other k
other_among trues lits other from k found = record {
  among = ap (λ xs. holds xs k) (sym (take-append-drop from lits)) ∙ holds-append (take from lits) (drop from lits) k
      ∙ or_left (holds (take from lits) k) (holds (drop from lits) k) found.among;
  apart = found.apart;
  not_false = found.not_false;
}

pub before_or_none : (trues lits : List Literal) (other : Literal) (from : ℕ) (found : Option Literal) →
    AreOthersFalse trues (drop from lits) other →
    MatchOption found (AreOthersFalse trues (take from lits) other) (λ k. IsOther trues (take from lits) other k) →
    MatchOption found (AreOthersFalse trues lits other) (λ k. IsOther trues lits other k)
before_or_none trues lits other from None behind h = all_others trues lits other from h behind
before_or_none trues lits other from (Some k) behind h = other_among trues lits other from k h
