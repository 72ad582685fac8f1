-- Lemmas on truth values.
use Rattle.std.proofs.Common.{◌≡◌, Bool, true, false, not, ◌||◌, ◌&&◌, refl, true≢false, sym, ◌∙◌, ap, ℕ, ◌==◌, cond, nat_lt, ◌≢◌, zero, suc, ◌≤◌, arith, inl, inr, []}
use Rattle.std.proofs.lemmas.Bool.{false≢true, eqb-true, eq-eqb, cases_eq, ne_eqb}
use Rattle.std.specs.Ordering.{nat_cmp, is_eq}
use Rattle.std.specs.declared.cmp.Ordering.TheVariants.{Less, Equal, Greater}

-- a gate's three clauses give it its value
pub gate_bit : (v a b : Bool) → (not v || (a || false)) ≡ true → (not v || (b || false)) ≡ true →
    (v || (not a || (not b || false))) ≡ true → v ≡ (a && b)
gate_bit true true true h k l = refl
gate_bit true true false h k l = absurd (false≢true k)
gate_bit true false b h k l = absurd (false≢true h)
gate_bit false true true h k l = absurd (false≢true l)
gate_bit false true false h k l = refl
gate_bit false false b h k l = refl

pub neither : (a b : Bool) → (a || b) ≡ false → (a ≡ false) × (b ≡ false)
neither true b h = absurd (true≢false h)
neither false b h = (refl, h)

pub last : (b : Bool) → (b || false) ≡ b
last true = refl
last false = refl

pub or_true : (b : Bool) → (b || true) ≡ true
or_true true = refl
or_true false = refl

pub not_true : (b : Bool) → not b ≡ true → b ≡ false
not_true true h = sym h
not_true false h = refl

pub false_unless : (b : Bool) → (b ≡ true → ⊥) → b ≡ false
false_unless true h = absurd (h refl)
false_unless false h = refl

pub and_first : (y a b : Bool) → y ≡ (a && b) → (not y || (a || false)) ≡ true
and_first false a b is = refl
and_first true true b is = refl
and_first true false b is = cc

pub both_true : (a b : Bool) → a ≡ true → b ≡ true → (a && b) ≡ true
both_true a b p q = ap (λ x. x && b) p ∙ q

-- gates
pub unnot : (b : Bool) → not b ≡ false → b ≡ true
unnot true h = refl
unnot false h = cc

pub equal_numbers : (x y : ℕ) → is_eq (nat_cmp x y) ≡ true → x ≡ y
equal_numbers x y h = by (nat_lt x y) (x == y) refl h where
  by : (b d : Bool) → (x == y) ≡ d → is_eq (cond b Less (cond d Equal Greater)) ≡ true → x ≡ y
  by true d e h = cc
  by false true e h = eqb-true x y e
  by false false e h = cc

pub not-not : (b : Bool) → not (not b) ≡ b
not-not true = refl
not-not false = refl

pub and_turned : (x y : Bool) → (x && y) ≡ (y && x)
and_turned true true = refl
and_turned true false = refl
and_turned false true = refl
and_turned false false = refl

pub and_second : (x y z : Bool) → x ≡ (y && z) → (not x || (z || false)) ≡ true
and_second false y z e = refl
and_second true y true e = refl
and_second true true false e = absurd (true≢false e)
and_second true false false e = absurd (true≢false e)

pub and_third : (x y z : Bool) → x ≡ (y && z) → (x || (not y || (not z || false))) ≡ true
and_third true y z e = refl
and_third false true true e = absurd (true≢false (sym e))
and_third false true false e = refl
and_third false false z e = refl

pub both_false : (a b : Bool) → a ≡ false → b ≡ false → (a || b) ≡ false
both_false a b a_is b_is = ap (λ t. t || b) a_is ∙ b_is

pub unequal : (a b : ℕ) → (a == b) ≡ false → a ≢ b
unequal a b h same = true≢false (sym (eq-eqb a b same) ∙ h)

pub nonzero : (n : ℕ) → not (n == 0) ≡ true → 1 ≤ n
nonzero zero h = cc
nonzero (suc n) h = omega arith

pub or_assoc : (a b c : Bool) → (a || (b || c)) ≡ ((a || b) || c)
or_assoc true b c = refl
or_assoc false b c = refl

pub and-false : (a : Bool) → (a && false) ≡ false
and-false true = refl
and-false false = refl

pub or_right : (a b : Bool) → b ≡ true → (a || b) ≡ true
or_right true b h = refl
or_right false b h = h

pub same_test : (a b c d : ℕ) → (c ≡ d → a ≡ b) → (a ≡ b → c ≡ d) → (a == b) ≡ (c == d)
same_test a b c d to from =
    elim (cases_eq c d) [
      | inl same ↦ eq-eqb a b (to same) ∙ sym (eq-eqb c d same)
      | inr other ↦ ne_eqb a b (λ e. other (from e)) ∙ sym (ne_eqb c d other)
    ]

pub or_second : (a b : Bool) → (a || b) ≡ false → b ≡ false
or_second false b h = h
or_second true b h = cc

pub or_assoc_left : (a b c : Bool) → ((a || b) || c) ≡ (a || (b || c))
or_assoc_left false b c = refl
or_assoc_left true b c = refl
