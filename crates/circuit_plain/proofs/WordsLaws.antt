-- Words of marks.
use Rattle.std.proofs.Common.{◌≡◌, ℕ, ◌<◌, ◌==◌, inl, inr, Bool, true, false, ◌&&◌, ◌||◌, List, length, get_or, set, bit_or, refl, sym, ap, ◌∙◌, eq-eqb}
use Rattle.std.specs.Int.{bit_at}
use Rattle.std.proofs.Math.Bool.{or-false}
use Rattle.std.proofs.lemmas.Bool.{cases_eq, ne_eqb, or_left, or_right, or_cases, and_parts, and_from, eqb-true}
use Rattle.std.proofs.lemmas.List.{get_or-set_same, get_or-set_other}
use Rattle.std.proofs.lemmas.Nat.Bits.{bit_at_or, bit_at-lt}
use Rattle.list_laws.proofs.Numbers.{most_bit}
use Rattle.circuit_plain.specs.Steps.{IsSpread}
use Rattle.circuit_plain.specs.Words.{marked}
use Rattle.circuit_plain.proofs.ReachLaws.{Spreads}

-- one word takes the marks of another
marks_added : (words : List ℕ) (at word i v : ℕ) → at < length words
    → marked (set words at (bit_or (get_or words at 0) word)) i v ≡
    (marked words i v || ((bit_at word i == 1) && (at == v)))
marks_added words at word i v below =
    elim (cases_eq v at) [
      | inl same ↦
          ap (λ w. bit_at (get_or (set words at (bit_or (get_or words at 0) word)) w 0) i == 1) same
          ∙ ap (λ w. bit_at w i == 1) (get_or-set_same words at (bit_or (get_or words at 0) word) 0 below)
          ∙ ap (λ n. n == 1) (bit_at_or (get_or words at 0) word i)
          ∙ most_bit (bit_at (get_or words at 0) i) (bit_at word i) (bit_at-lt (get_or words at 0) i)
          (bit_at-lt word i)
          ∙ ap (λ w. marked words i w || (bit_at word i == 1)) (sym same)
          ∙ ap (λ b. marked words i v || b) (sym (and_true (bit_at word i == 1)) ∙ ap (λ b. (bit_at word i == 1) && b)
          (sym (eq-eqb at v (sym same))))
      | inr other ↦
          ap (λ w. bit_at w i == 1) (get_or-set_other words at v (bit_or (get_or words at 0) word) 0 other)
          ∙ sym (or-false (marked words i v))
          ∙ ap (λ b. marked words i v || b) (sym (ap (λ b. (bit_at word i == 1) && b) (ne_eqb at v (λ e. other (sym e)))
          ∙ and_false (bit_at word i == 1)))
    ]
  where
    and_true : (b : Bool) → (b && true) ≡ b
    and_true true = refl
    and_true false = refl

    and_false : (b : Bool) → (b && false) ≡ false
    and_false true = refl
    and_false false = refl

pub words_spread : (words first second : List ℕ) (from left right i : ℕ) → left < length words → right < length first
    → first ≡ set words left (bit_or (get_or words left 0) (get_or words from 0)) →
    second ≡ set first right (bit_or (get_or first right 0) (get_or words from 0))
    → IsSpread (marked words i) (marked second i) from left right
words_spread words first second from left right i left_in right_in first_is second_is v =
    let word = get_or words from 0 in
    ap (λ ws. marked ws i v) second_is ∙ marks_added first right word i v right_in
    ∙ ap (λ b. b || (marked words i from && (right == v))) (ap (λ ws. marked ws i v) first_is
    ∙ marks_added words left word i v left_in)
    ∙ joined (marked words i v) (marked words i from) (left == v) (right == v)
  where
    joined : (a b c d : Bool) → ((a || (b && c)) || (b && d)) ≡ (a || (b && (c || d)))
    joined true b c d = refl
    joined false true c d = refl
    joined false false c d = refl

module _ (old new : ℕ → Bool) (from left right : ℕ) (spread : IsSpread old new from left right) where
  pub spread_on : old from ≡ true → Spreads old new left right
  spread_on on = record {
    keeps = λ v here. spread v ∙ or_left (old v) (old from && ((left == v) || (right == v))) here;
    left_on = spread left ∙ or_right (old left) (old from && ((left == left) || (right == left)))
        (and_from (old from) ((left == left) || (right == left)) on
        (or_left (left == left) (right == left) (eq-eqb left left refl)));
    right_on = spread right ∙ or_right (old right) (old from && ((left == right) || (right == right)))
        (and_from (old from) ((left == right) || (right == right)) on
        (or_right (left == right) (right == right) (eq-eqb right right refl)));
    only = λ v here.
        elim (or_cases (old v) (old from && ((left == v) || (right == v))) (sym (spread v) ∙ here)) [
          | inl before ↦ inr (inr before)
          | inr more ↦
              elim (or_cases (left == v) (right == v) (and_parts (old from) ((left == v) || (right == v)) more).1) [
                | inl is_left ↦ inr (inl (sym (eqb-true left v is_left)))
                | inr is_right ↦ inl (sym (eqb-true right v is_right))
              ]
        ];
  }

  pub spread_off : old from ≡ false → (v : ℕ) → new v ≡ old v
  spread_off off v = spread v ∙ ap (λ b. old v || (b && ((left == v) || (right == v)))) off ∙ or-false (old v)
