-- Numbers of lines rise with the ids.
use Rattle.std.proofs.Common.{◌≡◌, ℕ, zero, suc, ◌+◌, ◌<◌, ◌==◌, Bool, true, false, cond, not, List, [], ◌∷◌, length, refl, sym, ◌∙◌, arith}
use Rattle.std.specs.List.{Contains, filter, position_or_len}
use Rattle.std.proofs.lemmas.Bool.{eqb-true, eq-eqb, false≢true}
use Rattle.std.proofs.lemmas.List.Kept.{AllPairs-from_increasing}
use Rattle.list_laws.proofs.Members.{contains_later, filter_keeps}
use Rattle.hint_log.specs.Entries.{Entry}
use Rattle.hint_log.specs.Reached.{AreReached}
use Rattle.cert_export.specs.Lines.{derived_ids, line_number}
use Rattle.cert_export.specs.LineOrder.{AreLineNumbers}
use Rattle.cert_export.proofs.ReachedLines.{Rising, rising_of}

-- places of rising numbers rise
module _ (p : ℕ → Bool) where
  pub of_filter : (xs : List ℕ) (h : ℕ) → Contains (filter p xs) h → Contains xs h
  of_filter [] h inside = inside
  of_filter (x ∷ xs) h inside = search (arith, (of_filter xs h), contains_later)

  pub rising_filter : (xs : List ℕ) → Rising xs → Rising (filter p xs)
  rising_filter [] h = tt
  rising_filter (x ∷ xs) h = by_bit (p x) (rising_filter xs h.1) where
    by_bit : (b : Bool) → Rising (filter p xs) → Rising (cond b (x ∷ filter p xs) (filter p xs))
    by_bit true later = ((λ k inside. h.0 k (of_filter xs k inside)), later)
    by_bit false later = later

places_rise : (xs : List ℕ) → Rising xs → (h k : ℕ) → Contains xs h → Contains xs k → h < k →
    position_or_len (λ x. x == h) xs < position_or_len (λ x. x == k) xs
places_rise [] rising h k in_h in_k less = absurd (let b = in_h.1 in omega arith)
places_rise (x ∷ xs) rising h k in_h in_k less = by_bits (places_rise xs rising.1 h k) (x == h) (x == k) refl refl where
  rest : (z : ℕ) → (x == z) ≡ false → Contains (x ∷ xs) z → Contains xs z
  rest z e (zero, below, is) = absurd (false≢true (sym e ∙ eq-eqb x z is))
  rest z e (suc i, below, is) = (i, (let b : i < length xs = omega arith in b), is)

  by_bits : (Contains xs h → Contains xs k → h < k → position_or_len (λ z. z == h) xs < position_or_len
      (λ z. z == k) xs) → (b c : Bool) → (x == h) ≡ b → (x == k) ≡ c →
      cond (not b) (1 + position_or_len (λ z. z == h) xs) 0 < cond (not c) (1 + position_or_len (λ z. z == k) xs) 0
  by_bits later true true e g = absurd (omega (arith, eqb-true x h e, eqb-true x k g, less))
  by_bits later true false e g = omega arith
  by_bits later false true e g = absurd (omega (arith, rising.0 h (rest h e in_h), eqb-true x k g, less))
  by_bits later false false e g = omega (arith, later (rest h e in_h) (rest k g in_k) less)

pub lines_have_numbers : (entries : List Entry) (id base : ℕ) (ids : List ℕ) → AreReached entries id ids →
    AreLineNumbers entries id base (line_number base (derived_ids entries ids))
lines_have_numbers entries id base ids are =
    search (
      arith,
      rising_filter,
      (rising_of ids (AllPairs-from_increasing ids are.ascending)),
      (AllPairs-from_increasing ids are.ascending),
      places_rise,
      filter_keeps,
    )
