-- Numbers of a range that pass a test.
use Rattle.std.proofs.Common.{◌≡◌, ℕ, zero, suc, ◌+◌, ◌≤◌, ◌<◌, Bool, true, false, true≢false, ◌||◌, cond, List, ◌∷◌, refl, sym, arith, filter, eqb}
use Rattle.std.specs.List.{range_with_len}
use Rattle.std.proofs.lemmas.Bool.{eqb-true}
use Rattle.rup_core.specs.Items.{is_among}

-- what stands among them is in the range and passes
pub record IsPicked (p : ℕ → Bool) (a n id : ℕ) : Type 0 where
  pub from : a ≤ id
  pub below : id < a + n
  pub passes : p id ≡ true

picked_here : (p : ℕ → Bool) (a n id : ℕ) → p a ≡ true → (rest : Bool) → (rest ≡ true → IsPicked p a (suc n) id) →
    (b : Bool) → eqb a id ≡ b → (b || rest) ≡ true → IsPicked p a (suc n) id
picked_here p a n id passes rest later true e g = search (arith, eqb-true)
picked_here p a n id passes rest later false e g = later g

picked_by : (p : ℕ → Bool) (a n id : ℕ) (rest : List ℕ) → (is_among rest id ≡ true → IsPicked p a (suc n) id) →
    (b : Bool) → p a ≡ b → is_among (cond b (a ∷ rest) rest) id ≡ true → IsPicked p a (suc n) id
picked_by p a n id rest later true e h = picked_here p a n id e (is_among rest id) later (eqb a id) refl h
picked_by p a n id rest later false e h = later h

pub among_filter : (p : ℕ → Bool) (a n id : ℕ) → is_among (filter p (range_with_len a n)) id ≡ true → IsPicked p a n id
among_filter p a zero id h = absurd (true≢false (sym h))
among_filter p a (suc n) id h = search (arith, picked_by, (among_filter p (a + 1) n id))
