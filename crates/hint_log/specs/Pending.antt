-- A set of numbers that are still to be looked at.
use Rattle.std.specs.Prelude.{◌≡◌, ℕ, ◌<◌, Bool, true}
use Rattle.std.specs.BTreeSet.{contains}
use Rattle.std.specs.Ordering.{nat_cmp}
use Rattle.hint_log.specs.declared.pending.Pending.{Pending}

abbrev pub is_pending : Pending → ℕ → Bool
is_pending p n = contains nat_cmp p.numbers n

-- the greatest number is taken out
pub record Takes (old new : Pending) (n : ℕ) : Type 0 where
  pub was : is_pending old n ≡ true
  pub below : (m : ℕ) → is_pending new m ≡ true → m < n
  pub fewer : (m : ℕ) → is_pending new m ≡ true → is_pending old m ≡ true
  pub others : (m : ℕ) → is_pending old m ≡ true → (m ≡ n → ⊥) → is_pending new m ≡ true
