-- Ranges of numbers, and what is in them.
use Rattle.std.proofs.Common.{◌≡◌, ◌+◌, ◌<◌, ◌∙◌, ℕ, zero, suc, ap, subst, arith, List, [], ◌∷◌, ◌++◌}
use Rattle.std.specs.List.{All, flat_map, range_with_len}
use Rattle.std.proofs.lemmas.List.Elements.{All-nil, All-cons, All-append}

pub all_range : (P : ℕ → Type 0) (a n : ℕ) → ((i : ℕ) → i < n → P (a + i)) → All P (range_with_len a n)
all_range P a zero each = All-nil P
all_range P a (suc n) each =
    let start : a + 0 ≡ a = omega arith in
    All-cons P a (range_with_len (a + 1) n) (subst P start (each 0 (omega arith)))
    (all_range P (a + 1) n (λ i below. let next : a + suc i ≡ a + 1 + i = omega arith in
    subst P next (each (suc i) (omega (arith, below)))))

pub range_more : (a n : ℕ) → range_with_len a (n + 1) ≡ range_with_len a n ++ (a + n) ∷ []
range_more a zero = let same : a ≡ a + 0 = omega arith in ap (λ x. x ∷ []) same
range_more a (suc n) =
    let step : suc n + 1 ≡ suc (n + 1) = omega arith in
    let last : a + 1 + n ≡ a + suc n = omega arith in
    ap (range_with_len a) step ∙ ap (λ xs. a ∷ xs) (range_more (a + 1) n ∙ ap
    (λ x. range_with_len (a + 1) n ++ x ∷ []) last)

pub all_flat_map : {X Y : Type 0} (P : Y → Type 0) (h : X → List Y) (xs : List X) → All (λ x. All P (h x)) xs →
    All P (flat_map h xs)
all_flat_map P h [] each = All-nil P
all_flat_map P h (x ∷ xs) each =
    All-append P (h x) (flat_map h xs) (each 0 x (omega arith))
    (all_flat_map P h xs (λ k d below. each (suc k) d (omega (arith, below))))

pub all_two : {X : Type 0} (P : X → Type 0) (a b : X) → P a → P b → All P (a ∷ b ∷ [])
all_two P a b at_a at_b = All-cons P a (b ∷ []) at_a (All-cons P b [] at_b (All-nil P))

pub all_three : {X : Type 0} (P : X → Type 0) (a b c : X) → P a → P b → P c → All P (a ∷ b ∷ c ∷ [])
all_three P a b c at_a at_b at_c = All-cons P a (b ∷ c ∷ []) at_a (all_two P b c at_b at_c)

pub all_four : {X : Type 0} (P : X → Type 0) (a b c d : X) → P a → P b → P c → P d → All P (a ∷ b ∷ c ∷ d ∷ [])
all_four P a b c d at_a at_b at_c at_d = All-cons P a (b ∷ c ∷ d ∷ []) at_a (all_three P b c d at_b at_c at_d)
