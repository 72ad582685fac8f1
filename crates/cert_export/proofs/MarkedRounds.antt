-- Marks of the rounds that have an instance among some ids.
use Rattle.std.proofs.Common.{◌≡◌, ◌≢◌, ℕ, zero, suc, ◌+◌, ◌-◌, ◌≤◌, ◌<◌, ◌||◌, Bool, true, false, cond, List, [], ◌∷◌, ◌++◌, map, replicate, slice_set, Some, refl, sym, ◌∙◌, ap, arith}
use Rattle.std.specs.List.{filter, list_any, range_with_len}
use Rattle.std.proofs.lemmas.List.{append-nil}
use Rattle.std.proofs.lemmas.List.Elements.{filter-append}
use Rattle.std.proofs.lemmas.List.Folds.{list_any-append}
use Rattle.std.proofs.lemmas.Bool.{eqb-true, eqb-false, eq-eqb, ne_eqb}
use Rattle.list_laws.proofs.Numbers.{range_more}
use Rattle.list_laws.proofs.Truths.{last, or_true}
use Rattle.hint_log.specs.Entries.{Entry, origin_at}
use Rattle.hint_log.specs.declared.origins.Origin.TheVariants.{Instance}
use Rattle.cert_export.specs.Expansion.{has_instance}
use Rattle.cert_export.specs.Exportable.{with_mark}

-- none is marked at first
pub none_marked : (n start : ℕ) → replicate n false ≡ map (λ x. false) (range_with_len start n)
none_marked zero start = refl
none_marked (suc n) start = ap (λ xs. false ∷ xs) (none_marked n (start + 1))

any_push : (p : ℕ → Bool) (xs : List ℕ) (x : ℕ) → list_any p (xs ++ x ∷ []) ≡ (list_any p xs || p x)
any_push p xs x = list_any-append p xs (x ∷ []) ∙ ap (λ b. list_any p xs || b) (last (p x))

-- numbers behind k keep their marks
same_behind : (h g : ℕ → Bool) (k : ℕ) → ((x : ℕ) → x ≢ k → g x ≡ h x) → (n start : ℕ) → k < start →
    map h (range_with_len start n) ≡ map g (range_with_len start n)
same_behind h g k same zero start low = refl
same_behind h g k same (suc n) start low = search (arith, (same_behind h g k same n (start + 1)))

-- one mark more
set_mark : (h g : ℕ → Bool) (k : ℕ) → g k ≡ true → ((x : ℕ) → x ≢ k → g x ≡ h x) → (n start : ℕ) → start ≤ k →
    k < start + n → slice_set (map h (range_with_len start n)) (k - start) true ≡ map g (range_with_len start n)
set_mark h g k here same zero start low high = absurd (omega (arith, low, high))
set_mark h g k here same (suc n) start low high =
    search (arith, (set_mark h g k here same n (start + 1)), slice_set, eqb-true, same_behind, eqb-false)

pub marked_more : (entries : List Entry) (done : List ℕ) (id n : ℕ) →
    ((k j : ℕ) → origin_at entries id ≡ Some (Instance k j) → (1 ≤ k) × (k ≤ n)) →
    with_mark (map (has_instance entries done) (range_with_len 1 n)) (origin_at entries id)
    ≡ map (has_instance entries (done ++ id ∷ [])) (range_with_len 1 n)
marked_more entries done id n within = search (arith, any_push, set_mark, eq-eqb, or_true, ne_eqb)

-- so the listed ones grow
pub listed_more : (p : ℕ → Bool) (k : ℕ) → filter p (range_with_len 1 (k + 1))
    ≡ filter p (range_with_len 1 k) ++ cond (p (1 + k)) ((1 + k) ∷ []) []
listed_more p k = search (arith, (range_more 1 k), (filter-append p))

pub listed : (p : ℕ → Bool) (k : ℕ) (xs : List ℕ) → xs ≡ filter p (range_with_len 1 k) → p (1 + k) ≡ true →
    xs ++ (k + 1) ∷ [] ≡ filter p (range_with_len 1 (k + 1))
listed p k xs so_far passes =
    let number : k + 1 ≡ 1 + k = omega arith in
    ap (λ ys. ys ++ (k + 1) ∷ []) so_far ∙ ap (λ n. filter p (range_with_len 1 k) ++ n ∷ []) number
    ∙ sym (listed_more p k ∙ ap (λ b. filter p (range_with_len 1 k) ++ cond b ((1 + k) ∷ []) []) passes)

pub unlisted : (p : ℕ → Bool) (k : ℕ) (xs : List ℕ) → xs ≡ filter p (range_with_len 1 k) → p (1 + k) ≡ false →
    xs ≡ filter p (range_with_len 1 (k + 1))
unlisted p k xs so_far fails = so_far ∙ sym (append-nil (filter p (range_with_len 1 k)))
    ∙ sym (listed_more p k ∙ ap (λ b. filter p (range_with_len 1 k) ++ cond b ((1 + k) ∷ []) []) fails)
