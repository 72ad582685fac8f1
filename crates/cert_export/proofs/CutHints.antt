-- Hints up to the first that is falsified, by other ids.
use Rattle.std.proofs.Common.{◌≡◌, ℕ, suc, ◌+◌, ◌-◌, ◌≤◌, List, [], ◌∷◌, map, take, Option, None, Some, refl, sym, ◌∙◌, ap, arith}
use Rattle.std.specs.List.{All}
use Rattle.std.proofs.lemmas.List.Elements.{All-head, All-tail}
use Rattle.dq_lits.specs.Literal.{Literal}
use Rattle.dq_lits.specs.Derivation.{LiveClauses, ClauseStatus, falsified, unit, stuck, status_of, fault_by, hint_fault}
use Rattle.cert_export.specs.Renaming.{cut_by, cut_hints}

-- the clauses are the same by other ids
pub cut_by_ids : (to : ℕ → ℕ) (live own : LiveClauses) (hints : List ℕ) → All (λ h. live (to h) ≡ own h) hints →
    (trues : List Literal) →
    cut_hints live trues (map to hints) ≡ map to (cut_hints own trues hints)
cut_by_ids to live own [] same trues = refl
cut_by_ids to live own (h ∷ hs) same trues =
    let P : ℕ → Type 0 = λ x. live (to x) ≡ own x in
    ap (λ xs. to h ∷ xs) (ap (λ s. cut_by s (λ l. cut_hints live (l ∷ trues) (map to hs)))
    (ap (status_of trues) (All-head P h hs same))
    ∙ by_status (status_of trues (own h)) (λ l. cut_by_ids to live own hs (All-tail P h hs same) (l ∷ trues))) where
      by_status : (s : ClauseStatus) → ((l : Literal) → cut_hints live (l ∷ trues) (map to hs) ≡ map to
          (cut_hints own (l ∷ trues) hs)) →
          cut_by s (λ l. cut_hints live (l ∷ trues) (map to hs)) ≡ map to (cut_by s (λ l. cut_hints own (l ∷ trues) hs))
      by_status (unit l) later = later l
      by_status _ later = refl

-- a fault stands where the hints are cut
abbrev pub up_to_fault : Option ℕ → ℕ → List ℕ → List ℕ
up_to_fault None place hints = hints
up_to_fault (Some fault) place hints = take (fault + 1 - place) hints

not_before : (live : LiveClauses) (hints : List ℕ) (trues : List Literal) (place fault : ℕ) →
    hint_fault live trues place hints ≡ Some fault → place ≤ fault
not_before live [] trues place fault h = let same : place ≡ fault = cc in omega (arith, same)
not_before live (x ∷ xs) trues place fault h = by_status (status_of trues (live x)) xs
    (λ l g. not_before live xs (l ∷ trues) (place + 1) fault g) h where
      by_status : (s : ClauseStatus) (ys : List ℕ) → ((l : Literal) →
          hint_fault live (l ∷ trues) (place + 1) xs ≡ Some fault →
          place + 1 ≤ fault) →
          fault_by s place ys (λ l. hint_fault live (l ∷ trues) (place + 1) xs) ≡ Some fault → place ≤ fault
      by_status falsified [] later g = cc
      by_status falsified (y ∷ ys) later g = let same : place ≡ fault = cc in omega (arith, same)
      by_status (unit l) ys later g = omega (arith, later l g)
      by_status stuck ys later g = let same : place ≡ fault = cc in omega (arith, same)

pub cut_at_fault : (live : LiveClauses) (hints : List ℕ) (trues : List Literal) (place : ℕ) →
    cut_hints live trues hints ≡ up_to_fault (hint_fault live trues place hints) place hints
cut_at_fault live [] trues place = search arith
cut_at_fault live (x ∷ xs) trues place = by_status (status_of trues (live x)) xs refl
    (λ l. cut_at_fault live xs (l ∷ trues) (place + 1)) (λ l fault. not_before live xs (l ∷ trues)
    (place + 1) fault) where
      one : (ys : List ℕ) → x ∷ [] ≡ take (place + 1 - place) (x ∷ ys)
      one ys = ap (λ n. take n (x ∷ ys)) (let s : 1 ≡ place + 1 - place = omega arith in s)

      longer : (o : Option ℕ) → ((fault : ℕ) → o ≡ Some fault → place + 1 ≤ fault) →
          x ∷ up_to_fault o (place + 1) xs ≡ up_to_fault o place (x ∷ xs)
      longer None most = refl
      longer (Some fault) most = ap (λ n. take n (x ∷ xs))
          (let s : suc (fault + 1 - (place + 1)) ≡ fault + 1 - place = omega (arith, most fault refl) in s)

      by_status : (s : ClauseStatus) (ys : List ℕ) → xs ≡ ys → ((l : Literal) →
          cut_hints live (l ∷ trues) xs ≡ up_to_fault (hint_fault live (l ∷ trues) (place + 1) xs) (place + 1) xs) →
          ((l : Literal) (fault : ℕ) → hint_fault live (l ∷ trues) (place + 1) xs ≡ Some fault → place + 1 ≤ fault) →
          x ∷ cut_by s (λ l. cut_hints live (l ∷ trues) xs) ≡ up_to_fault
          (fault_by s place ys (λ l. hint_fault live (l ∷ trues) (place + 1) xs)) place (x ∷ xs)
      by_status falsified [] same later most = ap (λ ys. x ∷ ys) (sym same)
      by_status falsified (y ∷ ys) same later most = one xs
      by_status (unit l) ys same later most = ap (λ zs. x ∷ zs) (later l) ∙ longer
          (hint_fault live (l ∷ trues) (place + 1) xs) (most l)
      by_status stuck ys same later most = one xs
