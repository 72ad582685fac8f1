-- There are no more lines than learned clauses and answers.
use Rattle.std.proofs.Common.{◌≡◌, ℕ, suc, ◌+◌, ◌≤◌, ◌<◌, ◌==◌, Bool, true, false, not, cond, List, [], ◌∷◌, length, Some, refl, sym, ◌∙◌, ap, arith}
use Rattle.std.specs.List.{All, Contains, filter}
use Rattle.std.proofs.lemmas.Bool.{eqb-true, ne_eqb}
use Rattle.std.proofs.lemmas.List.{length-map}
use Rattle.std.proofs.lemmas.List.Elements.{All-nil, All-cons, All-head, All-tail}
use Rattle.std.proofs.lemmas.List.Kept.{AllPairs-from_increasing}
use Rattle.std.specs.List.Sorted.{IsStrictlyIncreasing}
use Rattle.dq_lits.specs.Derivation.{ProofStep}
use Rattle.dq_lits.specs.Formula.{Dqbf}
use Rattle.hint_log.specs.Entries.{Entry, Named, Given, Round, Begun, has_id, numbered, count}
use Rattle.cert_export.specs.Exportable.{AreExportedItems}
use Rattle.rup_core.specs.Items.{ProofItem, derived}
use Rattle.cert_export.specs.Exported.{exported_number}
use Rattle.cert_export.specs.Expansion.{instance_id, used_rounds}
use Rattle.hint_log.specs.declared.origins.Origin.{Origin}
use Rattle.cert_export.specs.Renaming.{Renaming}
use Rattle.cert_export.specs.Lines.{derived_ids, is_derived, is_lemma, line_steps}
use Rattle.cert_export.proofs.Numbers.{rising_filter}
use Rattle.cert_export.proofs.ReachedLines.{Rising, rising_of}

abbrev others : ℕ → ℕ → Bool
others n h = not (h == n)

all_others : (n : ℕ) (xs : List ℕ) → ((k : ℕ) → Contains xs k → n < k) → filter (others n) xs ≡ xs
all_others n [] above = refl
all_others n (x ∷ xs) above =
    ap (λ b. cond (not b) (x ∷ filter (others n) xs) (filter (others n) xs)) (ne_eqb x n (λ e.
    omega (arith, e, above x (0, omega arith, refl))))
    ∙ ap (λ ys. x ∷ ys) (all_others n xs (λ k inside. above k (suc inside.0, omega (arith, inside.1), inside.2)))

-- without one number a rising list is shorter by one at most
one_less : (n : ℕ) (xs : List ℕ) → Rising xs → length xs ≤ length (filter (others n) xs) + 1
one_less n [] rising = omega arith
one_less n (x ∷ xs) rising = by_bit (x == n) refl (one_less n xs rising.1) where
  by_bit : (b : Bool) → (x == n) ≡ b → length xs ≤ length (filter (others n) xs) + 1 →
      suc (length xs) ≤ length (cond (not b) (x ∷ filter (others n) xs) (filter (others n) xs)) + 1
  by_bit true e later =
      let kept = ap length (all_others n xs (λ k inside. omega (arith, eqb-true x n e, rising.0 k inside))) in
      omega (arith, kept)
  by_bit false e later = omega (arith, later)

abbrev IsLemmaOf : List Entry → ℕ → Type 0
IsLemmaOf es h = is_derived (numbered has_id es h) ≡ true

-- the other numbers are of earlier entries
of_earlier : (e : Entry) (es : List Entry) (n : ℕ) (xs : List ℕ) →
    All (λ h. is_derived (cond (h == n) (Some e) (numbered has_id es h)) ≡ true) xs →
    All (IsLemmaOf es) (filter (others n) xs)
of_earlier e es n [] h = All-nil (IsLemmaOf es)
of_earlier e es n (x ∷ xs) h = by_bit (x == n) (All-head P x xs h) (of_earlier e es n xs (All-tail P x xs h)) where
  P : ℕ → Type 0
  P k = is_derived (cond (k == n) (Some e) (numbered has_id es k)) ≡ true

  by_bit : (b : Bool) → is_derived (cond b (Some e) (numbered has_id es x)) ≡ true →
      All (IsLemmaOf es) (filter (others n) xs) → All (IsLemmaOf es)
      (cond (not b) (x ∷ filter (others n) xs) (filter (others n) xs))
  by_bit true here later = later
  by_bit false here later = All-cons (IsLemmaOf es) x (filter (others n) xs) here later

not_given : (e : Entry) (es : List Entry) (n : ℕ) (xs : List ℕ) → is_lemma e ≡ false →
    All (λ h. is_derived (cond (h == n) (Some e) (numbered has_id es h)) ≡ true) xs → All (IsLemmaOf es) xs
not_given e es n [] none h = All-nil (IsLemmaOf es)
not_given e es n (x ∷ xs) none h = All-cons (IsLemmaOf es) x xs (by_bit (x == n) (All-head P x xs h))
    (not_given e es n xs none (All-tail P x xs h)) where
      P : ℕ → Type 0
      P k = is_derived (cond (k == n) (Some e) (numbered has_id es k)) ≡ true

      by_bit : (b : Bool) → is_derived (cond b (Some e) (numbered has_id es x)) ≡ true → IsLemmaOf es x
      by_bit true here = let both : false ≡ true = sym none ∙ here in cc
      by_bit false here = here

few_lemmas : (es : List Entry) (xs : List ℕ) → Rising xs → All (IsLemmaOf es) xs → length xs ≤ count is_lemma es
few_lemmas [] [] rising all = omega arith
few_lemmas [] (x ∷ xs) rising all = let here : false ≡ true = All-head (IsLemmaOf []) x xs all in cc
few_lemmas (Named v n ∷ es) xs rising all = few_lemmas es xs rising all
few_lemmas (Round row values j ∷ es) xs rising all = few_lemmas es xs rising all
few_lemmas (Begun live ∷ es) xs rising all = few_lemmas es xs rising all
few_lemmas (Given o c ∷ es) xs rising all = search (arith, (few_lemmas es xs rising))
few_lemmas (e ∷ es) xs rising all =
    let n = count has_id es + 1 in
    let rest = few_lemmas es (filter (others n) xs) (rising_filter (others n) xs rising)
    (of_earlier e es n xs all) in
    omega (arith, rest, one_less n xs rising)

all_derived : (es : List Entry) (xs : List ℕ) → All (IsLemmaOf es) (derived_ids es xs)
all_derived es [] = All-nil (IsLemmaOf es)
all_derived es (x ∷ xs) = search (arith, (all_derived es xs), All-cons)

pub lines_few : (entries : List Entry) (ids : List ℕ) (r : Renaming) (base_id : Origin → ℕ) (number : ℕ → ℕ)
    (steps : List ProofStep) → IsStrictlyIncreasing ids →
    steps ≡ line_steps r base_id entries number (derived_ids entries ids) → length steps ≤ count is_lemma entries
lines_few entries ids r base_id number steps ascending are =
    search (arith, length-map, few_lemmas, rising_filter, rising_of, AllPairs-from_increasing, all_derived)

pub few_items : (f : Dqbf) (live : List ℕ) (entries : List Entry) (ids : List ℕ) (items : List ProofItem) →
    IsStrictlyIncreasing ids → AreExportedItems f live entries ids items → length items ≤ count is_lemma entries
few_items f live entries ids items ascending exported =
    let few = lines_few entries ids exported.1.0 (instance_id (used_rounds entries ids) live (length f.matrix))
    (exported_number f entries ids) exported.0 ascending exported.1.2 in
    let many : length items ≡ length exported.0 = ap length exported.2 ∙ length-map exported.0 derived in
    omega (arith, many, few)
