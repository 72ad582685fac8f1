-- Lines over a renamed base are such as the formats allow.
use Rattle.std.proofs.Common.{◌≡◌, ◌≢◌, ℕ, zero, suc, ◌+◌, ◌≤◌, ◌<◌, ◌==◌, Bool, true, cond, not, inl, inr, List, [], ◌∷◌, map, length, get_or, Option, None, Some, refl, sym, ◌∙◌, ap, subst, arith}
use Rattle.std.specs.List.{All, Contains, cons_option, position_or_len}
use Rattle.std.specs.Option.{option_map}
use Rattle.std.proofs.lemmas.Bool.{eq-eqb, ne_eqb}
use Rattle.std.proofs.lemmas.List.Elements.{All-nil, All-cons, Contains-get_or}
use Rattle.dq_lits.specs.Literal.{Literal, variable_of, on_variable, opposite}
use Rattle.dq_lits.specs.Derivation.{LiveClauses, ClauseStatus, unit, status_of}
use Rattle.dq_lits.proofs.SignedLiterals.{variable_of-on}
use Rattle.hint_log.specs.Entries.{has_id, numbered, Entry}
use Rattle.hint_log.specs.declared.origins.Origin.{Origin}
use Rattle.cert_text.specs.Grammar.{AreSteps}
use Rattle.cert_export.specs.Lines.{line_number, hints_or_none, number_by, new_number, renamed_clauses, line_clause, line_hints, line_steps}
use Rattle.cert_export.specs.LineOrder.{IsHintable, IsNextLine, AreLines, IsRenamedBase}
use Rattle.cert_export.specs.Renaming.{Renaming, renamed_clause, cut_by, cut_hints}
use Rattle.cert_export.proofs.ReachedLines.{Rising}

-- numbers one after the other
abbrev pub AreConsecutive : (ℕ → ℕ) → ℕ → List ℕ → Type 0
AreConsecutive number n [] = Unit {0}
AreConsecutive number n (id ∷ ids) = (number id ≡ n) × AreConsecutive number (n + 1) ids

pub place_of : (xs : List ℕ) → Rising xs → (i d : ℕ) → i < length xs → position_or_len (λ x. x == get_or xs i d) xs ≡ i
place_of [] rising i d below = absurd (omega arith)
place_of (x ∷ xs) rising zero d below = ap (λ b. cond (not b) (1 + position_or_len (λ z. z == x) xs) 0)
    (eq-eqb x x refl)
place_of (x ∷ xs) rising (suc i) d below =
    let inside = Contains-get_or xs i d (omega arith) in
    ap (λ b. cond (not b) (1 + position_or_len (λ z. z == get_or xs i d) xs) 0)
    (ne_eqb x (get_or xs i d) (λ e. omega (arith, rising.0 (get_or xs i d) inside, e))) ∙
    (let s : 1 + position_or_len (λ z. z == get_or xs i d) xs ≡ suc i =
    omega (arith, place_of xs rising.1 i d (omega arith)) in s)

consecutive_by : (number : ℕ → ℕ) (n : ℕ) (xs : List ℕ) → ((i : ℕ) → i < length xs → number (get_or xs i 0) ≡ n + i) →
    AreConsecutive number n xs
consecutive_by number n [] h = tt
consecutive_by number n (x ∷ xs) h =
    let here = h 0 (omega arith) in (
      here ∙ (let s : n + 0 ≡ n = omega arith in s),
      consecutive_by number (n + 1) xs
          (λ i below. let r = h (suc i) (omega arith) in let s : n + suc i ≡ n + 1 + i = omega arith in r ∙ s),
    )

pub consecutive : (base : ℕ) (xs : List ℕ) → Rising xs → AreConsecutive (line_number base xs) (base + 1) xs
consecutive base xs rising = consecutive_by (line_number base xs) (base + 1) xs
    (λ i below. omega (arith, place_of xs rising i 0 below))

module _ (P : ℕ → Type 0) where
  pub cut_all : (live : LiveClauses) (hints : List ℕ) (trues : List Literal) → All P hints →
      All P (cut_hints live trues hints)
  cut_all live [] trues h = All-nil P
  cut_all live (hint ∷ hints) trues h =
      All-cons P hint (cut_by (status_of trues (live hint)) (λ l. cut_hints live (l ∷ trues) hints))
      (h 0 hint (omega arith))
      (by_status (status_of trues (live hint)) (λ l. cut_all live hints (l ∷ trues)
      (λ k d below. h (suc k) d (omega arith)))) where
        by_status : (s : ClauseStatus) → ((l : Literal) → All P (cut_hints live (l ∷ trues) hints)) →
            All P (cut_by s (λ l. cut_hints live (l ∷ trues) hints))
        by_status (unit l) later = later l
        by_status _ later = All-nil P

  pub mapped_all : (g : ℕ → ℕ) (xs : List ℕ) → All (λ x. P (g x)) xs → All P (map g xs)
  mapped_all g [] h = All-nil P
  mapped_all g (x ∷ xs) h = All-cons P (g x) (map g xs) (h 0 x (omega arith))
      (mapped_all g xs (λ k d below. h (suc k) d (omega arith)))

-- the base is renamed by names that may be made of the lines' own
module _ (r named : Renaming) (base_id : Origin → ℕ) (usable : Origin → List Literal → Type 0) (first : LiveClauses)
    (base : ℕ) (entries : List Entry) (number : ℕ → ℕ) (is_variable : ℕ → Bool)
    (none : first 0 ≡ None) (right : IsRenamedBase named base_id usable first base entries)
    (variables : (v x : ℕ) → r v ≡ Some x → is_variable x ≡ true) where
  abbrev OnVariable : Literal → Type 0
  OnVariable l = is_variable (variable_of l) ≡ true

  on_variables : (c : List Literal) → All OnVariable (renamed_clause r c)
  on_variables [] = All-nil OnVariable
  on_variables (l ∷ ls) = by_option (on_variables ls) (r (variable_of l)) refl where
    by_option : All OnVariable (renamed_clause r ls) → (o : Option ℕ) → r (variable_of l) ≡ o →
        All OnVariable (cons_option (option_map (λ w. on_variable w l) o) (renamed_clause r ls))
    by_option later None is = later
    by_option later (Some x) is = search (arith, All-cons, variable_of-on)

  -- done lines have numbers behind the base and before n
  abbrev AreBefore : ℕ → List ℕ → Type 0
  AreBefore n done = (h : ℕ) → Contains done h → (new_number base_id entries number h ≡ number h) × (base < number h) ×
      (number h < n)

  abbrev IsBefore : ℕ → ℕ → Type 0
  IsBefore n hint = (1 ≤ hint) × (hint < n)

  hint_before : (n : ℕ) (done : List ℕ) → base < n → AreBefore n done → (h : ℕ) → IsHintable usable entries done h →
      IsBefore n (new_number base_id entries number h)
  hint_before n done small before h (inl i) =
      let new : new_number base_id entries number h ≡ base_id i.0 = ap (number_by base_id (number h)) i.2 in
      let there = right h i.0 i.1 i.2 i.3 in
      let some : first (base_id i.0) ≡ Some (renamed_clause named i.1) = there.0 in
      let positive' : base_id i.0 ≢ 0 = λ e. let nothing : first (base_id i.0) ≡ None = ap first e ∙ none in cc in
      (omega (arith, new, positive'), omega (arith, new, there.1, small))
  hint_before n done small before h (inr inside) = search arith

  next_number : (done : List ℕ) (id : ℕ) → IsNextLine usable entries number base done id →
      new_number base_id entries number id ≡ number id
  next_number done id next = search arith

  next_hints : (done : List ℕ) (id : ℕ) (next : IsNextLine usable entries number base done id) →
      hints_or_none (numbered has_id entries id) ≡ next.hints
  next_hints done id next = elim next.derived [
    | inl learned ↦ ap hints_or_none learned
    | inr answer ↦ ap hints_or_none answer
  ]

  pub steps_allowed : (ids done : List ℕ) (n : ℕ) → AreLines usable entries number base done ids →
      AreConsecutive number n ids → base < n → AreBefore n done →
      AreSteps is_variable n (line_steps r base_id entries number ids)
  steps_allowed [] done n lines numbers small before = tt
  steps_allowed (id ∷ ids) done n lines numbers small before = (
    record {
      numbered = numbers.0;
      on_variables = on_variables _;
      hints_before = mapped_all (IsBefore n) (new_number base_id entries number) (line_hints r entries id)
          (cut_all (λ h. IsBefore n (new_number base_id entries number h)) (renamed_clauses r entries)
          (hints_or_none (numbered has_id entries id)) (map opposite (line_clause r entries id))
          (subst (All (λ h. IsBefore n (new_number base_id entries number h))) (sym (next_hints done id lines.0))
          (λ k d below. hint_before n done small before (get_or lines.0.hints k d) (lines.0.ready k d below))));
    },
    steps_allowed ids (id ∷ done) (n + 1) lines.1 numbers.1 (omega arith) later,
  ) where
    later : AreBefore (n + 1) (id ∷ done)
    later h (zero, below, is) =
        let new = next_number done id lines.0 in
        let behind = lines.0.behind in
        subst (λ k. (new_number base_id entries number k ≡ number k) × (base < number k) × (number k < n + 1)) is
        (new, behind, omega (arith, numbers.0))
    later h (suc k, below, is) = let b = before h (k, (let c : k < length done = omega arith in c), is) in let less =
        b.2 in (b.0, b.1, omega (arith, less))
