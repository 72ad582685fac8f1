-- How a trail is kept, as variables and literals come and go.
use Rattle.std.proofs.Common.{◌≡◌, ℕ, suc, ◌+◌, ◌<◌, ◌≤◌, true, cond, inl, inr, List, [], ◌∷◌, ◌++◌, length, set, get_or, sym, ◌∙◌, ap, subst, arith, length-append}
use Rattle.std.specs.List.{All}
use Rattle.std.proofs.lemmas.Bool.{cases_lt, false_from_ne_true}
use Rattle.std.proofs.lemmas.List.{length-set, get_or_append_left}
use Rattle.std.proofs.lemmas.List.Elements.{All-head, All-tail, All-cons, All-weaker}
use Rattle.std.proofs.lemmas.List.Sums.{sum_by-append}
use Rattle.std.proofs.Math.Seq.{get_or-append_seam}
use Rattle.dq_lits.specs.Literal.{Literal, positive, negative, variable_of}
use Rattle.dq_lits.specs.Derivation.{holds}
use Rattle.dq_lits.proofs.SignedLiterals.{opposite_variable}
use Rattle.dq_lits.proofs.HeldLiterals.{holds_cases}
use Rattle.learning_trail.specs.declared.trails.Step.{Step}
use Rattle.learning_trail.specs.Steps.{literals_of}
use Rattle.dq_lits.specs.Truth.{IsFree, literal_value}
use Rattle.dq_lits.specs.Table.{IsTold}
use Rattle.dq_lits.specs.Truth.{is_assigned}
use Rattle.learning_trail.specs.TrailInside.{IsKept}
use Rattle.dq_lits.specs.declared.truth_values.TruthValue.{TruthValue}
use Rattle.dq_lits.specs.declared.truth_values.TruthValue.TheVariants.{Unassigned}
use Rattle.learning_trail.proofs.AssignedLiterals.{tells_less, one_more, one_less}
use Rattle.dq_lits.proofs.AssignedLiterals.{value_where_true, tells_more}

absent : (n : ℕ) (xs : List Step) (l : Literal) → All (λ s. variable_of s.literal ≤ n) xs → n < variable_of l →
    holds (literals_of xs) l ≡ true → ⊥
absent n [] l all far h = cc
absent n (s ∷ xs) l all far h =
    elim (holds_cases s.literal (literals_of xs) l h) [
      | inl e ↦
          let here = All-head (λ (k : Step). variable_of k.literal ≤ n) s xs all in
          let same : variable_of l ≡ variable_of s.literal = ap variable_of e in
          absurd (omega (arith, here, same, far))
      | inr later ↦ absent n xs l (All-tail (λ (k : Step). variable_of k.literal ≤ n) s xs all) far later
    ]

-- a variable beyond those of the trail has no value
pub far_value : (n : ℕ) (xs : List Step) (l : Literal) → All (λ s. variable_of s.literal ≤ n) xs → n < variable_of l →
    Unassigned ≡ literal_value (literals_of xs) l
far_value n xs l all far = search (arith, false_from_ne_true, absent, opposite_variable)

pub kept_grown : (values : List TruthValue) (xs : List Step) → IsKept values xs → IsKept (values ++ Unassigned ∷ []) xs
kept_grown values xs kept =
    let long : length (values ++ Unassigned ∷ []) ≡ length values + 1 = length-append values (Unassigned ∷ []) in
    record {
      told = λ i lt. elim (cases_lt i (length values)) [
        | inl h ↦
            let Q : TruthValue → Type 0 = λ t. IsTold t (holds (literals_of xs) (positive (suc i)))
            (holds (literals_of xs) (negative (suc i))) in
            subst Q (sym (get_or_append_left values (Unassigned ∷ []) Unassigned i h)) (kept.told i h)
        | inr g ↦
            let e : i ≡ length values = omega (arith, lt, long) in
            let Q : TruthValue → Type 0 = λ t. IsTold t (holds (literals_of xs) (positive (suc i)))
            (holds (literals_of xs) (negative (suc i))) in
            let read : get_or (values ++ Unassigned ∷ []) i Unassigned ≡ Unassigned =
            ap (λ n. get_or (values ++ Unassigned ∷ []) n Unassigned) e
            ∙ get_or-append_seam values Unassigned [] Unassigned in
            let far : length values < suc i = omega (arith, e) in
            subst Q (sym read) (
              false_from_ne_true (holds (literals_of xs) (positive (suc i)))
                  (absent (length values) xs (positive (suc i)) kept.in_range far),
              false_from_ne_true (holds (literals_of xs) (negative (suc i)))
                  (absent (length values) xs (negative (suc i)) kept.in_range far),
            )
      ];
      in_range = All-weaker (λ (s : Step). variable_of s.literal ≤ length values)
          (λ (s : Step). variable_of s.literal ≤ length (values ++ Unassigned ∷ []))
          (λ s h. omega (arith, h, long)) xs kept.in_range;
      apart = kept.apart;
      counted = let more = sum_by-append (λ x. cond (is_assigned x) 1 0) values (Unassigned ∷ []) in
          omega (arith, more, kept.counted);
    }

pub kept_pushed : (values : List TruthValue) (xs : List Step) (s : Step) (i : ℕ) → variable_of s.literal ≡ suc i →
    i < length values → IsFree (literals_of xs) s.literal
    → IsKept values xs → IsKept (set values i (value_where_true s.literal)) (s ∷ xs) × (length xs < length values)
kept_pushed values xs s i e lt free kept =
    let value = value_where_true s.literal in
    let one = one_more values (literals_of xs) s.literal i kept.told e lt free in
    let long : length (set values i value) ≡ length values = length-set values i value in
    let P : ℕ → Type 0 = λ n. All (λ (k : Step). variable_of k.literal ≤ n) (s ∷ xs) in
    let here : variable_of s.literal ≤ length values = omega (arith, e, lt) in (
      record {
        told = tells_more values (literals_of xs) s.literal i kept.told e lt free.1;
        in_range = subst P (sym long) (All-cons (λ (k : Step). variable_of k.literal ≤ length values) s xs here
            kept.in_range);
        apart = (free, kept.apart);
        counted = omega (arith, kept.counted, one.0);
      },
      omega (arith, kept.counted, one.1),
    )

pub kept_popped : (values : List TruthValue) (xs : List Step) (s : Step) (i : ℕ) → variable_of s.literal ≡ suc i →
    IsKept values (s ∷ xs) → IsKept (set values i Unassigned) xs
kept_popped values xs s i e kept =
    let here : variable_of s.literal ≤ length values = All-head
    (λ (k : Step). variable_of k.literal ≤ length values) s xs kept.in_range in
    let lt : i < length values = omega (arith, here, e) in
    let long : length (set values i Unassigned) ≡ length values = length-set values i Unassigned in
    let one = one_less values (literals_of xs) s.literal i kept.told e lt in
    let P : ℕ → Type 0 = λ n. All (λ (k : Step). variable_of k.literal ≤ n) xs in
    record {
      told = tells_less values (literals_of xs) s.literal i kept.told e lt kept.apart.0;
      in_range = subst P (sym long) (All-tail (λ (k : Step). variable_of k.literal ≤ length values) s xs kept.in_range);
      apart = kept.apart.1;
      counted = omega (arith, kept.counted, one);
    }
