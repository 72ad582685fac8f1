-- A clause that is neither falsified nor unit.
use Rattle.std.proofs.Common.{◌≡◌, ℕ, true, false, cond, not, ◌&&◌, inl, inr, List, [], ◌∷◌, Some, refl, sym, ◌∙◌, ap, arith}
use Rattle.std.specs.List.{list_any, list_all, filter}
use Rattle.std.proofs.lemmas.Bool.{cases_Bool, false≢true, or_left, or_right, or_cases}
use Rattle.dq_lits.specs.Literal.{Literal, positive, negative, opposite, same_literal}
use Rattle.dq_lits.specs.Derivation.{unit, stuck, holds, status_by, status_of}
use Rattle.dq_lits.proofs.Truth.{same_literal-sound}
use Rattle.dq_lits.proofs.HeldLiterals.{any_one, any_gives, left_among, holds_here, holds_later}
use Rattle.dq_lits.proofs.SignedLiterals.{same_literal-refl, opposite-opposite}
use Rattle.hint_log.specs.Entries.{Entry, clause_at}
use Rattle.hint_log.specs.ProductiveLog.{IsNewByPropagation}
use Rattle.log_laws.specs.Meaning.{IsSettled}

abbrev pub not_false : List Literal → List Literal → List Literal
not_false trues clause = filter (λ l. not (holds trues (opposite l))) clause

-- one that differs
other_of : (x : Literal) (xs : List Literal) → list_all (same_literal x) xs ≡ false →
    (l : Literal) × (holds xs l ≡ true) × (same_literal x l ≡ false)
other_of x [] h = absurd (false≢true (sym h))
other_of x (y ∷ xs) h = search (arith, cases_Bool, (other_of x xs), holds_here)

any_true : (trues clause : List Literal) (l : Literal) → holds clause l ≡ true → holds trues l ≡ true →
    list_any (holds trues) clause ≡ true
any_true trues [] l h t = absurd (false≢true h)
any_true trues (x ∷ c) l h t = search (arith, or_cases, or_left, same_literal-sound, or_right, (any_true trues c l))

pub settled : (trues clause : List Literal) → status_of trues (Some clause) ≡ stuck → IsSettled trues clause
settled trues clause h = by (not_false trues clause) (left_among trues clause) h
  where
    by : (left : List Literal) → ((l : Literal) → holds left l ≡ true →
        (holds clause l ≡ true) × (holds trues (opposite l) ≡ false)) → status_by trues left ≡ stuck →
        IsSettled trues clause
    by [] among g = cc
    by (x ∷ xs) among g =
        elim (cases_Bool (list_all (same_literal x) xs)) [
          | inl all ↦ elim (cases_Bool (holds trues x)) [
            | inl t ↦ inl (any_true trues clause x (among x (holds_here x xs)).0 t)
            | inr f ↦
                let u : unit x ≡ stuck = sym (ap (λ b. cond (b && not (holds trues x)) (unit x) stuck) all ∙ ap
                (λ b. cond (true && not b) (unit x) stuck) f) ∙ g in
                cc
          ]
          | inr some ↦
              let o = other_of x xs some in
              let one = among x (holds_here x xs) in
              let two = among o.0 (holds_later x xs o.0 o.1) in
              inr (record {
                one = x;
                other = o.0;
                one_among = one.0;
                other_among = two.0;
                different = o.2;
                one_open =
                    one.1;
                other_open = two.1;
              })
        ]

opposite-other : (k l : Literal) → same_literal k l ≡ true → same_literal (opposite k) l ≡ false
opposite-other (positive v) (positive w) h = refl
opposite-other (positive v) (negative w) h = cc
opposite-other (negative v) (positive w) h = cc
opposite-other (negative v) (negative w) h = refl

module _ (earlier : List Entry) (clause : List Literal) (new : IsNewByPropagation earlier clause) where
  not_both : (k : Literal) → holds new.trues k ≡ true → holds new.trues (opposite k) ≡ true → ⊥
  not_both k h o = false≢true (sym new.consistent ∙ any_one (λ l. holds new.trues (opposite l)) new.trues k h o)

  -- each literal but one is false
  false_or_it : (k : Literal) → holds clause k ≡ true → holds new.trues (opposite k) ≡ false → k ≡ new.literal
  false_or_it k h open' = search (arith, cases_Bool, same_literal-sound, false≢true)

  not_known : (known : List Literal) → ((l : Literal) → holds known l ≡ true → holds clause l ≡ true) →
      IsSettled new.trues known → ⊥
  not_known known inside (inl some) =
      let r = any_gives (holds new.trues) known some in
      elim (cases_Bool (same_literal r.0 new.literal)) [
        | inl same ↦ false≢true (sym new.not_true ∙ ap (holds new.trues) (sym (same_literal-sound r.0 new.literal same)) ∙ r.2)
        | inr other ↦ not_both r.0 r.2 (new.rest_false r.0 (inside r.0 r.1) other)
      ]
  not_known known inside (inr two) = search (arith, false_or_it, false≢true, same_literal-refl)

  pub beside : (l : Literal) → holds clause l ≡ true → holds clause (opposite l) ≡ true → ⊥
  beside l h o =
      elim (cases_Bool (same_literal l new.literal)) [
        | inl same ↦
            let f = new.rest_false (opposite l) o (opposite-other l new.literal same) in
            false≢true (sym new.not_true ∙ ap (holds new.trues) (sym (same_literal-sound l new.literal same)) ∙ ap
            (holds new.trues) (sym (opposite-opposite l)) ∙ f)
        | inr other ↦ elim (cases_Bool (same_literal (opposite l) new.literal)) [
          | inl same ↦
              false≢true (sym new.not_true ∙ ap (holds new.trues) (sym (same_literal-sound (opposite l) new.literal same))
              ∙ new.rest_false l h other)
          | inr too ↦ not_both (opposite l) (new.rest_false l h other) (new.rest_false (opposite l) o too)
        ]
      ]

  pub unknown : (id : ℕ) (known : List Literal) → clause_at earlier id ≡ Some known →
      ((l : Literal) → holds known l ≡ true → holds clause l ≡ true) → ⊥
  unknown id known is inside = not_known known inside (settled new.trues known
      (ap (status_of new.trues) (sym is) ∙ new.closed id))
