-- Reasons that are found.
use Rattle.std.proofs.Common.{◌≡◌, ◌≢◌, ℕ, ◌+◌, ◌<◌, ◌==◌, Bool, true, false, inl, inr, List, [], ◌∷◌, ◌++◌, take, length, get_or, slice_get, Option, Some, None, refl, sym, ◌∙◌, ap, subst, arith}
use Rattle.std.specs.List.{All, AllZip, Contains, list_any}
use Rattle.std.proofs.lemmas.Bool.{true≢false, or_left, or_right, cases_Bool, cond-true, cond-false, eq-eqb}
use Rattle.std.proofs.lemmas.Option.{slice_get_within, slice_get-get_or, same_Some}
use Rattle.std.proofs.lemmas.List.{length-append, take_more}
use Rattle.std.proofs.lemmas.List.Elements.{all_zip_more, All-push, Contains-push, Contains-append_left}
use Rattle.std.proofs.lemmas.List.Quantifiers.{all_pairs_push}
use Rattle.std.proofs.lemmas.List.Folds.{list_any-append, list_any_at}
use Rattle.list_laws.proofs.Elements.{last_or_before, last_there}
use Rattle.number_tables.specs.Numbers.{has_number, with_number}
use Rattle.dq_lits.specs.Literal.{Literal, opposite}
use Rattle.dq_lits.specs.Formula.{Dqbf}
use Rattle.dq_lits.specs.Derivation.{holds}
use Rattle.dq_lits.specs.Expansion.{universal_literal_true}
use Rattle.dq_lits.proofs.SignedLiterals.{same_literal-refl, opposite-opposite}
use Rattle.dq_prep.specs.declared.traces.Taken.{Taken}
use Rattle.lifted_proofs.specs.UnitTables.{IsFalseBy}
use Rattle.lifted_proofs.specs.Goals.{clause_at, left_by, IsReason, IsPlan, MakesFalse, HasFalse, AreFalseUnits, Keeps, GrowsGoals, IsLoweredIn, Settles, AreFalseUnitsOf, Adds, IsGoalAt, IsAskedIn, IsPlanOf, IsGoalOf, IsRowAdded}
use Rattle.lifted_proofs.specs.FalsifiedRows.{IsFalsified}
use Rattle.lifted_proofs.specs.declared.goals.Goal.{Goal}
use Rattle.lifted_proofs.specs.declared.goals.Reason.{Reason}
use Rattle.lifted_proofs.specs.declared.goals.Plan.{Plan}
use Rattle.lifted_proofs.proofs.TakenUnits.{first-are-units}
use Rattle.lifted_proofs.proofs.LowRows.{serves-falsified, serves-itself, holds-snoc}
use Rattle.lifted_proofs.proofs.AskedGoals.{keeps-itself, keeps-more, plan-grows, all-asked-grow, lowered-grows, adds-none}
use Rattle.lifted_proofs.specs.declared.units.UnitTable.{UnitTable}
use Rattle.list_laws.proofs.Members.{contains_tested}

grows-on : {p q r : Plan} → GrowsGoals p q → GrowsGoals q r → GrowsGoals p r
grows-on a b = search arith

-- the row itself serves
pub lowered-here : {t : UnitTable} {p : Plan} {g : Goal} {row : List Bool} (clause : List Literal) (b : Bool)
    → IsPlanOf t p → slice_get p.rows g.row ≡ Some row → clause ≡ clause_at t.formula.now g.source.place
    → b ≡ list_any (universal_literal_true t.formula.now row) clause → b ≡ false
    → Adds t p p (IsLoweredIn t p g g.row)
lowered-here {t} {p} {g} {row} clause b plan at is any none = adds-none plan (record {
  row = row;
  low = row;
  row_at = at;
  low_at = at;
  serves = serves-itself t.formula.now t.units.now g.source row
      (ap (list_any (universal_literal_true t.formula.now row)) (sym is) ∙ sym any ∙ none);
})

-- a row is added that serves
pub row-added : (t : UnitTable) (p q : Plan) (g : Goal) (row low : List Bool) (clause : List Literal) (place : ℕ) → IsPlanOf t p → IsGoalOf t p g
    → slice_get p.rows g.row ≡ Some row → clause ≡ clause_at t.formula.now g.source.place
    → IsFalsified t.formula.now row clause low → length low ≡ length t.formula.now.universals
    → IsRowAdded p q low place → Adds t p q (IsLoweredIn t q g place)
row-added t p q g row low clause place plan goal at is falsified' whole added =
    let f = t.formula.now in
    let units = t.units.now in
    let next : Plan = record p { rows = p.rows ++ low ∷ []; room = q.room } in
    let kept : Keeps p.rows next.rows = keeps-more p.rows (low ∷ []) in
    let falsified : IsFalsified f row (clause_at f g.source.place) low =
    subst (λ ls. IsFalsified f row ls low) is falsified' in
    let none = subst (λ r. list_any (universal_literal_true f r) (left_by f units g.source) ≡ false)
    (same_Some goal.row row (sym goal.row_at ∙ at)) goal.none_true in
    subst (λ x. Adds t p x (IsLoweredIn t x g place)) (sym added.is) (record {
      plan = record {
        right = plan.right;
        plan = plan-grows f units p next plan.plan kept (keeps-itself p.goals.items) refl
            (All-push (λ r. length r ≡ length f.universals) p.rows low plan.plan.whole whole) (λ k w here. inl here)
            (omega (arith, added.room, length-append p.rows (low ∷ []), plan.plan.few_rows)) plan.plan.few_reasons;
      };
      grows = record { grows = record { rows = kept; goals = keeps-itself p.goals.items }; reasons = refl };
      now = record {
        row = row;
        low = low;
        row_at = kept g.row row at;
        low_at = ap (slice_get (p.rows ++ low ∷ [])) added.place_is ∙ last_there p.rows low;
        serves = serves-falsified f units g.source row low plan.right.well
            (first-are-units f units g.source.taken plan.right.units) goal.source.unsatisfied goal.plain none falsified;
      };
    })

-- the reason of the next goal
plan-reasoned : (f : Dqbf) (units : List Taken) (p s : Plan) (g : Goal) (r : Reason) → IsPlan f units p
    → slice_get p.goals.items (length p.reasons.items) ≡ Some g → IsReason f units p.rows p.goals.items g r
    → s.reasons.items ≡ p.reasons.items ++ r ∷ [] → IsPlan f units (record p { reasons = s.reasons })
plan-reasoned f units p s g r plan at reason more = search (arith, last_or_before, length-append, slice_get_within)

holds-before : (done : List Literal) (l k : Literal) → holds done k ≡ true → holds (done ++ l ∷ []) k ≡ true
holds-before done l k h = search (arith, list_any-append, or_left)

makes-more : (units : List Taken) (count : ℕ) (done : List Literal) (l : Literal) (places : List ℕ)
    → All (MakesFalse units count done) places → All (MakesFalse units count (done ++ l ∷ [])) places
makes-more units count done l places all = search (arith, (holds-before done l))

-- a literal that no unit makes false
pub places-same : (units : List Taken) (count : ℕ) (done : List Literal) (l : Literal) (places : List ℕ)
    → IsFalseBy units count l None → AreFalseUnits units count done places
    → AreFalseUnits units count (done ++ l ∷ []) places
places-same units count done l places none was = search (arith, makes-more, holds-snoc, true≢false)

-- a literal that a unit makes false
pub places-more : (units : List Taken) (count j : ℕ) (done : List Literal) (l : Literal) (places : List ℕ)
    → IsFalseBy units count l (Some j) → AreFalseUnits units count done places
    → AreFalseUnits units count (done ++ l ∷ []) (with_number places j)
places-more units count j done l places (before, (u, (at, is))) was =
    elim (cases_Bool (has_number places j)) [
      | inl there ↦
          subst (AreFalseUnits units count (done ++ l ∷ []))
          (sym (cond-true (has_number places j) places (places ++ j ∷ []) there))
          (record {
            distinct = was.distinct;
            each = makes-more units count done l places was.each;
            all = search (arith, holds-snoc, contains_tested);
          })
      | inr new ↦
          subst (AreFalseUnits units count (done ++ l ∷ []))
          (sym (cond-false (has_number places j) places (places ++ j ∷ []) new))
          (record {
            distinct = all_pairs_push (λ a b. a ≢ b) places j was.distinct (λ k d below same.
                true≢false (sym (list_any_at (λ n. n == j) places k d below (eq-eqb (get_or places k d) j same))
                ∙ new));
            each = All-push (MakesFalse units count (done ++ l ∷ [])) places j
                (makes-more units count done l places was.each)
                (record {
                  before = before;
                  unit = u;
                  unit_at = at;
                  held = search (arith, list_any-append, or_right, or_left, opposite-opposite, same_literal-refl);
                });
            all = search (arith, holds-snoc, wider, Contains-push);
          })
    ]
  where
    found : (k : Literal) → k ≡ l → (among : List ℕ) → Contains among j → HasFalse units k among
    found k last among inside = record {
      place = j;
      among = inside;
      unit = u;
      unit_at = at;
      is = is ∙ ap opposite (sym last);
    }

    wider : {k : Literal} → HasFalse units k places → HasFalse units k (places ++ j ∷ [])
    wider it = search (arith, Contains-append_left)

pub step-false : (units : List Taken) (count j : ℕ) (clause own : List Literal) (i : ℕ) (l : Literal) (o : Option ℕ)
    (places new : List ℕ) → clause ≡ own → i < length clause → l ≡ get_or clause i l → IsFalseBy units count l o
    → o ≡ Some j → AreFalseUnits units count (take i own) places → new ≡ with_number places j
    → AreFalseUnits units count (take (i + 1) own) new
step-false units count j clause own i l o places new is below at said some was more =
    search (arith, (take_more own i l), (places-more units count j (take i own) l places))

pub step-open : (units : List Taken) (count : ℕ) (clause own : List Literal) (i : ℕ) (l : Literal) (o : Option ℕ)
    (places new : List ℕ) → clause ≡ own → i < length clause → l ≡ get_or clause i l → IsFalseBy units count l o
    → o ≡ None → AreFalseUnits units count (take i own) places → new ≡ places
    → AreFalseUnits units count (take (i + 1) own) new
step-open units count clause own i l o places new is below at said none was same =
    search (arith, (take_more own i l), (places-same units count (take i own) l places))

-- hints that are found so far
abbrev pub AskSoFar : UnitTable → Plan → Plan → ℕ → List ℕ → List ℕ → Type 0
AskSoFar t start p lowered places hints =
    Adds t start p ((lowered < length p.rows) × AllZip (IsAskedIn t p lowered) places hints)

pub step-asked : (t : UnitTable) (start p q : Plan) (lowered i j h : ℕ) (places hints more : List ℕ)
    → AskSoFar t start p lowered (take i places) hints → Adds t p q (IsAskedIn t q lowered j h)
    → i < length places → j ≡ get_or places i j → more ≡ hints ++ h ∷ []
    → AskSoFar t start q lowered (take (i + 1) places) more
step-asked t start p q lowered i j h places hints more was added within at is =
    search (
      arith,
      (grows-on was.grows added.grows),
      (slice_get_within q.rows lowered),
      (slice_get-get_or p.rows lowered [] was.now.0),
      all_zip_more,
      (all-asked-grow t.formula.now t.units.now p.rows q.rows p.goals.items q.goals.items),
    )

-- the next goal has its reason now
pub settled-next : (t : UnitTable) (p q r s : Plan) (g : Goal) (k : ℕ) (places seen : List ℕ) (reason : Reason)
    → IsGoalAt t p k g → k ≡ length p.reasons.items → AreFalseUnitsOf t g places
    → Adds t p q (IsLoweredIn t q g reason.lowered) → seen ≡ places
    → Adds t q r (AllZip (IsAskedIn t r reason.lowered) seen reason.hints.items) → s ≡ record r { reasons = s.reasons }
    → s.reasons.items ≡ r.reasons.items ++ reason ∷ [] → Settles t p s
settled-next t p q r s g k places seen reason goal k-is are pq same qr s-is more =
    let grows = grows-on pq.grows qr.grows in
    let to-r = qr.grows.grows in
    let at : slice_get r.goals.items (length r.reasons.items) ≡ Some g =
    ap (λ (xs : List Reason). slice_get r.goals.items (length xs)) grows.reasons
    ∙ grows.grows.goals (length p.reasons.items) g (ap (slice_get p.goals.items) (sym k-is) ∙ goal.at) in
    let made : IsReason t.formula.now t.units.now r.rows r.goals.items g reason = record {
      lowered = lowered-grows t.formula.now t.units.now q.rows r.rows q.goals.items r.goals.items to-r.rows to-r.goals g
          reason.lowered pq.now;
      places = places;
      false_units = are;
      asked = subst (λ xs. AllZip (IsAskedIn t r reason.lowered) xs reason.hints.items) same qr.now;
    } in
    subst (Settles t p) (sym s-is) (record {
      plan = search (arith, plan-reasoned);
      grows = record { rows = grows.grows.rows; goals = grows.grows.goals };
      more = ap (λ (xs : List Reason). length xs) more ∙ length-append r.reasons.items (reason ∷ [])
          ∙ ap (λ (xs : List Reason). length xs + 1) grows.reasons;
    })
