-- Goals that are asked for.
use Rattle.std.proofs.Common.{◌≡◌, ℕ, ◌+◌, ◌<◌, ◌≤◌, Bool, true, false, ◌⊎◌, inl, inr, List, [], ◌∷◌, ◌++◌, length, get_or, slice_get, reverse, Some, IfSome, refl, sym, ◌∙◌, ap, subst, arith}
use Rattle.std.specs.List.{All, AllZip}
use Rattle.std.proofs.lemmas.Option.{slice_get_within, slice_get-get_or}
use Rattle.std.proofs.lemmas.List.{length-append}
use Rattle.list_laws.proofs.Elements.{last_or_before, last_there, kept_there}
use Rattle.dq_lits.specs.Literal.{Literal, variable_of}
use Rattle.dq_lits.specs.Formula.{Dqbf, existential_of}
use Rattle.dq_lits.specs.Henkin.{same_bits, restriction}
use Rattle.dq_lits.specs.Derivation.{is_tautology}
use Rattle.dq_lits.specs.Expansion.{row_assignment}
use Rattle.dq_lits.proofs.Choices.{same_bits-refl}
use Rattle.dq_prep.specs.declared.traces.Taken.{Taken}
use Rattle.dq_prep.specs.Units.{AreUnits, IsUnit, left_of, without_false, is_satisfied}
use Rattle.dq_prep.proofs.Units.{get-at}
use Rattle.dq_prep.proofs.LeftLiterals.{tautology-stays, alone-plain}
use Rattle.lifted_proofs.specs.UnitTables.{first_units, first_literals}
use Rattle.lifted_proofs.specs.Goals.{clause_at, IsGoal, IsAsked, IsReason, IsPlan, Keeps, SeeSame, Adds, IsGoalAt, IsAskedIn, IsLowered, IsPlanOf}
use Rattle.cert_text.specs.Header.{max_count}
use Rattle.lifted_proofs.specs.declared.goals.Goal.{Goal}
use Rattle.lifted_proofs.specs.declared.goals.Reason.{Reason}
use Rattle.lifted_proofs.specs.declared.goals.Plan.{Plan}
use Rattle.lifted_proofs.proofs.TakenUnits.{unit-at}
use Rattle.lifted_proofs.specs.declared.units.UnitTable.{UnitTable}

pub seen-same : (t : UnitTable) {j : ℕ} {u : Taken} {v : ℕ} (a b : List Bool) (r : Bool)
    → slice_get t.units.now j ≡ Some u → v ≡ variable_of u.literal
    → IfSome (existential_of t.formula.now v) (λ e. r ≡ same_bits (restriction e (row_assignment t.formula.now a))
    (restriction e (row_assignment t.formula.now b))) → r ≡ true → SeeSame t j a b
seen-same t {v = v} a b r at is said same = search arith

pub keeps-itself : {X : Type 0} (xs : List X) → Keeps xs xs
keeps-itself xs k x at = at

-- what is added stands behind
pub keeps-more : {X : Type 0} (xs ys : List X) → Keeps xs (xs ++ ys)
keeps-more xs ys k x at = kept_there xs ys k x at

module _ (f : Dqbf) (units : List Taken) (rows more : List (List Bool)) (goals more-goals : List Goal)
    (keeps : Keeps rows more) (keeps-goals : Keeps goals more-goals) where
  goal-grows : (g : Goal) → IsGoal f units rows g → IsGoal f units more g
  goal-grows g it = search arith

  asked-grows : (lowered j h : ℕ) → IsAsked f units rows goals lowered j h
      → IsAsked f units more more-goals lowered j h
  asked-grows lowered j h it = search arith

  pub all-asked-grow : (lowered : ℕ) (places hints : List ℕ) → AllZip (IsAsked f units rows goals lowered) places hints
      → AllZip (IsAsked f units more more-goals lowered) places hints
  all-asked-grow lowered [] [] all = tt
  all-asked-grow lowered [] (h ∷ hs) all = all
  all-asked-grow lowered (j ∷ js) [] all = all
  all-asked-grow lowered (j ∷ js) (h ∷ hs) all = (asked-grows lowered j h all.0, all-asked-grow lowered js hs all.1)

  pub lowered-grows : (g : Goal) (lowered : ℕ) → IsLowered f units rows g lowered → IsLowered f units more g lowered
  lowered-grows g lowered it = search arith

  reason-grows : (g : Goal) (r : Reason) → IsReason f units rows goals g r → IsReason f units more more-goals g r
  reason-grows g r it = search (arith, lowered-grows, all-asked-grow)

-- the goal of a unit
pub unit-goal : (f : Dqbf) (units : List Taken) (rows : List (List Bool)) (j row : ℕ) (u : Taken) (g : Goal)
    → AreUnits f (reverse units) → slice_get units j ≡ Some u → row < length rows
    → g ≡ record { source = record { taken = j; place = u.place }; row = row } → IsGoal f units rows g
unit-goal f units rows j row u g are at within is =
    subst (IsGoal f units rows) (sym is) (made (unit-at f units j u are at))
  where
    plain-rest : (clause trues : List Literal) → left_of f trues clause ≡ u.literal ∷ []
        → is_tautology (without_false trues clause) ≡ false
    plain-rest clause trues left = search (arith, alone-plain)

    made : IsUnit f (first_units units j) u
        → IsGoal f units rows (record { source = record { taken = j; place = u.place }; row = row })
    made it =
        let trues = first_literals units j in
        let where-at = get-at f.matrix u.place it.clause it.at in
        let clause : clause_at f u.place ≡ it.clause = where-at.1 [] in
        let left : left_of f trues (clause_at f u.place) ≡ u.literal ∷ [] = ap (left_of f trues) clause ∙ it.left in
        let unsatisfied : is_satisfied trues (clause_at f u.place) ≡ false =
        ap (is_satisfied trues) clause ∙ it.unsatisfied in
        record {
          source = search (arith, slice_get_within);
          plain = sym (tautology-stays trues (clause_at f u.place) unsatisfied)
              ∙ plain-rest (clause_at f u.place) trues left;
          row = get_or rows row [];
          row_at = slice_get-get_or rows row [] within;
          none_true = search arith;
        }

pub asked-made : {t : UnitTable} {p : Plan} {lowered j h : ℕ} {goal : Goal} {u : Taken} {a b : List Bool}
    → IsGoalAt t p h goal → slice_get t.units.now j ≡ Some u → goal.source.taken ≡ j → goal.source.place ≡ u.place
    → slice_get p.rows lowered ≡ Some a → slice_get p.rows goal.row ≡ Some b → SeeSame t j a b
    → IsAskedIn t p lowered j h
asked-made {t = t} {u = u} {a = a} {b = b} goal at taken place low-at row-at see = search arith

-- the newest goal is that of the unit under the row itself
asked-itself : (f : Dqbf) (units : List Taken) (rows : List (List Bool)) (goals : List Goal) (j row : ℕ) (u : Taken)
    → slice_get units j ≡ Some u → row < length rows
    → IsAsked f units rows (goals ++ record { source = record { taken = j; place = u.place }; row = row } ∷ [])
    row j (length goals)
asked-itself f units rows goals j row u at within =
    search (arith, (slice_get-get_or rows row [] within), (last_there goals), same_bits-refl)

-- what a plan has, with more rows and goals
pub plan-grows : (f : Dqbf) (units : List Taken) (p q : Plan) → IsPlan f units p → Keeps p.rows q.rows
    → Keeps p.goals.items q.goals.items → q.reasons.items ≡ p.reasons.items
    → All (λ row. length row ≡ length f.universals) q.rows
    → ((k : ℕ) (g : Goal) → slice_get q.goals.items k ≡ Some g
    → (slice_get p.goals.items k ≡ Some g) ⊎ ((length p.goals.items ≤ k) × IsGoal f units q.rows g))
    → length q.rows + q.room ≤ max_count → length q.reasons.items ≤ length q.goals.items → IsPlan f units q
plan-grows f units p q plan rows goals reasons whole each room fewer = record {
  whole = whole;
  goals = λ k g at. elim (each k g at) [
    | inl before ↦ goal-grows f units p.rows q.rows p.goals.items q.goals.items rows goals g (plan.goals k g before)
    | inr new ↦ new.1
  ];
  reasons = λ k g r at why.
      let old : slice_get p.reasons.items k ≡ Some r = ap (λ xs. slice_get xs k) (sym reasons) ∙ why in
      elim (each k g at) [
        | inl before ↦
            reason-grows f units p.rows q.rows p.goals.items q.goals.items rows goals g r
            (plan.reasons k g r before old)
        | inr new ↦ absurd (omega (arith, new.0, plan.few_reasons, slice_get_within p.reasons.items k r old))
      ];
  few_rows = room;
  few_reasons = fewer;
}

pub adds-none : {t : UnitTable} {p : Plan} {Now : Type 0} → IsPlanOf t p → Now → Adds t p p Now
adds-none {p = p} plan now = search (arith, keeps-itself)

-- the goal of a unit is added
pub unit-added : (t : UnitTable) (p q : Plan) (j row h : ℕ) (u : Taken) → IsPlanOf t p
    → slice_get t.units.now j ≡ Some u → row < length p.rows → q ≡ record p { goals = q.goals }
    → q.goals.items ≡ p.goals.items ++ record { source = record { taken = j; place = u.place }; row = row } ∷ []
    → h ≡ length p.goals.items → Adds t p q (IsAskedIn t q row j h)
unit-added t p q j row h u plan at within same more h-is =
    let f = t.formula.now in
    let units = t.units.now in
    let next : Plan = record p { goals = q.goals } in
    let g : Goal = record { source = record { taken = j; place = u.place }; row = row } in
    let kept : Keeps p.goals.items q.goals.items =
    subst (Keeps p.goals.items) (sym more) (keeps-more p.goals.items (g ∷ [])) in
    let longer = ap (λ (xs : List Goal). length xs) more ∙ length-append p.goals.items (g ∷ []) in
    let asked : IsAsked f units p.rows q.goals.items row j h = search (arith, asked-itself) in
    subst (λ x. Adds t p x (IsAskedIn t x row j h)) (sym same) (record {
      plan = record {
        right = plan.right;
        plan = plan-grows f units p next plan.plan (keeps-itself p.rows) kept refl plan.plan.whole
            (λ k w here. elim (last_or_before p.goals.items g k w (ap (λ xs. slice_get xs k) (sym more) ∙ here)) [
              | inl before ↦ inl before
              | inr last ↦ inr (
                omega (arith, last.0),
                subst (IsGoal f units p.rows) last.1
                    (unit-goal f units p.rows j row u g plan.right.units at within refl),
              )
            ])
            plan.plan.few_rows (omega (arith, plan.plan.few_reasons, longer));
      };
      grows = record { grows = record { rows = keeps-itself p.rows; goals = kept }; reasons = refl };
      now = asked;
    })
