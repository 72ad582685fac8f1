-- The instances that lines hint at.
use Rattle.std.proofs.Common.{◌≡◌, ℕ, zero, suc, ◌+◌, ◌-◌, ◌/◌, ◌%◌, ◌<◌, ◌≤◌, ◌==◌, Bool, true, false, not, cond, inl, inr, List, [], ◌∷◌, map, length, get_or, slice_get, Option, Some, None, is_some, refl, sym, ◌∙◌, ap, subst, arith}
use Rattle.std.specs.List.{All, Contains, list_any, filter, filter_map}
use Rattle.std.specs.Option.{option_and_then}
use Rattle.std.proofs.lemmas.Bool.{true≢false, cases_Bool, cond-false, ne_eqb}
use Rattle.std.proofs.lemmas.Option.{same_Some, option_and_then_some}
use Rattle.std.proofs.lemmas.List.{map-id}
use Rattle.std.proofs.lemmas.List.Elements.{All-cons}
use Rattle.list_laws.proofs.Sequences.{none-gone}
use Rattle.dq_lits.specs.Literal.{Literal, variable_of, opposite}
use Rattle.dq_lits.specs.Formula.{Dqbf, existential_of, is_universal, IsWellFormed}
use Rattle.dq_lits.specs.Derivation.{LiveClauses, ClauseStatus, falsified, unit, stuck, status_of, fault_by, hint_fault, with_clause, IsDerived, ProofStep, line_fault, is_empty, is_tautology, holds}
use Rattle.dq_lits.specs.Expansion.{instance_at, instance_clause, pair_literal, universal_literal_true}
use Rattle.dq_lits.proofs.HeldLiterals.{any_one, filter-holds}
use Rattle.dq_lits.proofs.SignedLiterals.{opposite_variable}
use Rattle.dq_lits.proofs.Derivations.{no_step_fault}
use Rattle.dq_prep.specs.declared.traces.Taken.{Taken}
use Rattle.dq_prep.specs.Reduction.{stays}
use Rattle.dq_prep.specs.Units.{without_false}
use Rattle.dq_prep.proofs.Carried.{carries}
use Rattle.dq_prep.proofs.LeftLiterals.{tautology-stays}
use Rattle.dq_prep.proofs.SignedLiterals.{pair-in, pair-any}
use Rattle.dq_prep.proofs.WellFormed.{IsBound, all-left}
use Rattle.rup_core.specs.Items.{ProofItem, derived, gone, items_fault, without_clauses, is_among}
use Rattle.refutation_checker.specs.Pairs.{existential_part}
use Rattle.refutation_checker.proofs.PairNumbers.{instance_part}
use Rattle.lifted_proofs.specs.UnitTables.{first_literals}
use Rattle.lifted_proofs.specs.Goals.{clause_at, left_by, IsSource}
use Rattle.lifted_proofs.specs.Carried.{lines_of, IsHinted}
use Rattle.lifted_proofs.specs.Lines.{paired}
use Rattle.lifted_proofs.specs.declared.goals.Source.{Source}
use Rattle.lifted_proofs.proofs.PairedLiterals.{existential-or-universal, paired-holds, opposite-paired, bound-in}

abbrev IsPlainClause : LiveClauses → ℕ → Type 0
IsPlainClause live h = (c : List Literal) × ((live h ≡ Some c) × (is_tautology c ≡ false))

-- without the clauses that hold a literal beside its negation
abbrev plain-only : Option (List Literal) → Option (List Literal)
plain-only None = None
plain-only (Some c) = cond (is_tautology c) None (Some c)

there-plain : (o : Option (List Literal)) → is_some (plain-only o) ≡ true
    → (c : List Literal) × ((o ≡ Some c) × (is_tautology c ≡ false))
there-plain None h = absurd (true≢false (sym h))
there-plain (Some c) h = search (arith, true≢false)

hints-live : (live : LiveClauses) (trues : List Literal) (place : ℕ) (hints : List ℕ)
    → hint_fault live trues place hints ≡ None → All (λ h. is_some (live h) ≡ true) hints
hints-live live trues place [] sound = λ k d below. absurd (omega (arith, below))
hints-live live trues place (h ∷ hs) sound = by (live h) refl sound
    (λ l more. hints-live live (l ∷ trues) (place + 1) hs more)
  where
    Live : ℕ → Type 0
    Live i = is_some (live i) ≡ true

    none-left : (hs : List ℕ) → (next : Literal → Option ℕ) → fault_by falsified place hs next ≡ None
        → All (λ i. is_some (live i) ≡ true) hs
    none-left [] next sound = λ k d below. absurd (omega (arith, below))
    none-left (x ∷ xs) next sound = cc

    by-status : (s : ClauseStatus) → (hs : List ℕ)
        → fault_by s place hs (λ l. hint_fault live (l ∷ trues) (place + 1) hs) ≡ None
        → ((l : Literal) → hint_fault live (l ∷ trues) (place + 1) hs ≡ None → All (λ i. is_some (live i) ≡ true) hs)
        → All (λ i. is_some (live i) ≡ true) hs
    by-status falsified hs sound rest = none-left hs (λ l. hint_fault live (l ∷ trues) (place + 1) hs) sound
    by-status (unit l) hs sound rest = rest l sound
    by-status stuck hs sound rest = cc

    by : (o : Option (List Literal)) → live h ≡ o
        → fault_by (status_of trues (live h)) place hs (λ l. hint_fault live (l ∷ trues) (place + 1) hs) ≡ None
        → ((l : Literal) → hint_fault live (l ∷ trues) (place + 1) hs ≡ None → All (λ i. is_some (live i) ≡ true) hs)
        → All (λ i. is_some (live i) ≡ true) (h ∷ hs)
    by None is sound rest =
        let both : Some place ≡ None =
        sym (ap (λ o. fault_by (status_of trues o) place hs (λ l. hint_fault live (l ∷ trues) (place + 1) hs)) is)
        ∙ sound in
        cc
    by (Some c) is sound rest =
        All-cons (λ i. is_some (live i) ≡ true) h hs (ap (λ (o : Option (List Literal)). is_some o) is)
        (by-status (status_of trues (live h)) hs sound rest)

-- each hint of a derived line has a clause, with no literal beside its negation
derived-hints : (live : LiveClauses) (literals : List Literal) (hints : List ℕ) → IsDerived live literals hints
    → All (IsPlainClause live) hints
derived-hints live literals hints sound =
    let other : LiveClauses = λ h. plain-only (live h) in
    let there : IsDerived other literals (map (λ h. h) hints) =
    carries (λ h. h) live other literals hints (λ k d below clause at plain.
    ap plain-only at ∙ ap (λ b. cond b None (Some clause)) plain) sound in
    let same : IsDerived other literals hints = subst (IsDerived other literals) (map-id hints) there in
    let live-hints = hints-live other (map opposite literals) 1 hints (only-hints (is_tautology literals) same) in
    λ k d below. there-plain (live (get_or hints k d)) (live-hints k d below)
  where
    only-hints : {o : Option ℕ} → (b : Bool) → cond b (Some 0) o ≡ None → o ≡ None
    only-hints true h = cc
    only-hints false h = h

-- lines with ids from a number on
abbrev pub AreFrom : ℕ → List ProofItem → Type 0
AreFrom n [] = Unit {0}
AreFrom n (derived s ∷ items) = (n ≤ s.id) × AreFrom n items
AreFrom n (gone ids ∷ items) = AreFrom n items

-- what lines hint at before the first of them is live from the start, and plain
pub hinted-plain : (finished : Bool) (live : LiveClauses) (n : ℕ) (items : List ProofItem) (h : ℕ)
    → items_fault finished live items ≡ None → AreFrom n items → IsHinted (lines_of items) h → h < n
    → IsPlainClause live h
hinted-plain finished live n [] h sound from (s, (inside, hint)) below = absurd (omega (arith, inside.1))
hinted-plain finished live n (gone ids ∷ items) h sound from hinted below =
    let it = hinted-plain finished (without_clauses live ids) n items h sound from hinted below in
    (it.0, (none-gone (is_among ids h) (live h) it.0 it.1.0, it.1.1))
hinted-plain finished live n (derived t ∷ items) h sound from (s, (inside, hint)) below =
    let parts = no_step_fault (line_fault live t.literals t.hints) t.id
    (items_fault (is_empty t.literals) (with_clause live t.id t.literals) items) sound in
    by inside parts.0 (λ later.
    hinted-plain (is_empty t.literals) (with_clause live t.id t.literals) n items h parts.1 from.1
    (s, (later, hint)) below)
  where
    by : Contains (t ∷ lines_of items) s → line_fault live t.literals t.hints ≡ None
        → (Contains (lines_of items) s → IsPlainClause (with_clause live t.id t.literals) h) → IsPlainClause live h
    by (zero, within, is) sound' rest =
        let all = derived-hints live t.literals t.hints sound' in
        let at = subst (λ (x : ProofStep). Contains x.hints h) (sym is) hint in
        subst (IsPlainClause live) at.2 (all at.0 h at.1)
    by (suc k, within, is) sound' rest =
        let it = rest (k, omega (arith, within), is) in (
          it.0,
          (
            sym (cond-false (h == t.id) (Some t.literals) (live h)
                (ne_eqb h t.id (λ same. absurd (omega (arith, same, below, from.0))))) ∙ it.1.0,
            it.1.1,
          ),
        )

-- an instance, by its row and clause
pub record IsInstance (f : Dqbf) (rows : List (List Bool)) (i : ℕ) (c : List Literal) : Type 0 where
  pub row : List Bool
  pub row_at : slice_get rows (i / length f.matrix) ≡ Some row
  pub clause : List Literal
  pub clause_at' : slice_get f.matrix (i % length f.matrix) ≡ Some clause
  pub none_true : list_any (universal_literal_true f row) clause ≡ false
  pub is : c ≡ filter_map (pair_literal f rows row) clause

pub instance-parts : (f : Dqbf) (rows : List (List Bool)) (h : ℕ) (c : List Literal) → 1 ≤ h
    → instance_at f rows h ≡ Some c → IsInstance f rows (h - 1) c
instance-parts f rows zero c from-one at = absurd (omega (arith, from-one))
instance-parts f rows (suc i) c from-one at =
    let same : i ≡ suc i - 1 = omega arith in
    subst (λ k. IsInstance f rows k c) same
    (option_and_then_some (λ row. option_and_then (instance_clause f rows row)
    (slice_get f.matrix (i % length f.matrix))) (slice_get rows (i / length f.matrix)) c at
    (λ row row-at rest. option_and_then_some (instance_clause f rows row) (slice_get f.matrix (i % length f.matrix)) c
    rest (λ clause clause-at made.
    let parts = made-of (list_any (universal_literal_true f row) clause) refl
    (filter_map (pair_literal f rows row) clause) made in
    record {
      row = row;
      row_at = row-at;
      clause = clause;
      clause_at' = clause-at;
      none_true = parts.0;
      is = parts.1;
    })))
  where
    made-of : {x : Bool} → (b : Bool) → x ≡ b → (k : List Literal) → cond b None (Some k) ≡ Some c
        → (x ≡ false) × (c ≡ k)
    made-of true is k h = cc
    made-of false is k h = (is, same_Some c k (sym h))

-- a clause whose instance is plain is plain
pub plain-source : (f : Dqbf) (units : List Taken) (rows : List (List Bool)) (s : Source) (row : List Bool)
    → IsWellFormed f → IsSource f units s
    → list_any (universal_literal_true f row) (left_by f units s) ≡ false
    → is_tautology (filter_map (pair_literal f rows row) (left_by f units s)) ≡ false
    → is_tautology (clause_at f s.place) ≡ false
plain-source f units rows s row well source none plain =
    elim (cases_Bool (is_tautology (clause_at f s.place))) [
      | inr other ↦ other
      | inl both ↦
          let trues = first_literals units s.taken in
          let clause = clause_at f s.place in
          let rest = without_false trues clause in
          let rest-both : is_tautology rest ≡ true = tautology-stays trues clause source.unsatisfied ∙ both in
          let left : left_by f units s ≡ rest =
          ap (λ b. cond b rest (filter (stays f rest) rest)) rest-both in
          let r = pair-in rest rest rest-both in
          let l = r.0 in
          let here : holds (left_by f units s) l ≡ true = ap (λ xs. holds xs l) left ∙ r.1 in
          let there : holds (left_by f units s) (opposite l) ≡ true = ap (λ xs. holds xs (opposite l)) left ∙ r.2 in
          absurd (elim (cases_Bool (is_universal f (variable_of l))) [
            | inl universal ↦ one-true l universal here there
            | inr other ↦
                let bound = all-left f (IsBound f) trues clause (well.bound s.place [] source.place) in
                let part : existential_part f (left_by f units s)
                ≡ existential_part f (left_by f units s) = refl in
                let some : is_some (existential_of f (variable_of l)) ≡ true =
                existential-or-universal f l well (bound-in f (left_by f units s) l bound here) ∙ ap not other in
                let some' : is_some (existential_of f (variable_of (opposite l))) ≡ true =
                ap (λ v. is_some (existential_of f v)) (opposite_variable l) ∙ some in
                let a = paired-holds f rows row (existential_part f (left_by f units s)) l
                (filter-holds (λ k. is_some (existential_of f (variable_of k))) (left_by f units s) l here some) in
                let b = paired-holds f rows row (existential_part f (left_by f units s)) (opposite l)
                (filter-holds (λ k. is_some (existential_of f (variable_of k))) (left_by f units s) (opposite l) there
                some') in
                let line = map (paired f rows row) (existential_part f (left_by f units s)) in
                true≢false (sym (pair-any line line (paired f rows row l) a
                (ap (holds line) (opposite-paired f rows row l) ∙ b))
                ∙ ap is_tautology (sym (instance_part f rows row (left_by f units s))) ∙ plain)
          ])
    ]
  where
    one-true : (l : Literal) → is_universal f (variable_of l) ≡ true → holds (left_by f units s) l ≡ true
        → holds (left_by f units s) (opposite l) ≡ true → ⊥
    one-true l universal here there = search (arith, cases_Bool, true≢false, any_one, opposite_variable)
