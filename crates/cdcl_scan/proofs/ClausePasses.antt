-- A pass over the clauses.
use Rattle.std.proofs.Common.{◌≡◌, ℕ, zero, suc, ◌+◌, ◌<◌, ◌≤◌, Bool, true, false, inl, inr, List, [], ◌∷◌, drop, drop-cons, IfSome, length, get_or, slice_get, Option, None, Some, refl, sym, ◌∙◌, ap, subst, arith, All, length-append}
use Rattle.std.proofs.lemmas.Bool.{cases_lt}
use Rattle.std.proofs.lemmas.Option.{slice_get-get_or, slice_get_within}
use Rattle.dq_lits.specs.Literal.{Literal, variable_of}
use Rattle.dq_lits.specs.Derivation.{LiveClauses, unit, stuck, holds, status_of}
use Rattle.hint_log.specs.ProductiveLog.{IsClosed}
use Rattle.oracle.specs.Fit.{live_in}
use Rattle.learning_trail.specs.declared.trails.Step.{Step}
use Rattle.learning_trail.specs.Steps.{Trailed, literals_of, Grown}
use Rattle.learning_trail.specs.Sound.{IsSound}
use Rattle.learning_trail.specs.Passes.{AreWithin}
use Rattle.cdcl_scan.specs.Scanning.{IsScanned, IsPropagating}
use Rattle.cdcl_scan.specs.declared.clauses.Run.{Run}
use Rattle.cdcl_scan.specs.Runs.{Shares, IsRun, AreRuns, IsSharedTrue}
use Rattle.learning_trail.proofs.LargerTrails.{implied_step, clause_within, literal_within, grown_one, grown_both}
use Rattle.learning_trail.proofs.StatusLaws.{implied_from, stuck_from_true}
use Rattle.cdcl_scan.proofs.ClauseRuns.{runs_low}

grown_longer : (old new : List Step) → Grown old new → length old ≤ length new
grown_longer old new g = omega (arith, ap length g.is, length-append g.more old)

pub scanned_unit : (live : LiveClauses) (old now new : Trailed) (quiet : Bool) (first i id : ℕ) (c : List Literal)
    (l : Literal) → live id ≡ Some c
    → IsScanned live old now quiet first i → status_of (literals_of now.steps) (Some c) ≡ unit l
    → new ≡ record { room = now.room; steps = implied_step l id ∷ now.steps } → length new.steps ≤ new.room →
    IsScanned live old new false first (i + 1)
scanned_unit live old now new quiet first i id c l is inv status pushed few =
    let P : Trailed → Type 0 = λ t. (t.room ≡ old.room) × IsSound live t.steps × Grown old.steps t.steps ×
    (length old.steps < length t.steps) in
    let imp = implied_from (literals_of now.steps) c l status in
    let longer = grown_longer old.steps now.steps inv.grown in
    let all : P new = subst P (sym pushed) (
      inv.room,
      (record { free = imp.free; reasoned = ap (status_of (literals_of now.steps)) is ∙ status }, inv.sound),
      grown_one old.steps now.steps l id inv.grown,
      omega (arith, longer),
    ) in
    record {
      room = all.0;
      sound = all.1;
      grown = all.2;
      few = λ h. let r = all.0 in omega (arith, few, r);
      still = λ h. cc;
      moved = λ _. all.3;
    }

pub scanned_stuck : (live : LiveClauses) (old now : Trailed) (quiet : Bool) (first i : ℕ) (c : List Literal) →
    live (suc i) ≡ Some c
    → IsScanned live old now quiet first i → status_of (literals_of now.steps) (Some c) ≡ stuck →
    IsScanned live old now quiet first (i + 1)
scanned_stuck live old now quiet first i c is inv status = record {
  room = inv.room;
  sound = inv.sound;
  grown = inv.grown;
  few = inv.few;
  still = λ q. (
    (inv.still q).0,
    λ j low lt. elim (cases_lt j i) [
      | inl h ↦ (inv.still q).1 j low h
      | inr g ↦ let e : j ≡ i = omega (arith, lt, g) in ap (λ k. status_of (literals_of now.steps) (live (suc k))) e
          ∙ ap (status_of (literals_of now.steps)) is ∙ status
    ],
  );
  moved = inv.moved;
}

-- a run that made literals true, and a quiet one
pub scanned_more : (live : LiveClauses) (old now new : Trailed) (quiet : Bool) (i last : ℕ) →
    IsScanned live old now quiet 0 i → new.room ≡ now.room → IsSound live new.steps
    → Grown now.steps new.steps → (length now.steps ≤ now.room → length new.steps ≤ now.room) →
    length now.steps < length new.steps → IsScanned live old new false 0 last
scanned_more live old now new quiet i last inv room sound grown few longer = record {
  room = room ∙ inv.room;
  sound = sound;
  grown = grown_both old.steps now.steps new.steps inv.grown grown;
  few = λ h. let n = inv.few h in let r = inv.room in let m = few (omega (arith, n, r)) in omega (arith, m, r);
  still = λ h. cc;
  moved = λ _. let n = grown_longer old.steps now.steps inv.grown in omega (arith, n, longer);
}

pub scanned_quiet : (live : LiveClauses) (old now new : Trailed) (quiet : Bool) (i last : ℕ) →
    IsScanned live old now quiet 0 i → new ≡ now
    → ((j : ℕ) → i ≤ j → j < last → status_of (literals_of new.steps) (live (suc j)) ≡ stuck) →
    IsScanned live old new quiet 0 last
scanned_quiet live old now new quiet i last inv same here =
    let still : IsScanned live old new quiet 0 i = subst (λ (t : Trailed). IsScanned live old t quiet 0 i)
    (sym same) inv in
    record {
      room = still.room;
      sound = still.sound;
      grown = still.grown;
      few = still.few;
      still = λ q. (
        (still.still q).0,
        λ j low lt. elim (cases_lt j i) [
          | inl h ↦ (still.still q).1 j low h
          | inr g ↦ here j (omega (arith, g)) lt
        ],
      );
      moved = still.moved;
    }

none_past : {X : Type 0} (xs : List X) (j : ℕ) → length xs ≤ j → slice_get xs j ≡ None
none_past {X = X} xs j g = by (slice_get xs j) refl
  where
    by : (o : Option X) → slice_get xs j ≡ o → o ≡ None
    by None e = refl
    by (Some x) e = let lt = slice_get_within xs j x e in absurd (omega (arith, lt, g))

pub scanned_closed : (clauses : List (List Literal)) (old now : Trailed) (i : ℕ) → i ≡ length clauses →
    IsScanned (live_in clauses) old now true 0 i
    → IsClosed (live_in clauses) (literals_of now.steps)
scanned_closed clauses old now i all inv zero = refl
scanned_closed clauses old now i all inv (suc j) = elim (cases_lt j (length clauses)) [
  | inl h ↦ (inv.still refl).1 j (omega arith) (omega (arith, all, h))
  | inr g ↦ ap (status_of (literals_of now.steps)) (none_past clauses j g)
]

-- the runs that are left
pub record IsNextRun (runs : List Run) (clauses : List (List Literal)) (first i : ℕ) (run : Run) : Type 0 where
  pub is_run : IsRun first run clauses
  pub last : run.last ≤ length clauses
  pub left : AreRuns run.last (drop (i + 1) runs) clauses (length clauses)

pub next_run : (runs : List Run) (clauses : List (List Literal)) (first i : ℕ) (run : Run) → i < length runs →
    get_or runs i run ≡ run
    → AreRuns first (drop i runs) clauses (length clauses) → IsNextRun runs clauses first i run
next_run runs clauses first i run lt at are =
    let one : suc i ≡ i + 1 = omega arith in
    let rest : drop i runs ≡ run ∷ drop (i + 1) runs = drop-cons runs i run lt ∙ ap (λ r. r ∷ drop (suc i) runs) at ∙ ap
    (λ n. run ∷ drop n runs) one in
    let split = subst (λ (rs : List Run). AreRuns first rs clauses (length clauses)) rest are in
    record {
      is_run = split.0;
      last = runs_low run.last (drop (i + 1) runs) clauses (length clauses) split.1;
      left =
          split.1;
    }

pub no_run_left : (runs : List Run) (clauses : List (List Literal)) (first i : ℕ) → length runs ≤ i →
    AreRuns first (drop i runs) clauses (length clauses) → first ≡ length clauses
no_run_left runs clauses first i all are = subst (λ (rs : List Run). AreRuns first rs clauses (length clauses))
    (drop_past runs i all) are
  where
    drop_past : (rs : List Run) (n : ℕ) → length rs ≤ n → drop n rs ≡ []
    drop_past [] zero le = refl
    drop_past [] (suc n) le = refl
    drop_past (r ∷ rs) zero le = absurd (omega (arith, le))
    drop_past (r ∷ rs) (suc n) le = drop_past rs n (omega (arith, le))

-- a clause of a run
clause_some : (clauses : List (List Literal)) (j : ℕ) → j < length clauses →
    (c : List Literal) × (slice_get clauses j ≡ Some c)
clause_some clauses j lt = (get_or clauses j [], slice_get-get_or clauses j [] lt)

-- the shared literal of a run stands on a variable in range
pub shared_within : (clauses : List (List Literal)) (room first : ℕ) (run : Run) → AreWithin room clauses →
    IsRun first run clauses → run.last ≤ length clauses
    → IfSome run.shared (λ l. variable_of l ≤ room)
shared_within clauses room first run within is_run last =
    let from = is_run.from in
    let k = clause_some clauses first (omega (arith, from, last)) in
    by run.shared k.0 (is_run.share first k.0 (omega arith) from k.1) k.0 refl (within_of k.0 k.1)
  where
    within_of : (c : List Literal) → slice_get clauses first ≡ Some c → All (λ l. variable_of l ≤ room) c
    within_of c at =
        let lt = slice_get_within clauses first c at in
        let s : Some (get_or clauses first c) ≡ Some c = sym (slice_get-get_or clauses first c lt) ∙ at in
        let e : get_or clauses first c ≡ c = cc in
        clause_within clauses room first c lt e within

    by : (shared : Option Literal) (c : List Literal) → Shares shared c → (d : List Literal) → c ≡ d →
        All (λ l. variable_of l ≤ room) d → IfSome shared (λ l. variable_of l ≤ room)
    by None c share d e all = tt
    by (Some l) c share d e all = literal_within room d l all (ap (λ xs. holds xs l) (sym e) ∙ share)

-- where the shared literal of a run is true, its clauses are stuck
pub shared_stuck : (clauses : List (List Literal)) (trues : List Literal) (first : ℕ) (run : Run) →
    IsRun first run clauses → run.last ≤ length clauses → IsSharedTrue trues run.shared
    → (j : ℕ) → first ≤ j → j < run.last → status_of trues (live_in clauses (suc j)) ≡ stuck
shared_stuck clauses trues first run is_run last true_now j low lt =
    let k = clause_some clauses j (omega (arith, lt, last)) in
    ap (status_of trues) k.1 ∙ by run.shared k.0 true_now (is_run.share j k.0 low lt k.1)
  where
    by : (shared : Option Literal) (c : List Literal) → IsSharedTrue trues shared → Shares shared c →
        status_of trues (Some c) ≡ stuck
    by None c on share = absurd on
    by (Some l) c on share = stuck_from_true trues c l share on.0 on.1

pub propagating_more : (live : LiveClauses) (old now new : Trailed) → IsPropagating live old now → new.room ≡ now.room →
    IsSound live new.steps → Grown now.steps new.steps
    → (length now.steps ≤ now.room → length new.steps ≤ now.room) → IsPropagating live old new
propagating_more live old now new inv room sound grown few = record {
  room = room ∙ inv.room;
  sound = sound;
  grown = grown_both old.steps now.steps new.steps inv.grown grown;
  few = let n = few inv.few in omega (arith, n, room);
}

-- a clause by its id
pub live_read : (clauses : List (List Literal)) (at : ℕ) (c : List Literal) → live_in clauses (at + 1) ≡ Some c →
    live_in clauses (suc at) ≡ Some c
live_read clauses at c is = let one : suc at ≡ at + 1 = omega arith in ap (live_in clauses) one ∙ is
