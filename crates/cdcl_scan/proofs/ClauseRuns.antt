-- Runs of neighbouring clauses.
use Rattle.std.proofs.Common.{◌≡◌, ℕ, suc, ◌+◌, ◌≤◌, inl, inr, List, [], ◌∷◌, ◌++◌, length, Option, Some, refl, sym, ◌∙◌, subst, arith}
use Rattle.std.proofs.lemmas.Option.{slice_get_within}
use Rattle.dq_lits.specs.Literal.{Literal}
use Rattle.cdcl_scan.specs.declared.clauses.Run.{Run}
use Rattle.cdcl_scan.specs.Runs.{Shares, IsRun, AreRuns}
use Rattle.learning_trail.proofs.Lessons.{live_more}

pub runs_low : (start : ℕ) (runs : List Run) (clauses : List (List Literal)) (end : ℕ) →
    AreRuns start runs clauses end → start ≤ end
runs_low start [] clauses end are = omega (arith, are)
runs_low start (run ∷ runs) clauses end are = let low = are.0.from in let rest =
    runs_low run.last runs clauses end are.1 in omega (arith, low, rest)

runs_longer : (start : ℕ) (runs : List Run) (clauses : List (List Literal)) (c : List Literal) (end : ℕ) →
    end ≤ length clauses → AreRuns start runs clauses end → AreRuns start runs (clauses ++ c ∷ []) end
runs_longer start [] clauses c end le are = are
runs_longer start (run ∷ runs) clauses c end le are =
    let high = runs_low run.last runs clauses end are.1 in (
      record {
        from = are.0.from;
        share = λ i d low lt at. elim (live_more clauses c (suc i)) [
          | inl same ↦ are.0.share i d low lt (sym same ∙ at)
          | inr new ↦ let e = new.0 in absurd (omega (arith, e, lt, high, le))
        ];
      },
      runs_longer run.last runs clauses c end le are.1,
    )

record IsSplit (start : ℕ) (init : List Run) (run : Run) (clauses : List (List Literal)) (end : ℕ) : Type 0 where
  pub middle : ℕ
  pub before : AreRuns start init clauses middle
  pub here : IsRun middle run clauses
  pub last : run.last ≡ end

runs_split : (start : ℕ) (init : List Run) (run : Run) (clauses : List (List Literal)) (end : ℕ) →
    AreRuns start (init ++ run ∷ []) clauses end → IsSplit start init run clauses end
runs_split start [] run clauses end are = record { middle = start; before = refl; here = are.0; last = are.1 }
runs_split start (r ∷ init) run clauses end are =
    let s = runs_split r.last init run clauses end are.1 in
    record { middle = s.middle; before = (are.0, s.before); here = s.here; last = s.last }

runs_join : (start : ℕ) (init : List Run) (run : Run) (clauses : List (List Literal)) (middle : ℕ) →
    AreRuns start init clauses middle → IsRun middle run clauses
    → AreRuns start (init ++ run ∷ []) clauses run.last
runs_join start [] run clauses middle are here = (subst (λ n. IsRun n run clauses) (sym are) here, refl)
runs_join start (r ∷ init) run clauses middle are here = (are.0, runs_join r.last init run clauses middle are.1 here)

new_run : (clauses : List (List Literal)) (c : List Literal) (shared : Option Literal) (last : ℕ) → Shares shared c →
    last ≡ length clauses + 1
    → IsRun (length clauses) (record { shared = shared; last = last }) (clauses ++ c ∷ [])
new_run clauses c shared last share is = record {
  from = omega (arith, is);
  share = λ i d low lt at. elim (live_more clauses c (suc i)) [
    | inl same ↦
        let inside = slice_get_within clauses i d (sym same ∙ at) in
        absurd (omega (arith, low, inside))
    | inr new ↦
        let s : Some c ≡ Some d = sym new.1 ∙ at in
        let q : c ≡ d = cc in
        subst (Shares shared) q share
  ];
}

-- a clause that goes with the newest run
pub runs_extended : (init : List Run) (run : Run) (clauses : List (List Literal)) (c : List Literal) (last : ℕ) →
    AreRuns 0 (init ++ run ∷ []) clauses (length clauses)
    → Shares run.shared c → last ≡ length clauses + 1 → AreRuns 0
    (init ++ record { shared = run.shared; last = last } ∷ []) (clauses ++ c ∷ []) last
runs_extended init run clauses c last are share is =
    let s = runs_split 0 init run clauses (length clauses) are in
    let here = s.here in
    let from = here.from in
    let high = s.last in
    let more : Run = record { shared = run.shared; last = last } in
    runs_join 0 init more (clauses ++ c ∷ []) s.middle (runs_longer 0 init clauses c s.middle
    (omega (arith, from, high)) s.before) (record {
      from = omega (arith, from, high, is);
      share = λ i d low lt at. elim (live_more clauses c (suc i)) [
        | inl same ↦
            let inside = slice_get_within clauses i d (sym same ∙ at) in
            here.share i d low (omega (arith, inside, high)) (sym same ∙ at)
        | inr new ↦
            let e : Some c ≡ Some d = sym new.1 ∙ at in
            let q : c ≡ d = cc in
            subst (Shares run.shared) q share
      ];
    })

-- a clause that begins a run
pub runs_begun : (runs : List Run) (clauses : List (List Literal)) (c : List Literal) (shared : Option Literal)
    (last : ℕ) → AreRuns 0 runs clauses (length clauses)
    → Shares shared c → last ≡ length clauses + 1 → AreRuns 0 (runs ++ record { shared = shared; last = last } ∷ [])
    (clauses ++ c ∷ []) last
runs_begun runs clauses c shared last are share is =
    runs_join 0 runs (record { shared = shared; last = last }) (clauses ++ c ∷ []) (length clauses)
    (runs_longer 0 runs clauses c (length clauses) (omega arith) are)
    (new_run clauses c shared last share is)
