-- Steps that are judged one after the other.
use Rattle.std.proofs.Common.{◌≡◌, ℕ, zero, suc, ◌+◌, ◌≤◌, ◌<◌, Bool, true, false, List, [], ◌∷◌, drop, map, get_or, slice_get, Option, None, Some, sym, ap, ◌∙◌, subst, arith}
use Rattle.std.specs.List.{All}
use Rattle.std.proofs.lemmas.List.Elements.{All-append, All-cons}
use Rattle.list_laws.proofs.Elements.{drop-next}
use Rattle.dq_lits.specs.Derivation.{LiveClauses, ProofStep}
use Rattle.dq_lits.specs.Literal.{Literal}
use Rattle.rup_core.specs.Items.{derived}
use Rattle.rup_core.specs.Proving.{ProofState, ended, with_derived}
use Rattle.rup_core.specs.Runs.{Run, run_fault, with_item, with_items}
use Rattle.cert_text.specs.Grammar.{AreSteps}
use Rattle.defined_checker.specs.Answers.{AreNumberedSteps}

abbrev Line : Type 0
Line = ℕ × List Literal

pub numbered : (p : ℕ → Bool) (first : ℕ) (steps : List ProofStep) → 1 ≤ first → AreSteps p first steps →
    AreNumberedSteps first steps
numbered p first [] some are = tt
numbered p first (s ∷ steps) some are =
    (some, (are.0.numbered, numbered p (first + 1) steps (omega (arith, some)) are.1))

pub id_at : (first : ℕ) (steps : List ProofStep) (k : ℕ) (s : ProofStep) → AreNumberedSteps first steps →
    slice_get steps k ≡ Some s → (1 ≤ s.id) × (s.id ≡ first + k)
id_at first [] k s are is = cc
id_at first (t ∷ steps) zero s are is =
    let same : t ≡ s = some_is t s is in
    let here : t.id ≡ first = are.1.0 in
    let some : 1 ≤ first = are.0 in
    subst (λ x. (1 ≤ x.id) × (x.id ≡ first + 0)) same (omega (arith, here, some), omega (arith, here))
  where
    some_is : (a b : ProofStep) → Some a ≡ Some b → a ≡ b
    some_is a b h = cc
id_at first (t ∷ steps) (suc k) s are is =
    let r = id_at (first + 1) steps k s are.1.1 is in
    (r.0, r.1 ∙ omega arith)

lines_of : (o : Option ℕ) (is_derived : Bool) (id : ℕ) (literals : List Literal) (p : ProofState) (n : ℕ) →
    All (λ (line : Line). line.0 < n) p.lines → id < n →
    All (λ (line : Line). line.0 < n) (with_derived o is_derived id literals p).lines
lines_of (Some _) is_derived id literals p n low here = low
lines_of None false id literals p n low here = low
lines_of None true id literals p n low here =
    All-append (λ (line : Line). line.0 < n) p.lines ((id, literals) ∷ []) low
    (All-cons (λ (line : Line). line.0 < n) (id, literals) [] here (λ k d below. absurd (omega (arith, below))))

-- behind a line all lines lie below the next id
pub lines_behind : (is_derived : Bool) (id : ℕ) (literals : List Literal) (p new : ProofState) (first k : ℕ) →
    new ≡ ended is_derived id literals p → id ≡ first + k →
    All (λ (line : Line). line.0 < first + k) p.lines → All (λ (line : Line). line.0 < first + (k + 1)) new.lines
lines_behind is_derived id literals p new first k is here low =
    subst (λ (q : ProofState). All (λ (line : Line). line.0 < first + (k + 1)) q.lines) (sym is)
    (lines_of p.fault is_derived id literals p (first + (k + 1)) (λ j d below. wider j d (low j d below))
    (omega (arith, here)))
  where
    wider : (j : ℕ) (d : Line) → (get_or p.lines j d).0 < first + k → (get_or p.lines j d).0 < first + (k + 1)
    wider j d less = omega (arith, less)

-- one more step is judged
pub step_judged : (live : LiveClauses) (steps : List ProofStep) (k : ℕ) (s : ProofStep) (old new : Run) →
    slice_get steps k ≡ Some s → new ≡ with_item old (derived s) →
    run_fault (with_items new (map derived (drop (k + 1) steps)))
    ≡ run_fault (with_items old (map derived (drop k steps)))
step_judged live steps k s old new there is =
    ap (λ r. run_fault (with_items r (map derived (drop (k + 1) steps)))) is
    ∙ sym (ap (λ rest. run_fault (with_items old (map derived rest))) (drop-next steps k s there))
