-- Items of a derivation: their run, and what deletions leave.
use Rattle.std.proofs.Common.{◌≡◌, ℕ, ◌+◌, ◌==◌, Bool, true, false, cond, List, [], ◌∷◌, map, Option, None, Some, refl, ◌∙◌, ap}
use Rattle.std.specs.List.{AllByRecursion}
use Rattle.dq_lits.specs.Literal.{Assignment, Literal, opposite, clause_true}
use Rattle.dq_lits.specs.Derivation.{LiveClauses, MakesTrue, with_clause, status_of, fault_by, hint_fault, is_tautology, line_fault, IsDerived, ProofStep, ProofFault, underived, fault_of_step, is_empty, steps_fault}
use Rattle.dq_lits.proofs.HeldLiterals.{fault_by-same}
use Rattle.dq_lits.proofs.Derivations.{no_step_fault, end_fault, empty_is_false, with_clause-true}
use Rattle.rup_core.specs.Items.{ProofItem, derived, gone, is_among, without_clauses, items_fault, ItemsDerive, AreUnused}
use Rattle.rup_core.specs.Runs.{Run, with_line, with_item, with_items, run_fault}

-- without deletions
pub steps_alone : (finished : Bool) (live : LiveClauses) (steps : List ProofStep) →
    items_fault finished live (map derived steps) ≡ steps_fault finished live steps
steps_alone finished live [] = refl
steps_alone finished live (step ∷ steps) =
    ap (fault_of_step (line_fault live step.literals step.hints) step.id)
    (steps_alone (is_empty step.literals) (with_clause live step.id step.literals) steps)

-- judged item by item
abbrev failed : Bool → LiveClauses → ℕ → Run
failed finished live id = record { finished = finished; live = live; fault = Some id }

stays : (finished : Bool) (live : LiveClauses) (id : ℕ) (items : List ProofItem) →
    run_fault (with_items (failed finished live id) items) ≡ Some (underived id)
stays finished live id [] = refl
stays finished live id (item ∷ items) = stays finished live id items

abbrev going : Bool → LiveClauses → Run
going finished live = record { finished = finished; live = live; fault = None }

line_run : (o : Option ℕ) (finished : Bool) (live : LiveClauses) (step : ProofStep) (items : List ProofItem)
    (rest : Option ProofFault) →
    run_fault (with_items (going (is_empty step.literals) (with_clause live step.id step.literals)) items) ≡ rest →
    run_fault (with_items (with_line o (going finished live) step) items) ≡ fault_of_step o step.id rest
line_run (Some place) finished live step items rest h = stays finished live step.id items
line_run None finished live step items rest h = h

pub going_is_fault : (finished : Bool) (live : LiveClauses) (items : List ProofItem) →
    run_fault (with_items (going finished live) items) ≡ items_fault finished live items
going_is_fault finished live [] = refl
going_is_fault finished live (derived step ∷ items) =
    line_run (line_fault live step.literals step.hints) finished live step items
    (items_fault (is_empty step.literals) (with_clause live step.id step.literals) items)
    (going_is_fault (is_empty step.literals) (with_clause live step.id step.literals) items)
going_is_fault finished live (gone ids ∷ items) = going_is_fault finished (without_clauses live ids) items

-- fewer clauses are true where more are
if_kept : (m : Assignment) (b : Bool) (clause : List Literal) (other : Option (List Literal)) →
    (other ≡ Some clause → clause_true m clause ≡ true)
    → cond b None other ≡ Some clause → clause_true m clause ≡ true
if_kept m true clause other truth h = cc
if_kept m false clause other truth h = truth h

pub fewer_true : (m : Assignment) (live : LiveClauses) (ids : List ℕ) → MakesTrue m live →
    MakesTrue m (without_clauses live ids)
fewer_true m live ids truth id clause h = if_kept m (is_among ids id) clause (live id) (truth id clause) h

-- a derivation with deletions is sound, where a derived line is implied
abbrev LineIsImplied : Type 0
LineIsImplied = (live : LiveClauses) (literals : List Literal) (hints : List ℕ) → IsDerived live literals hints →
    (m : Assignment) → MakesTrue m live → clause_true m literals ≡ true

items_refute : LineIsImplied → (m : Assignment) (items : List ProofItem) (finished : Bool) (live : LiveClauses) →
    MakesTrue m live →
    (finished ≡ true → ⊥) → items_fault finished live items ≡ None → ⊥
items_refute implied m [] finished live truth before h = before (end_fault finished h)
items_refute implied m (derived step ∷ items) finished live truth before h =
    let r = no_step_fault (line_fault live step.literals step.hints) step.id
    (items_fault (is_empty step.literals) (with_clause live step.id step.literals) items) h in
    let here = implied live step.literals step.hints r.0 m truth in
    items_refute implied m items (is_empty step.literals) (with_clause live step.id step.literals)
    (with_clause-true m live truth step.id step.literals here) (empty_is_false m step.literals here) r.1
items_refute implied m (gone ids ∷ items) finished live truth before h =
    items_refute implied m items finished (without_clauses live ids) (fewer_true m live ids truth) before h

pub derivation_refutes : LineIsImplied → (live : LiveClauses) (items : List ProofItem) → ItemsDerive live items →
    (m : Assignment) → MakesTrue m live → ⊥
derivation_refutes implied live items derives m truth = items_refute implied m items false live truth (λ h. cc) derives

-- what is live stays implied, item by item
line_keeps : LineIsImplied → (m : Assignment) (o : Option ℕ) (run : Run) (step : ProofStep) →
    line_fault run.live step.literals step.hints ≡ o →
    MakesTrue m run.live → MakesTrue m (with_line o run step).live
line_keeps implied m (Some place) run step is truth = truth
line_keeps implied m None run step is truth = with_clause-true m run.live truth step.id step.literals (implied run.live step.literals step.hints is m truth)

item_keeps : LineIsImplied → (m : Assignment) (finished : Bool) (live : LiveClauses) (fault : Option ℕ)
    (item : ProofItem) →
    MakesTrue m live → MakesTrue m (with_item (record { finished = finished; live = live; fault = fault }) item).live
item_keeps implied m finished live (Some id) item truth = truth
item_keeps implied m finished live None (derived step) truth =
    line_keeps implied m (line_fault live step.literals step.hints) (going finished live) step refl truth
item_keeps implied m finished live None (gone ids) truth = fewer_true m live ids truth

pub items_keep : LineIsImplied → (m : Assignment) (run : Run) (items : List ProofItem) → MakesTrue m run.live →
    MakesTrue m (with_items run items).live
items_keep implied m run [] truth = truth
items_keep implied m run (item ∷ items) truth = items_keep implied m (with_item run item) items
    (item_keeps implied m run.finished run.live run.fault item truth)

-- items have one fault over clauses that agree at all that they hint
abbrev SameAt : LiveClauses → LiveClauses → ℕ → Type 0
SameAt live other id = live id ≡ other id

abbrev AreSameFor : LiveClauses → LiveClauses → List ProofItem → Type 0
AreSameFor live other [] = Unit {0}
AreSameFor live other (derived step ∷ items) = AllByRecursion
    (SameAt live other) step.hints × AreSameFor live other items
AreSameFor live other (gone ids ∷ items) = AreSameFor live other items

hints_same : (live other : LiveClauses) (hints : List ℕ) (trues : List Literal) (place : ℕ) →
    AllByRecursion (SameAt live other) hints →
    hint_fault live trues place hints ≡ hint_fault other trues place hints
hints_same live other [] trues place same = refl
hints_same live other (hint ∷ hints) trues place same =
    ap (λ c. fault_by (status_of trues c) place hints (λ l. hint_fault live (l ∷ trues) (place + 1) hints)) same.0
    ∙ fault_by-same (status_of trues (other hint)) place hints (λ l. hint_fault live (l ∷ trues) (place + 1) hints)
    (λ l. hint_fault other (l ∷ trues) (place + 1) hints)
    (λ l. hints_same live other hints (l ∷ trues) (place + 1) same.1)

pub line_same : (live other : LiveClauses) (literals : List Literal) (hints : List ℕ) →
    AllByRecursion (SameAt live other) hints →
    line_fault live literals hints ≡ line_fault other literals hints
line_same live other literals hints same =
    ap (λ (o : Option ℕ). cond (is_tautology literals) (Some 0) o)
    (hints_same live other hints (map opposite literals) 1 same)

abbrev KeepsSame : LiveClauses → LiveClauses → LiveClauses → LiveClauses → Type 0
KeepsSame live other live' other' = (id : ℕ) → live id ≡ other id → live' id ≡ other' id

all_at : (live other live' other' : LiveClauses) → KeepsSame live other live' other' → (ids : List ℕ) →
    AllByRecursion (SameAt live other) ids → AllByRecursion (SameAt live' other') ids
all_at live other live' other' h [] same = tt
all_at live other live' other' h (id ∷ ids) same = (h id same.0, all_at live other live' other' h ids same.1)

still_same : (live other live' other' : LiveClauses) → KeepsSame live other live' other' → (items : List ProofItem) →
    AreSameFor live other items → AreSameFor live' other' items
still_same live other live' other' h [] same = tt
still_same live other live' other' h (derived step ∷ items) same =
    (all_at live other live' other' h step.hints same.0, still_same live other live' other' h items same.1)
still_same live other live' other' h (gone ids ∷ items) same = still_same live other live' other' h items same

items_same : (items : List ProofItem) (finished : Bool) (live other : LiveClauses) → AreSameFor live other items →
    items_fault finished live items ≡ items_fault finished other items
items_same [] finished live other same = refl
items_same (derived step ∷ items) finished live other same =
    ap (λ (o : Option ℕ). fault_of_step o step.id (items_fault (is_empty step.literals)
    (with_clause live step.id step.literals) items)) (line_same live other step.literals step.hints same.0)
    ∙ ap (λ (o : Option ProofFault). fault_of_step (line_fault other step.literals step.hints) step.id o)
    (items_same items (is_empty step.literals) (with_clause live step.id step.literals)
    (with_clause other step.id step.literals)
    (still_same live other (with_clause live step.id step.literals) (with_clause other step.id step.literals)
    (λ id e. ap (λ (o : Option (List Literal)). cond (id == step.id) (Some step.literals) o) e) items same.1))
items_same (gone ids ∷ items) finished live other same =
    items_same items finished (without_clauses live ids) (without_clauses other ids)
    (still_same live other (without_clauses live ids) (without_clauses other ids)
    (λ id e. ap (λ (o : Option (List Literal)). cond (is_among ids id) None o) e) items same)

-- ids that nobody hints
unhinted : (live : LiveClauses) (ids hints : List ℕ) → AllByRecursion (λ hint. is_among ids hint ≡ false) hints →
    AllByRecursion (SameAt (without_clauses live ids) live) hints
unhinted live ids [] free = tt
unhinted live ids (hint ∷ hints) free = (
  ap (λ (b : Bool). cond b None (live hint)) free.0,
  unhinted live ids hints free.1,
)

unused : (live : LiveClauses) (ids : List ℕ) (items : List ProofItem) → AreUnused ids items →
    AreSameFor (without_clauses live ids) live items
unused live ids [] free = tt
unused live ids (derived step ∷ items) free = (unhinted live ids step.hints free.0, unused live ids items free.1)
unused live ids (gone others ∷ items) free = unused live ids items free

pub unused_may_go : (finished : Bool) (live : LiveClauses) (ids : List ℕ) (items : List ProofItem) →
    AreUnused ids items →
    items_fault finished live (gone ids ∷ items) ≡ items_fault finished live items
unused_may_go finished live ids items free = items_same items finished (without_clauses live ids) live
    (unused live ids items free)
