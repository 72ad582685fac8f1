-- Deletions change no fault, since what is deleted isn't hinted any more.
use Rattle.std.proofs.Common.{◌≡◌, ℕ, Bool, true, false, true≢false, List, [], ◌∷◌, ◌++◌, map, Option, refl, ◌∙◌, ap, eqb, arith}
use Rattle.std.specs.List.{AllByRecursion}
use Rattle.std.proofs.lemmas.Bool.{eq-eqb}
use Rattle.dq_lits.specs.Derivation.{LiveClauses, with_clause, line_fault, ProofStep, ProofFault, fault_of_step, is_empty}
use Rattle.rup_core.specs.Items.{ProofItem, derived, gone, is_among, items_fault, AreUnused}
use Rattle.proof_deletions.specs.Deletions.{is_hinted, spent_ids, deletion, deleting_from}
use Rattle.proof_deletions.proofs.RangeFilters.{among_filter}

-- spent ids aren't hinted later
pub spent_isn't_hinted : (first : ℕ) (step : ProofStep) (later : List ProofStep) (id : ℕ) →
    is_among (spent_ids first step later) id ≡ true → is_hinted later id ≡ false
spent_isn't_hinted first step later id h = search (arith, among_filter)

abbrev pub NotHinted : List ℕ → List ProofStep → Type 0
NotHinted ids steps = (id : ℕ) → is_among ids id ≡ true → is_hinted steps id ≡ false

not_hinted_by : (ids : List ℕ) (step : ProofStep) (later : List ProofStep) → NotHinted ids (step ∷ later) →
    (id : ℕ) → is_among ids id ≡ true → is_among step.hints id ≡ false
not_hinted_by ids step later free id among = search arith

not_hinted_later : (ids : List ℕ) (step : ProofStep) (later : List ProofStep) → NotHinted ids (step ∷ later) →
    NotHinted ids later
not_hinted_later ids step later free id among = search arith

eqb-same : (n : ℕ) → eqb n n ≡ true
eqb-same n = eq-eqb n n refl

-- hints of a line that hints none of the ids
unhinted : (ids hints : List ℕ) → ((id : ℕ) → is_among ids id ≡ true → is_among hints id ≡ false) →
    AllByRecursion (λ hint. is_among ids hint ≡ false) hints
unhinted ids [] free = tt
unhinted ids (hint ∷ hints) free = search (arith, (unhinted ids hints), true≢false, eqb-same)

behind_deletion : (ids others : List ℕ) (items : List ProofItem) → AreUnused ids items →
    AreUnused ids (deletion others ++ items)
behind_deletion ids [] items h = h
behind_deletion ids (other ∷ others) items h = h

-- ids that no line hints are unused with deletions
unused : (ids : List ℕ) (first : ℕ) (steps : List ProofStep) → NotHinted ids steps → AreUnused ids
    (deleting_from first steps)
unused ids first [] free = tt
unused ids first (step ∷ []) free = (unhinted ids step.hints (not_hinted_by ids step [] free), tt)
unused ids first (step ∷ next ∷ later) free = (
  unhinted ids step.hints (not_hinted_by ids step (next ∷ later) free),
  behind_deletion ids (spent_ids first step (next ∷ later)) (deleting_from first (next ∷ later))
      (unused ids first (next ∷ later) (not_hinted_later ids step (next ∷ later) free)),
)

abbrev UnusedMayGo : Type 0
UnusedMayGo = (finished : Bool) (live : LiveClauses) (ids : List ℕ) (items : List ProofItem) → AreUnused ids items →
    items_fault finished live (gone ids ∷ items) ≡ items_fault finished live items

may_go : UnusedMayGo → (finished : Bool) (live : LiveClauses) (ids : List ℕ) (items : List ProofItem) →
    AreUnused ids items →
    items_fault finished live (deletion ids ++ items) ≡ items_fault finished live items
may_go go finished live [] items free = refl
may_go go finished live (id ∷ ids) items free = go finished live (id ∷ ids) items free

pub lines_same : UnusedMayGo → (finished : Bool) (live : LiveClauses) (first : ℕ) (steps : List ProofStep) →
    items_fault finished live (deleting_from first steps) ≡ items_fault finished live (map derived steps)
lines_same go finished live first [] = refl
lines_same go finished live first (step ∷ []) = refl
lines_same go finished live first (step ∷ next ∷ later) =
    let ids = spent_ids first step (next ∷ later) in
    let items = deleting_from first (next ∷ later) in
    let behind = with_clause live step.id step.literals in
    ap (λ (o : Option ProofFault). fault_of_step (line_fault live step.literals step.hints) step.id o)
    (may_go go (is_empty step.literals) behind ids items
    (unused ids first (next ∷ later) (spent_isn't_hinted first step (next ∷ later)))
    ∙ lines_same go (is_empty step.literals) behind first (next ∷ later))
