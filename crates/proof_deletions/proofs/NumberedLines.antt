-- Lines by their numbers and hints.
use Rattle.std.proofs.Common.{◌≡◌, ℕ, ◌+◌, ◌≤◌, Bool, List, [], ◌∷◌, ◌++◌, map, length, Option, None, Some, option_map, slice_get, get_or, take, drop, arith, refl, sym, ◌∙◌, ap, subst}
use Rattle.std.specs.List.{All, range_with_len}
use Rattle.std.proofs.lemmas.List.Elements.{All-nil, All-cons, filter_agree}
use Rattle.std.proofs.lemmas.Option.{slice_get-map, slice_get_within, get_or_from_slice_get}
use Rattle.std.proofs.lemmas.List.FromFn.{get_or-range_with_len}
use Rattle.std.proofs.lemmas.List.{length-map, length-take-le, take_more, take-append-drop, drop_more}
use Rattle.dq_lits.specs.Derivation.{ProofStep}
use Rattle.rup_core.specs.Items.{ProofItem, derived, gone}
use Rattle.cert_text.specs.Grammar.{AreSteps}
use Rattle.proof_deletions.specs.Deletions.{is_hinted, spent_ids, deletion, AreNumberedLines, lines_of, first_number}
use Rattle.proof_deletions.specs.Laws.{on_line, ChangedLinesDeleteAlike}

lines_back : (steps : List ProofStep) → lines_of (map derived steps) ≡ steps
lines_back [] = refl
lines_back (step ∷ steps) = ap (λ ss. step ∷ ss) (lines_back steps)

numbers : (V : ℕ → Bool) (first : ℕ) (steps : List ProofStep) → AreSteps V first steps →
    map (λ step. step.id) steps ≡ range_with_len first (length steps)
numbers V first [] are = refl
numbers V first (step ∷ steps) are =
    ap (λ id. id ∷ map (λ s. s.id) steps) are.0.numbered ∙ ap (λ ids. first ∷ ids) (numbers V (first + 1) steps are.1)

first_same : (V : ℕ → Bool) (first : ℕ) (steps : List ProofStep) → AreSteps V first steps →
    map (λ step. step.id) steps ≡ range_with_len (first_number steps) (length steps)
first_same V first [] are = refl
first_same V first (step ∷ steps) are =
    numbers V first (step ∷ steps) are ∙ ap (λ id. range_with_len id (length (step ∷ steps))) (sym are.0.numbered)

pub from_one : (V : ℕ → Bool) (first : ℕ) (steps : List ProofStep) → 1 ≤ first → AreSteps V first steps →
    All (λ step. 1 ≤ step.id) steps
from_one V first [] one are = All-nil (λ step. 1 ≤ step.id)
from_one V first (step ∷ steps) one are =
    All-cons (λ s. 1 ≤ s.id) step steps (let e = are.0.numbered in omega (arith, e, one))
    (from_one V (first + 1) steps (omega arith) are.1)

pub allowed_are_numbered : (V : ℕ → Bool) (first : ℕ) (steps : List ProofStep) → 1 ≤ first → AreSteps V first steps →
    AreNumberedLines (map derived steps)
allowed_are_numbered V first steps one are = record {
  lines = ap (map derived) (sym (lines_back steps));
  numbered = subst (λ ss. map (λ step. step.id) ss ≡ range_with_len (first_number ss) (length ss))
      (sym (lines_back steps))
      (first_same V first steps are);
  from_one = subst (All (λ step. 1 ≤ step.id)) (sym (lines_back steps)) (from_one V first steps one are);
}

abbrev KeepsNumbers : (ProofStep → ProofStep) → Type 0
KeepsNumbers g = (step : ProofStep) → ((g step).id ≡ step.id) × ((g step).hints ≡ step.hints)

hinted_alike : (g : ProofStep → ProofStep) → KeepsNumbers g → (steps : List ProofStep) (id : ℕ) →
    is_hinted (map g steps) id ≡ is_hinted steps id
hinted_alike g keeps [] id = refl
hinted_alike g keeps (step ∷ steps) id = search (arith, (hinted_alike g keeps steps id))

spent_alike : (g : ProofStep → ProofStep) → KeepsNumbers g → (first : ℕ) (step : ProofStep) (later : List ProofStep) →
    spent_ids first (g step) (map g later) ≡ spent_ids first step later
spent_alike g keeps first step later = search (arith, filter_agree, hinted_alike)

deletion_alike : (g : ProofStep → ProofStep) (ids : List ℕ) (items : List ProofItem) →
    deletion ids ++ map (on_line g) items ≡ map (on_line g) (deletion ids ++ items)
deletion_alike g [] items = refl
deletion_alike g (id ∷ ids) items = refl

pub changed_alike : ChangedLinesDeleteAlike
changed_alike g keeps first [] = refl
changed_alike g keeps first (step ∷ []) = refl
changed_alike g keeps first (step ∷ next ∷ later) =
    search (arith, spent_alike, (changed_alike g keeps first (next ∷ later)), deletion_alike)

-- a line at a place
some_derived : (o : Option ProofStep) (step : ProofStep) → option_map derived o ≡ Some (derived step) → o ≡ Some step
some_derived None step h = cc
some_derived (Some s) step h = cc

none_gone : (o : Option ProofStep) (ids : List ℕ) → option_map derived o ≡ Some (gone ids) → ⊥
none_gone None ids h = cc
none_gone (Some s) ids h = cc

pub line_there : (items : List ProofItem) (place : ℕ) (step : ProofStep) → items ≡ map derived (lines_of items) →
    slice_get items place ≡ Some (derived step) → slice_get (lines_of items) place ≡ Some step
line_there items place step lines at = search (arith, some_derived, slice_get-map)

pub no_deletion_there : (items : List ProofItem) (place : ℕ) (ids : List ℕ) → items ≡ map derived (lines_of items) →
    slice_get items place ≡ Some (gone ids) → ⊥
no_deletion_there items place ids lines at = search (arith, none_gone, slice_get-map)

pub as_many : (items : List ProofItem) → items ≡ map derived (lines_of items) → length (lines_of items) ≡ length items
as_many items lines = sym (ap length lines ∙ length-map (lines_of items) derived)

-- the first lines, and one more
pub first_lines : (steps : List ProofStep) (place : ℕ) (step : ProofStep) → slice_get steps place ≡ Some step →
    (length (take place steps) ≡ place) × (take (place + 1) steps ≡ take place steps ++ step ∷ [])
first_lines steps place step at =
    let within = slice_get_within steps place step at in (
      length-take-le place steps (omega (arith, within)),
      take_more steps place step within ∙ ap (λ s. take place steps ++ s ∷ [])
          (get_or_from_slice_get steps place step step at),
    )

-- the number of the line at a place
ids_at : (steps : List ProofStep) (first place : ℕ) (step : ProofStep) → map (λ s. s.id) steps ≡ range_with_len first
    (length steps) →
    slice_get steps place ≡ Some step → step.id ≡ first + place
ids_at steps first place step ids at =
    let within = slice_get_within steps place step at in
    let here : get_or (map (λ (s : ProofStep). s.id) steps) place 0 ≡ step.id =
    get_or_from_slice_get (map (λ (s : ProofStep). s.id) steps) place step.id 0
    (slice_get-map (λ (s : ProofStep). s.id) steps place ∙ ap (option_map (λ (s : ProofStep). s.id)) at) in
    sym here ∙ ap (λ is. get_or is place 0) ids ∙ get_or-range_with_len first (length steps) place 0 within

pub number_at : (items : List ProofItem) (place : ℕ) (step : ProofStep) → AreNumberedLines items →
    slice_get (lines_of items) place ≡ Some step → step.id ≡ first_number (lines_of items) + place
number_at items place step are at = ids_at (lines_of items) (first_number (lines_of items)) place step are.numbered at

pub id_at : (items : List ProofItem) (place : ℕ) (step : ProofStep) → AreNumberedLines items →
    slice_get (lines_of items) place ≡ Some step → 1 ≤ step.id
id_at items place step are at =
    let steps = lines_of items in
    let within = slice_get_within steps place step at in
    subst (λ (s : ProofStep). 1 ≤ s.id) (get_or_from_slice_get steps place step step at)
    (are.from_one place step within)

-- the lines in two parts, at a line
pub in_two : (steps : List ProofStep) (place : ℕ) (step : ProofStep) → slice_get steps place ≡ Some step →
    (drop place steps ≡ step ∷ drop (place + 1) steps) × (steps ≡ take place steps ++ step ∷ drop (place + 1) steps)
in_two steps place step at =
    let within = slice_get_within steps place step at in
    let front : drop place steps ≡ step ∷ drop (place + 1) steps =
    drop_more steps place step within ∙ ap (λ s. s ∷ drop (place + 1) steps)
    (get_or_from_slice_get steps place step step at) in
    (front, sym (take-append-drop place steps) ∙ ap (λ ss. take place steps ++ ss) front)
