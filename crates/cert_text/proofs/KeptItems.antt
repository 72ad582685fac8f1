-- Items that are kept as steps.
use Rattle.std.proofs.Common.{◌≡◌, ℕ, ◌+◌, ◌≤◌, ◌||◌, cond, List, [], ◌∷◌, ◌++◌, map, drop, Some, refl, ap, ap₂, arith, append_assoc}
use Rattle.std.specs.List.{AllByRecursion, flat_map, list_any, slice_get}
use Rattle.std.proofs.lemmas.Bool.{ne_eqb}
use Rattle.list_laws.proofs.Elements.{drop-at}
use Rattle.dq_lits.specs.Derivation.{ProofStep}
use Rattle.rup_core.specs.Items.{ProofItem, derived, gone}
use Rattle.cert_text.specs.Canonical.{item_text}
use Rattle.cert_text.specs.KeptItems.{kept_item, is_deletion}

-- a line is kept as it is
pub line_kept : (step : ProofStep) → 1 ≤ step.id → kept_item step ≡ derived step
line_kept step some = ap (λ b. cond b (gone step.hints) (derived step)) (ne_eqb step.id 0 (λ e. omega (arith, some, e)))

pub lines_kept : (steps : List ProofStep) → AllByRecursion (λ step. 1 ≤ step.id) steps →
    map kept_item steps ≡ map derived steps
lines_kept [] some = refl
lines_kept (step ∷ steps) some = ap₂ (λ item items. item ∷ items) (line_kept step some.0) (lines_kept steps some.1)

-- one of them more is written
pub one_written : {X : Type 0} (written_as : X → List ℕ) (items : List X) (k : ℕ) (item : X)
    (text more start : List ℕ) → slice_get items k ≡ Some item → more ≡ text ++ written_as item →
    text ++ flat_map written_as (drop k items) ≡ start → more ++ flat_map written_as (drop (k + 1) items) ≡ start
one_written written_as items k item text more start is written so_far = search (arith, append_assoc, drop-at)

pub item_written : (items : List ProofItem) (k : ℕ) (item : ProofItem) (text more start : List ℕ) →
    slice_get items k ≡ Some item → more ≡ text ++ item_text item →
    text ++ flat_map item_text (drop k items) ≡ start → more ++ flat_map item_text (drop (k + 1) items) ≡ start
item_written items k item text more start is written so_far = search (arith, one_written)

-- one item more is looked at
pub deletion_at : (items : List ProofItem) (k : ℕ) (item : ProofItem) → slice_get items k ≡ Some item →
    list_any is_deletion (drop k items) ≡ is_deletion item || list_any is_deletion (drop (k + 1) items)
deletion_at items k item is = search (arith, drop-at)
