-- What deletions keep.
use Rattle.std.specs.Prelude.{◌≡◌, ℕ, ◌*◌, ◌≤◌, Bool, List, map, length}
use Rattle.std.specs.List.{All}
use Rattle.dq_lits.specs.Derivation.{LiveClauses, ProofStep}
use Rattle.rup_core.specs.Items.{ProofItem, derived, gone, items_fault}
use Rattle.cert_text.specs.Grammar.{IsSmallItem, AreItems, AreSteps}
use Rattle.cert_text.specs.Numbering.{numbered_from}
use Rattle.proof_deletions.specs.Deletions.{deleting_from, with_deletions, AreNumberedLines}

-- lines that a text can hold are numbered
abbrev pub AllowedLinesAreNumbered : Type 0
AllowedLinesAreNumbered =
    (is_variable : ℕ → Bool) (first : ℕ) (steps : List ProofStep) → 1 ≤ first
    → AreSteps is_variable first steps → AreNumberedLines (map derived steps)

-- over any clauses, lines have the same fault with deletions
abbrev pub DeletionsChangeNoFault : Type 0
DeletionsChangeNoFault =
    (finished : Bool) (live : LiveClauses) (first : ℕ) (steps : List ProofStep)
    → items_fault finished live (deleting_from first steps)
    ≡ items_fault finished live (map derived steps)

-- what a text can hold, it can hold with deletions, but for their number, which at most doubles
pub record DeletionsAreAllowed : Type 0 where
  pub items : (is_variable : ℕ → Bool) (first : ℕ) (items : List ProofItem)
      → AreNumberedLines items → AreItems is_variable (numbered_from first) items
      → AreItems is_variable (numbered_from first) (with_deletions items)
  pub small : (items : List ProofItem) → AreNumberedLines items → All IsSmallItem items
      → All IsSmallItem (with_deletions items)
  pub few : (items : List ProofItem) → length (with_deletions items) ≤ 2 * length items
  pub no_fewer : (items : List ProofItem) → AreNumberedLines items
      → length items ≤ length (with_deletions items)

-- a line's clause changed, and not its number and its hints
abbrev pub on_line : (ProofStep → ProofStep) → ProofItem → ProofItem
on_line g (derived step) = derived (g step)
on_line g (gone ids) = gone ids

-- deletions go by numbers and hints alone
abbrev pub ChangedLinesDeleteAlike : Type 0
ChangedLinesDeleteAlike =
    (g : ProofStep → ProofStep)
    → ((step : ProofStep) → ((g step).id ≡ step.id) × ((g step).hints ≡ step.hints))
    → (first : ℕ) (steps : List ProofStep)
    → deleting_from first (map g steps) ≡ map (on_line g) (deleting_from first steps)
