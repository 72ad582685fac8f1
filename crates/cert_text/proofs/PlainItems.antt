-- Lines of a proof that are read in one pass.
use Rattle.std.proofs.Common.{◌≡◌, ℕ, ◌≤◌, ◌<◌, pos, List, [], ◌∷◌, ◌++◌, map, length, Ok, ◌∙◌, ap, append-nil}
use Rattle.std.proofs.lemmas.List.Elements.{recursion_from_All}
use Rattle.dq_lits.specs.Literal.{Literal}
use Rattle.dq_text.specs.Number.{number_of}
use Rattle.rup_core.specs.Items.{derived}
use Rattle.cert_text.specs.Grammar.{Tokens, integers, SpellsStep, IsStep}
use Rattle.cert_text.specs.ItemLine.{deletion_of, deleted_ids, marked_line}
use Rattle.cert_text.specs.LineStop.{and_then}
use Rattle.cert_text.specs.Numbering.{Numbering}
use Rattle.cert_text.specs.PlainStep.{read_step, HintsTaken}
use Rattle.cert_text.specs.StepLine.{shaped}
use Rattle.cert_text.specs.Variables.{is_variable}
use Rattle.cert_text.specs.declared.variables.Variables.{Variables}
use Rattle.cert_text.proofs.Integers.{integers_taken}
use Rattle.cert_text.proofs.PlainSteps.{plain_read}
use Rattle.cert_text.proofs.SpelledItems.{deletion_kept, marked_step}
use Rattle.cert_text.proofs.SpelledSteps.{hint_numbers, ids_from}

-- the ids of a deletion
pub plain_ids : (tokens left : Tokens) (ids : List ℕ) (bound : ℕ) → HintsTaken bound tokens left ids → left ≡ [] →
    1 ≤ length ids →
    deleted_ids tokens ≡ Ok ids
plain_ids tokens left ids bound taken ended some =
    let ns = hint_numbers ids ++ pos 0 ∷ [] in
    let numbers : map number_of tokens ≡ integers ns = taken.numbers
    ∙ ap (λ more. integers ns ++ map number_of more) ended
    ∙ append-nil (integers ns) in
    let before = recursion_from_All (λ h. (1 ≤ h) × (h < bound)) ids taken.hints_before in
    ap (λ read. and_then (λ ns. shaped (deletion_of ns)) read) (integers_taken tokens ns numbers)
    ∙ ap shaped (deletion_kept ids some (ids_from bound ids before))

-- a step isn't a deletion
pub plain_item : (vs : Variables) (n : Numbering) (tokens : Tokens) (id : ℕ) (ls : List Literal) (hs : List ℕ) → 1 ≤ id →
    SpellsStep tokens (read_step id ls hs) → IsStep (is_variable vs) n.next (read_step id ls hs) →
    marked_line (is_variable vs) n tokens ≡ Ok (derived (read_step id ls hs))
plain_item vs n tokens id ls hs some spelled is =
    marked_step (is_variable vs) n tokens (read_step id ls hs) spelled
    (plain_read vs n.next tokens id ls hs some spelled is)
