-- The instances under the rows of an accepted refutation have no model.
use Rattle.std.proofs.Common.{◌≡◌, ◌∙◌, sym, ap, Bool, false, List, map, None}
use Rattle.dq_lits.specs.Expansion.{IsExpansionUnsatisfiable, instance_at}
use Rattle.dq_lits.specs.Formula.{Dqbf}
use Rattle.dq_lits.specs.Derivation.{Derives, ProofStep}
use Rattle.rup_core.specs.Items.{items_fault}
use Rattle.rup_core.proofs.DeletedClauses.{steps_alone}
use Rattle.cert_text.specs.declared.refutations.Dqr.{Dqr}
use Rattle.proof_deletions.specs.Deletions.{AreNumberedLines, lines_of}
use Rattle.refutation_checker.specs.Refutation.{refutation_fault, normal_item, normal_step}
use Rattle.refutation_checker.proofs.NormalLines.{normal_lines}

-- a derivation from instances shows that they have no model
abbrev pub DerivationsRefute : Type 0
DerivationsRefute = (f : Dqbf) (rows : List (List Bool)) (steps : List ProofStep) → Derives (instance_at f rows) steps
    → IsExpansionUnsatisfiable f rows

-- so the instances under an accepted refutation's rows have no model
pub unsatisfiable : DerivationsRefute → (f : Dqbf) (d : Dqr) → refutation_fault f d ≡ None → AreNumberedLines d.items
    → IsExpansionUnsatisfiable f d.rows
unsatisfiable refute f d none numbered =
    let steps = lines_of d.items in
    let live = instance_at f d.rows in
    refute f d.rows (map (normal_step f d.rows) steps)
    (sym (steps_alone false live (map (normal_step f d.rows) steps))
    ∙ ap (items_fault false live) (sym (normal_lines f d.rows steps))
    ∙ ap (λ xs. items_fault false live (map (normal_item f d.rows) xs)) (sym numbered.lines) ∙ none)
