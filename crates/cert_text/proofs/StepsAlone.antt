-- Proofs that delete nothing.
use Rattle.std.proofs.Common.{◌≡◌, ℕ, zero, suc, ◌+◌, Bool, false, cond, List, [], ◌∷◌, map, Result, Ok, Err, refl, ap, arith}
use Rattle.std.specs.List.{list_any}
use Rattle.dq_lits.specs.Derivation.{ProofStep}
use Rattle.dq_text.specs.Line.{TextLine}
use Rattle.rup_core.specs.Items.{derived}
use Rattle.cert_text.specs.Canonical.{version_for}
use Rattle.cert_text.specs.Grammar.{AreItems, AreSteps}
use Rattle.cert_text.specs.ItemLine.{as_item, as_items, item_lines, step_lines}
use Rattle.cert_text.specs.KeptItems.{is_deletion}
use Rattle.cert_text.specs.Lines.{LinesRead, and_read, at_line, read_some, with_item}
use Rattle.cert_text.specs.Numbering.{Numbering, behind_item, with_next}
use Rattle.cert_text.specs.declared.faults.CertFault.{CertFault}
use Rattle.cert_text.specs.declared.faults.CertRefusal.{CertRefusal}
use Rattle.cert_text.specs.declared.versions.Version.TheVariants.{One, Two}

pub steps_are_items : (p : ℕ → Bool) (n : Numbering) (steps : List ProofStep) → AreSteps p n.next steps →
    AreItems p n (map derived steps)
steps_are_items p n [] are = tt
steps_are_items p n (s ∷ steps) are = (are.0, steps_are_items p (with_next n) steps are.1)

none_deleted : (steps : List ProofStep) → list_any is_deletion (map derived steps) ≡ false
none_deleted [] = refl
none_deleted (s ∷ steps) = none_deleted steps

pub written_in_one : (steps : List ProofStep) → version_for (map derived steps) ≡ One
written_in_one steps = ap (λ b. cond b Two One) (none_deleted steps)

-- in version 1 items are read as steps
in_front : (step : ProofStep) (read : Result (LinesRead ProofStep) CertRefusal) →
    and_read (as_items read) (with_item (derived step)) ≡ as_items (and_read read (with_item step))
in_front step (Ok r) = refl
in_front step (Err fault) = refl

by_line : (p : ℕ → Bool) (n : Numbering) (count : ℕ) (line : TextLine) (lines : List TextLine)
    (taken : Result ProofStep CertFault) →
    read_some (item_lines One p) (with_next n) count lines (line.number + 1) ≡ as_items
    (read_some (step_lines p) (n.next + 1) count lines (line.number + 1)) →
    and_read (at_line line.number (as_item taken))
    (λ item. and_read (read_some (item_lines One p) (behind_item n item) count lines (line.number + 1))
    (with_item item))
    ≡ as_items (and_read (at_line line.number taken) (λ step. and_read
    (read_some (step_lines p) (n.next + 1) count lines (line.number + 1)) (with_item step)))
by_line p n count line lines (Err name) later = refl
by_line p n count line lines (Ok step) later = search (arith, in_front)

pub steps_alone_read : (count : ℕ) (p : ℕ → Bool) (n : Numbering) (lines : List TextLine) (number : ℕ) →
    read_some (item_lines One p) n count lines number ≡ as_items (read_some (step_lines p) n.next count lines number)
steps_alone_read zero p n lines number = refl
steps_alone_read (suc count) p n [] number = refl
steps_alone_read (suc count) p n (line ∷ lines) number = search (arith, by_line, (steps_alone_read count p))
