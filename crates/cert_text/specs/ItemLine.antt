-- A line of a proof: a step's, or in version 2 `d ids 0`, which deletes the clauses with these ids,
-- as in LRAT (L. Cruz-Filipe et al., "Efficient certified RAT verification", 2017), but with no id
-- of its own.
use Rattle.std.specs.Prelude.{ℕ, ◌+◌, ℤ, nat_abs, Bool, not, ◌&&◌, List, [], ◌∷◌, map, Option, None, Some, Result, Ok, Err, codes, if◌then◌else◌}
use Rattle.std.specs.Int.{is_positive}
use Rattle.std.specs.List.{list_all}
use Rattle.std.specs.Option.{option_and_then}
use Rattle.std.specs.Str.{bytes_eq}
use Rattle.dq_lits.specs.Derivation.{ProofStep}
use Rattle.rup_core.specs.Items.{ProofItem, derived, gone}
use Rattle.cert_text.specs.LineStop.{and_then}
use Rattle.cert_text.specs.Lines.{Format, LinesRead, and_read}
use Rattle.cert_text.specs.Numbering.{Numbering, are_live, behind_item}
use Rattle.cert_text.specs.Numbers.{line_integers}
use Rattle.cert_text.specs.StepLine.{cut_at_zero, is_nil, shaped, step_line}
use Rattle.cert_text.specs.declared.faults.CertFault.{CertFault}
use Rattle.cert_text.specs.declared.faults.CertFault.TheVariants.{NotLive}
use Rattle.cert_text.specs.declared.faults.CertRefusal.{CertRefusal}
use Rattle.cert_text.specs.declared.versions.Version.{Version}
use Rattle.cert_text.specs.declared.versions.Version.TheVariants.{One, Two}

abbrev pub ids_of_parts : List ℤ → List ℤ → Option (List ℕ)
ids_of_parts ids more =
    if not (is_nil ids) && (list_all is_positive ids && is_nil more) then Some (map nat_abs ids)
    else None

-- at least one id, each positive, 0, and nothing more
abbrev pub deletion_of : List ℤ → Option (List ℕ)
deletion_of ns = option_and_then (λ parts. ids_of_parts parts.0 parts.1) (cut_at_zero ns)

-- the ids behind the `d`
abbrev pub deleted_ids : List (List ℕ) → Result (List ℕ) CertFault
deleted_ids tokens = and_then (λ ns. shaped (deletion_of ns)) (line_integers tokens)

-- each is that of a line before that wasn't deleted
abbrev pub checked_ids : Numbering → List ℕ → Result ProofItem CertFault
checked_ids n ids = if are_live n ids then Ok (gone ids) else Err NotLive

abbrev pub as_item : Result ProofStep CertFault → Result ProofItem CertFault
as_item (Ok step) = Ok (derived step)
as_item (Err name) = Err name

abbrev pub marked_line : (ℕ → Bool) → Numbering → List (List ℕ) → Result ProofItem CertFault
marked_line is_variable n [] = as_item (step_line is_variable n.next [])
marked_line is_variable n (token ∷ tokens) =
    if bytes_eq token (codes "d") then and_then (checked_ids n) (deleted_ids tokens)
    else as_item (step_line is_variable n.next (token ∷ tokens))

-- in version 1 each line is a step's
abbrev pub item_line : Version → (ℕ → Bool) → Numbering → List (List ℕ)
    → Result ProofItem CertFault
item_line One is_variable n tokens = as_item (step_line is_variable n.next tokens)
item_line Two is_variable n tokens = marked_line is_variable n tokens

-- lines of a proof that has these variables
abbrev pub item_lines : Version → (ℕ → Bool) → Format Numbering ProofItem
item_lines version is_variable =
    record { line = item_line version is_variable; behind = behind_item }

-- lines of steps alone, each with the next id
abbrev pub step_lines : (ℕ → Bool) → Format ℕ ProofStep
step_lines is_variable = record { line = step_line is_variable; behind = λ id _. id + 1 }

-- these as items
abbrev pub as_items : Result (LinesRead ProofStep) CertRefusal
    → Result (LinesRead ProofItem) CertRefusal
as_items read =
    and_read read (λ r.
    Ok (record { items = map derived r.items; rest = r.rest; number = r.number }))
