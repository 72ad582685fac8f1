-- A step's line: `id lits 0 hints 0`, the clause additions of LRAT (L. Cruz-Filipe et al.,
-- "Efficient certified RAT verification", 2017).
use Rattle.std.specs.Prelude.{ℕ, ◌+◌, ◌==◌, nat_lt, ℤ, nat_abs, Bool, true, false, not, ◌&&◌, List, [], ◌∷◌, map, take, drop, Option, None, Some, Result, Ok, Err, if◌then◌else◌}
use Rattle.std.specs.Int.{is_positive}
use Rattle.std.specs.List.{list_all, position}
use Rattle.std.specs.Option.{option_and_then, option_map}
use Rattle.dq_lits.specs.Derivation.{ProofStep}
use Rattle.dq_lits.specs.Literal.{dimacs_literal, variable_of}
use Rattle.cert_text.specs.LineStop.{and_then}
use Rattle.cert_text.specs.Numbers.{line_integers}
use Rattle.cert_text.specs.declared.faults.CertFault.{CertFault}
use Rattle.cert_text.specs.declared.faults.CertFault.TheVariants.{BadLine, IdOrder, BadVariable, UnknownHint}

abbrev pub is_zero : ℤ → Bool
is_zero n = nat_abs n == 0

-- the numbers before the first 0, and those behind it
abbrev pub cut_at_zero : List ℤ → Option (List ℤ × List ℤ)
cut_at_zero ns = option_map (λ end. (take end ns, drop (end + 1) ns)) (position is_zero ns)

abbrev pub is_nil : List ℤ → Bool
is_nil [] = true
is_nil (_ ∷ _) = false

abbrev pub step_of_parts : ℤ → List ℤ → List ℤ → List ℤ → Option ProofStep
step_of_parts id literals hints more =
    if is_positive id && (list_all is_positive hints && is_nil more)
    then Some
    (record { id = nat_abs id; literals = map dimacs_literal literals; hints = map nat_abs hints })
    else None

-- a positive id, literals and 0, positive hints and 0, and nothing more
abbrev pub step_of : List ℤ → Option ProofStep
step_of [] = None
step_of (id ∷ ns) =
    option_and_then
    (λ front.
    option_and_then (λ back. step_of_parts id front.0 back.0 back.1) (cut_at_zero front.1))
    (cut_at_zero ns)

abbrev pub shaped : {A : Type 0} → Option A → Result A CertFault
shaped None = Err BadLine
shaped (Some value) = Ok value

-- a line has the next id, stands on variables of the proof, and hints at clauses before it
abbrev pub checked_step : (ℕ → Bool) → ℕ → ProofStep → Result ProofStep CertFault
checked_step is_variable next step =
    if not (step.id == next) then Err IdOrder else
    if not (list_all (λ l. is_variable (variable_of l)) step.literals) then Err BadVariable else
    if not (list_all (λ hint. nat_lt hint step.id) step.hints) then Err UnknownHint else
    Ok step

-- where the proof has these variables, and this id comes next
abbrev pub step_line : (ℕ → Bool) → ℕ → List (List ℕ) → Result ProofStep CertFault
step_line is_variable next tokens =
    and_then (λ ns. and_then (checked_step is_variable next) (shaped (step_of ns)))
    (line_integers tokens)
