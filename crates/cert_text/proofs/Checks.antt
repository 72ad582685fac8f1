-- A step's checks, on its numbers.
use Rattle.std.proofs.Common.{◌≡◌, ℕ, ◌==◌, nat_lt, nat_abs, Bool, not, Ok, Err, if◌then◌else◌, arith}
use Rattle.std.specs.List.{list_all}
use Rattle.std.proofs.lemmas.List.Folds.{list_all-map}
use Rattle.dq_lits.specs.Literal.{dimacs_literal, variable_of}
use Rattle.cert_text.specs.StepLine.{checked_step}
use Rattle.cert_text.specs.StepNumbers.{numbered_step}
use Rattle.cert_text.specs.declared.faults.CertFault.TheVariants.{IdOrder, BadVariable, UnknownHint}
use Rattle.cert_text.specs.declared.step_lines.StepNumbers.{StepNumbers}

pub checked_numbers : (is_variable : ℕ → Bool) (next : ℕ) (s : StepNumbers) →
    checked_step is_variable next (numbered_step s) ≡
    (if not (s.id == next) then Err IdOrder else
    if not (list_all (λ n. is_variable (variable_of (dimacs_literal n))) s.literals.now) then Err BadVariable else
    if not (list_all (λ n. nat_lt (nat_abs n) s.id) s.hints.now) then Err UnknownHint else
    Ok (numbered_step s))
checked_numbers is_variable next s = search (arith, list_all-map, nat_lt, nat_abs)
