-- The numbers of a step as the definitions see them.
use Rattle.std.specs.Prelude.{nat_abs, ℤ, ◌≤◌, ◌<◌, ◌^◌, map, Option}
use Rattle.std.specs.Option.{option_map}
use Rattle.dq_lits.specs.Derivation.{ProofStep}
use Rattle.dq_lits.specs.Literal.{dimacs_literal}
use Rattle.cert_text.specs.declared.step_lines.StepNumbers.{StepNumbers}

abbrev pub numbered_step : StepNumbers → ProofStep
numbered_step s =
    record {
      id = s.id;
      literals = map dimacs_literal s.literals.now;
      hints = map nat_abs s.hints.now;
    }

abbrev pub maybe_step : Option StepNumbers → Option ProofStep
maybe_step s = option_map numbered_step s

-- a literal can be kept
abbrev pub IsLiteralNumber : ℤ → Type 0
IsLiteralNumber n = (1 ≤ nat_abs n) × (nat_abs n < 2 ^ 62)
