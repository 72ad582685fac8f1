use Rattle.std.proofs.Common.{◌≡◌, ◌++◌, true, map, length}
use Rattle.std.specs.List.{All}
use Rattle.dq_lits.specs.Literal.{dimacs_number, variable_of}
use Rattle.dq_text.specs.Line.{line_tokens}
use Rattle.dq_text.specs.Number.{number_of}
use Rattle.cert_text.specs.Grammar.{integers}
use Rattle.cert_text.specs.Variables.{is_variable}
use Rattle.cert_text.proofs.plain_steps.take_literals.Given as goal

abbrev pub invariant-loop-n : goal.invariant-loop-n
invariant-loop-n l = record {
  numbers : map number_of (line_tokens l.line) ≡ integers (map dimacs_number l.literals.items)
      ++ map number_of (line_tokens l.rest);
  on_variables : All (λ v. is_variable l.variables (variable_of v) ≡ true) l.literals.items;
}

abbrev pub decreases-loop-n : goal.decreases-loop-n
decreases-loop-n l = length (line_tokens l.rest)
