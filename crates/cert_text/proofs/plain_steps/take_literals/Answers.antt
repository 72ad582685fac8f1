use Rattle.std.proofs.Common.{rules, ◌≡◌, ◌∷◌, true, map, nat_abs, w64, to_z, of_z, arith}
use Rattle.dq_lits.specs.Literal.{dimacs_literal, variable_of}
use Rattle.dq_text.specs.Line.{line_tokens}
use Rattle.dq_text.specs.Number.{number_of}
use Rattle.dq_text.specs.declared.numbers.Number.TheVariants.{Int}
use Rattle.cert_text.specs.Variables.{is_variable}
use Rattle.cert_text.proofs.PlainSteps.{literal_number, literal_taken}
use Rattle.cert_text.proofs.plain_steps.take_literals.Goals as goal

pub push_literal-requires : goal.push_literal-requires
push_literal-requires c = search (arith, nat_abs, to_z, of_z, literal_number)

pub loop-n-preserved : goal.loop-n-preserved
loop-n-preserved c =
    let n = c.in-Some.n in
    let first : map number_of (line_tokens c.loop-n.rest.now) ≡ Int n ∷ map number_of (line_tokens c.in-Some.behind.now)
    = c.in-Some.ensures in
    let holds : is_variable c.args.variables (variable_of (dimacs_literal (to_z w64 (of_z w64 n)))) ≡ true =
    search rules in
    let both = literal_taken (is_variable c.args.variables) (line_tokens c.args.line.now)
    (line_tokens c.loop-n.rest.now)
    (line_tokens c.in-Some.behind.now)
    c.loop-n.literals.items c.push_literal.new.literals.items n first c.in_ok-push_literal.ensures holds
    c.loop-n.invariant.numbers c.loop-n.invariant.on_variables in
    record { numbers = both.0; on_variables = both.1 }
