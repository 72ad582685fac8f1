use Rattle.std.proofs.Common.{sym, subst, Contains}
use Rattle.dq_lits.specs.Literal.{Literal, variable_of}
use Rattle.candidate_functions.proofs.rules.input_literals.Goals as goal

pub input_literal-requires : goal.input_literal-requires
input_literal-requires c = record {
  universal = subst (λ (l : Literal). Contains c.args.f.now.universals (variable_of l)) (sym c.l-item.is)
      (c.requires.universals c.loop-l.l-index c.l-item.result c.loop-l-test.true);
}
