use Rattle.std.proofs.Common.{sym, subst}
use Rattle.std.specs.List.{Contains}
use Rattle.dq_lits.specs.Literal.{variable_of}
use Rattle.dq_lits.specs.Formula.{declared}
use Rattle.std.proofs.lemmas.List.{take_all}
use Rattle.hint_log.specs.Naming.{AreNamedAs}
use Rattle.definability.specs.Copies.{IsCopied, copy_names}
use Rattle.definability.proofs.CopiedVariables.{clause_more}
use Rattle.definability.proofs.copies.copied_clause.Goals as goal

pub copied_literal-requires-clause-bound : goal.copied_literal-requires-clause-bound
copied_literal-requires-clause-bound c =
    subst (λ l. Contains (declared c.args.f.now) (variable_of l)) (sym c.l-item.is)
    (c.requires.bound c.loop-l.l-index c.l-item.result c.loop-l-test.true)

pub loop-l-preserved : goal.loop-l-preserved
loop-l-preserved c = λ entries side flags us es copied.
    clause_more entries side c.args.clause.now c.loop-l.lits.items c.push.new.self.items c.loop-l.l-index
    c.l-item.result c.copied_literal.result c.loop-l-test.true (sym c.l-item.is)
    (c.loop-l.invariant entries side flags us es copied)
    (c.copied_literal.ensures entries side flags us es
    (subst (λ l. IsCopied c.args.f.now flags (variable_of l)) (sym c.l-item.is)
    (copied c.loop-l.l-index c.l-item.result c.loop-l-test.true))) c.in_ok-push.ensures.items

pub returns : goal.returns
returns c = λ entries side flags us es copied.
    subst (λ ls. AreNamedAs entries c.loop-l.lits.items (copy_names side ls))
    (take_all c.loop-l.l-index c.args.clause.now c.loop-l-test.false)
    (c.loop-l.invariant entries side flags us es copied)
