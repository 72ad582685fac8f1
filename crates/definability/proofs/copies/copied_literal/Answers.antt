use Rattle.std.proofs.Common.{sym, ◌∙◌, ap, subst, false, Some}
use Rattle.dq_lits.specs.Literal.{variable_of}
use Rattle.hint_log.specs.Naming.{named_literal, name_literal}
use Rattle.hint_log.specs.declared.names.Name.TheVariants.{Copy as CopyOf}
use Rattle.definability.specs.Copies.{IsCopied}
use Rattle.definability.proofs.CopiedVariables.{opposite_name}
use Rattle.definability.proofs.copies.copied_literal.Goals as goal

pub returns-then-is_neg : goal.returns-then-is_neg
returns-then-is_neg c = λ entries side flags us es copied.
    ap (name_literal entries) c.not.ensures
    ∙ opposite_name entries c.copied_variable-variable.result (CopyOf side (variable_of c.args.l))
    (c.copied_variable-variable.ensures entries side flags us es
    (subst (IsCopied c.args.f.now flags) (sym c.var.ensures.value) copied) ∙ ap
    (λ v. Some (named_literal (CopyOf side v) false)) c.var.ensures.value)
    ∙ ap (λ b. Some (named_literal (CopyOf side (variable_of c.args.l)) b)) (sym c.if-is_neg.true ∙ c.is_neg.ensures)

pub returns-else-is_neg : goal.returns-else-is_neg
returns-else-is_neg c = λ entries side flags us es copied.
    c.copied_variable-variable.ensures entries side flags us es
    (subst (IsCopied c.args.f.now flags) (sym c.var.ensures.value) copied)
    ∙ ap (λ v. Some (named_literal (CopyOf side v) false)) c.var.ensures.value
    ∙ ap (λ b. Some (named_literal (CopyOf side (variable_of c.args.l)) b)) (sym c.if-is_neg.false ∙ c.is_neg.ensures)
