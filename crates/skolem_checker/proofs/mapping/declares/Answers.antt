use Rattle.std.proofs.Common.{sym, ◌∙◌, arith}
use Rattle.skolem_checker.proofs.MappingReads.{existential-declared, declared-in_range}
use Rattle.skolem_checker.specs.declared.mapping.Kind.TheVariants.{Inputs, Outputs}
use Rattle.skolem_checker.proofs.mapping.declares.Goals as goal

pub returns-in-Inputs-clause-in_range : goal.returns-in-Inputs-clause-in_range
returns-in-Inputs-clause-in_range c h =
    declared-in_range c.args.f.now Inputs c.args.v c.every_formula_is_lawful.ensures.prefix
    (sym c.is_universal.ensures ∙ h)

pub returns-in-Outputs-clause-is : goal.returns-in-Outputs-clause-is
returns-in-Outputs-clause-is c = search (arith, existential-declared)

pub returns-in-Outputs-clause-in_range : goal.returns-in-Outputs-clause-in_range
returns-in-Outputs-clause-in_range c h =
    declared-in_range c.args.f.now Outputs c.args.v c.every_formula_is_lawful.ensures.prefix
    (sym (c.is_existential.ensures ∙ existential-declared c.args.f.now c.args.v) ∙ h)
