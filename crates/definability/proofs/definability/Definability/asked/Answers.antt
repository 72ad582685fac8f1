use Rattle.std.proofs.Common.{true, false, ◌∙◌, ap}
use Rattle.dq_lits.specs.Literal.{positive, negative}
use Rattle.hint_log.specs.Naming.{named_literal, name_literal}
use Rattle.hint_log.specs.declared.names.Name.TheVariants.{Copy as CopyOf}
use Rattle.definability.proofs.CopiedVariables.{opposite_name, copied_last}
use Rattle.definability.proofs.definability.Definability.asked.Goals as goal

pub returns : goal.returns
returns c = λ entries definability.
    let y = c.args.question.now.y in
    let flags = c.args.self.now.copied.items in
    let conditions = c.args.question.now.conditions.now in
    let one = c.copied_variable-one.ensures entries 1 flags definability.first.universals definability.first.existentials
    c.requires.posed.is_copied in
    let other = c.copied_variable.ensures entries 2 flags definability.second.universals definability.second.existentials
    c.requires.posed.is_copied in
    let negated = ap (name_literal entries) c.not-other.ensures ∙ opposite_name entries c.copied_variable.result
    (CopyOf 2 y) other in
    record {
      first = copied_last entries 1 conditions c.in_ok-first.first.items (positive y)
          (c.in_ok-first.ensures entries 1 flags (named_literal (CopyOf 1 y) false) definability.first.universals
          definability.first.existentials c.requires.posed.are_copied one);
      second = copied_last entries 2 conditions c.in_ok-second.second.items (negative y)
          (c.in_ok-second.ensures entries 2 flags (named_literal (CopyOf 2 y) true) definability.second.universals
          definability.second.existentials c.requires.posed.are_copied negated);
    }
