use Rattle.std.proofs.Common.{is_none, ap, ◌∙◌}
use Rattle.rup_core.specs.Proving.{with_lines}
use Rattle.rup_core.proofs.JudgedLines.{line_derives, none_said}
use Rattle.rup_core.proofs.proving.is_derived.Goals as goal

pub returns-clause-answer : goal.returns-clause-answer
returns-clause-answer g c =
    none_said c.in_ok-fault.field-0 c.is_none.result c.is_none.ensures
    ∙ ap is_none c.in_ok-fault.ensures.fault ∙ line_derives (with_lines
    (g.B.Base.clauses c.args.base.now) c.args.store.now) c.args.lits.now c.args.hints.now
