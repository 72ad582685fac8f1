use Rattle.std.proofs.Common.{sym, ◌∙◌}
use Rattle.rup_core.specs.Proving.{ProofState}
use Rattle.rup_core.proofs.JudgedLines.{gone_state, none_said}
use Rattle.rup_core.proofs.proving.Proving.gone.Goals as goal

pub returns-then-is_going-clause-run : goal.returns-then-is_going-clause-run
returns-then-is_going-clause-run c live behind =
    let i = c.self.inside in
    let before : ProofState = record {
      finished = i.finished;
      lines = i.store;
      fault = i.underived;
      marks = i.trail.variables;
      line = record { trues = i.trail.trues; progress = i.progress };
    } in
    gone_state live before c.args.self.now c.forget.new.store c.args.ids.now c.self.view_is
    (sym (none_said i.underived c.is_none-is_going.result c.is_none-is_going.ensures) ∙ c.if-is_going.true)
    c.forget.ensures behind
