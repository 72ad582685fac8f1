use Rattle.std.proofs.Common.{not, sym, ap, ◌∙◌}
use Rattle.std.proofs.lemmas.Result.{on_ok_weaker}
use Rattle.dq_lits.specs.Derivation.{ProofStep}
use Rattle.rup_core.specs.Assigned.{Assigned}
use Rattle.rup_core.specs.Proving.{ProofState}
use Rattle.rup_core.proofs.JudgedLines.{line_state}
use Rattle.rup_core.proofs.proving.Proving.line.Goals as goal

pub returns-clause-run : goal.returns-clause-run
returns-clause-run g c =
    let i = c.self.inside in
    let state : Assigned → ProofState = λ t. record {
      finished = i.finished;
      lines = i.store;
      fault = i.underived;
      marks = t.variables;
      line = record { trues = t.trues; progress = i.progress };
    } in
    let step : ProofStep = record { id = c.args.id; literals = c.args.lits.now; hints = c.args.hints.now } in
    let view = ap state c.in_ok-is_derived.ensures.same ∙ c.self.view_is ∙ c.rest.ensures in
    on_ok_weaker c.add.result
    (line_state (g.B.Base.clauses c.args.base.now) (state c.is_derived.new.trail) c.args.self.now
    c.in_ok-is_derived.is_derived step view (ap not (sym c.if-is_some.ensures))
    c.in_ok-is_derived.ensures.answer c.requires.above c.add.new.self)
    c.add.ensures.ok
