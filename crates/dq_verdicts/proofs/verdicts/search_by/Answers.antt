use Rattle.std.proofs.Common.{Ok, ap, subst}
use Rattle.cert_export.specs.ExportedCircuit.{IsDecidedTrue}
use Rattle.repair_loop.specs.Searching.{IsShownFalse}
use Rattle.aig_graph.specs.Outputs.{outputs_of}
use Rattle.dq_verdicts.proofs.ShownVerdicts.{decided, same_shown, same_refuted}
use Rattle.dq_verdicts.proofs.verdicts.search_by.Goals as goal

pub returns-in-True-clause-shown : goal.returns-in-True-clause-shown
returns-in-True-clause-shown g c id same =
    subst (IsDecidedTrue c.args.f.now c.decide.new.log.entries) (same_shown c.in-True.id id same)
    (decided c.shown_outputs_decide.ensures c.args.f.now c.decide.new.graph c.in-True.field-0 c.decide.new.log
    c.in-True.id
    (c.in_ok-id.ensures.shown_true c.in-True.field-0 c.in-True.id (ap Ok c.in-True.is)))

pub returns-clause-refuted : goal.returns-clause-refuted
returns-clause-refuted g c id same =
    subst (IsShownFalse c.args.f.now c.decide.new.log) (same_refuted c.in-False.id id same)
    (c.in_ok-id.ensures.shown_false c.in-False.id (ap Ok c.in-False.is))

pub returns-in-True-clause-is_true : goal.returns-in-True-clause-is_true
returns-in-True-clause-is_true g c id same = c.skolem_functions_show_true.ensures c.args.f.now
    (outputs_of c.args.f.now c.decide.new.graph c.in-True.field-0)
    (c.in_ok-id.ensures.shown_true c.in-True.field-0 c.in-True.id (ap Ok c.in-True.is)).functions
