-- From what the search and the exports answer to a verdict's output.
use Rattle.std.proofs.Common.{◌≡◌, ◌∙◌, ◌-◌, ◌≤◌, ℕ, refl, ap, arith, List, Result, Ok, Err}
use Rattle.dq_lits.specs.Formula.{Dqbf}
use Rattle.aig_graph.specs.declared.nodes.Node.{Node}
use Rattle.aig_graph.specs.Graph.{AigGraph}
use Rattle.circuit_cnf.specs.Shown.{ShownOutputsDecide}
use Rattle.hint_log.specs.Deciding.{IsUndecided}
use Rattle.hint_log.specs.Entries.{ProofLog, rounds_of, steps_of}
use Rattle.hint_log.specs.ProductiveLog.{IsProductiveLog}
use Rattle.hint_log.specs.declared.stops.Stop.{Stop}
use Rattle.cert_export.specs.ExportedCircuit.{IsDecidedTrue}
use Rattle.repair_loop.specs.Searching.{IsShownTrue as IsFoundTrue}
use Rattle.repair_loop.specs.Stopping.{IsStoppedAtLimit}
use Rattle.verdict_texts.specs.declared.forms.Form.{Form}
use Rattle.dq_verdicts.specs.Outputs.{IsVerdictOutput}
use Rattle.verdict_texts.specs.Verdicts.{Verdict, verdict_text, verdict_status}
use Rattle.verdict_texts.specs.Shown.{unknown_by}
use Rattle.dq_verdicts.specs.declared.verdicts.Decision.{Decision}
use Rattle.dq_verdicts.specs.declared.verdicts.Decision.TheVariants.{Shown, Refuted}
use Rattle.dq_runs.specs.Printed.{Printed}
use Rattle.dq_runs.specs.declared.outputs.Output.{Output}

abbrev decided_id : Result Decision Stop → ℕ
decided_id (Ok (Shown id)) = id
decided_id (Ok (Refuted id)) = id
decided_id (Err _) = 0

pub same_shown : (id other : ℕ) → ◌≡◌ {A = Result Decision Stop} (Ok (Shown id)) (Ok (Shown other)) → id ≡ other
same_shown id other same = ap decided_id same

pub same_refuted : (id other : ℕ) → ◌≡◌ {A = Result Decision Stop} (Ok (Refuted id)) (Ok (Refuted other)) → id ≡ other
same_refuted id other same = ap decided_id same

-- the loop's last answer decides that the formula is true
pub decided : ShownOutputsDecide → (f : Dqbf) (graph : AigGraph) (nodes : List Node) (log : ProofLog) (id : ℕ) →
    IsFoundTrue f graph nodes log id → IsDecidedTrue f log.entries id
decided law f graph nodes log id s = record {
  clause = s.shown.clause;
  hints = s.shown.hints;
  earlier = s.shown.earlier;
  answered = s.shown.answered;
  last = s.shown.last;
  decides = law f graph nodes s.shown.earlier s.shown.clause s.shown.hints s.shown.shows s.functions.reads_declared;
}

-- a verdict's status with a text
abbrev pub written : Verdict → List ℕ → Printed
written verdict text = record { status = verdict_status verdict; text = text }

-- an output of a verdict's status with a text
pub printed_as : (verdict : Verdict) (status : ℕ) (text said : List ℕ) → status ≡ verdict_status verdict → text ≡ said
    → ◌≡◌ {A = Printed} (record { status = status; text = text })
    (record { status = verdict_status verdict; text = said })
printed_as verdict status text said same is = ap (λ s. record { status = s; text = text }) same ∙ ap
    (written verdict) is

-- where the limit came first
pub unknown : (f : Dqbf) (log : ProofLog) (form : Form) (output : Output) →
    IsProductiveLog f log.entries → IsUndecided f log.entries → IsStoppedAtLimit f log
    → rounds_of log.entries ≤ steps_of log.entries → output.status ≡ 0
    → output.text.items ≡ verdict_text form f (unknown_by log) → IsVerdictOutput f log form output
unknown f log form output productive undecided stopped fewer status text = record {
  verdict = unknown_by log;
  is = record {
    productive = productive;
    shown = record {
      limit = stopped.reached;
      next = stopped.next;
      undecided = undecided;
      rounds_are = refl;
      steps_are = omega (arith, fewer);
    };
  };
  is_printed = ap (λ s. record { status = s; text = output.text.items }) status ∙ ap (written (unknown_by log)) text;
}
