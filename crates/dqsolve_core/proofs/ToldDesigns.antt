-- From what is due to what is shown over two circuits that are told.
use Rattle.std.proofs.Common.{◌≡◌, ◌≢◌, ◌⊎◌, inl, inr, ℕ, ◌≤◌, List, length, Option, Some, Result, Ok, Err, refl, sym, ap, ◌∙◌, subst}
use Rattle.std.specs.Prelude.{IfOk}
use Rattle.aiger_text.specs.CommentLine.{IsCommentLine}
use Rattle.aiger_text.specs.FirstFault.{IsFirstFault}
use Rattle.aiger_text.specs.Grammar.{SpellsCircuit}
use Rattle.aiger_text.specs.declared.faults.AagFault.{AagFault}
use Rattle.aiger_text.specs.declared.files.AagFile.{AagFile}
use Rattle.aiger_text.specs.declared.files.ReadCircuit.{ReadCircuit}
use Rattle.dq_io.specs.Files.{Holding, Holds}
use Rattle.dq_io.specs.State.{FilesState}
use Rattle.dq_lits.specs.Formula.{Dqbf}
use Rattle.dq_lits.specs.declared.memory.Memory.{Memory}
use Rattle.hint_log.specs.Entries.{ProofLog}
use Rattle.dq_runs.specs.Ending.{IsWritten, IsEnd}
use Rattle.dq_runs.specs.FileTexts.{IsShortText}
use Rattle.dq_runs.specs.Printed.{Printed, printed}
use Rattle.dq_runs.specs.Sinks.{SinkState}
use Rattle.dq_runs.specs.declared.outputs.Output.{Output}
use Rattle.verdict_texts.specs.Forms.{plain}
use Rattle.dq_verdicts.specs.Shown.{IsVerdict, IsShown}
use Rattle.verdict_texts.specs.Verdicts.{Verdict, is_true, is_false, is_unknown, printed_verdict}
use Rattle.pec_front.specs.Boxes.{PartialDesign, IsLawfulDesign}
use Rattle.pec_front.specs.Encoding.{design_formula}
use Rattle.pec_front.specs.Formulas.{IsOverLimits}
use Rattle.pec_front.specs.Laws.{FittingBoxesChoose}
use Rattle.pec_front.specs.Outputs.{CertifiedBoxesFit}
use Rattle.pec_runs.specs.DesignFiles.{max_circuit, IsRead, HasFault, IsSpecification, IsImplementation, IsNoDesign, IsDesignFormula, design_line}
use Rattle.pec_runs.specs.Encoded.{IsEncodeDue, printed_formula}
use Rattle.pec_runs.specs.declared.designs.ImpFault.TheVariants.{Circuit, Design}
use Rattle.pec_runs.specs.declared.designs.NoDesign.{NoDesign}
use Rattle.pec_runs.specs.declared.designs.NoDesign.TheVariants.{Unreadable, LongSpec, LongImp, RefusedSpec, RefusedImp}
use Rattle.dqsolve_words.specs.Command.{Circuits, Comparison, Command, pec, encode}
use Rattle.dqsolve_core.specs.Outputs.{IsReported}
use Rattle.dqsolve_core.specs.Report.{ComparisonReport, no_design, compared, printed_comparison}
use Rattle.dqsolve_core.specs.Running.{IsDueForCircuits, IsDue}
use Rattle.dqsolve_core.specs.ToldCircuits.{NamesCircuits, AreCircuitsTold, AreSpelled, AreDesignTexts, IsTextRefusal, IsSaid, SaysOfBoxes, IsCompared, AnswersFor, ComparesTold}
use Rattle.dq_runs.proofs.ToldFiles.{held_long, held_text}

-- what the laws of the encoding give
pub record DesignLaws : Type 0 where
  pub certified : CertifiedBoxesFit
  pub fitting : FittingBoxesChoose

-- ---- what was read of a told file

text_short : (holding : Holding) (bytes text : List ℕ) → holding ≡ Holds bytes
    → IsShortText max_circuit holding text → length bytes ≤ max_circuit
text_short holding bytes text told short =
    subst (λ t. length t ≤ max_circuit) (held_text holding bytes text told short.is) short.short

read_short : (holding : Holding) (bytes : List ℕ) → holding ≡ Holds bytes → IsRead holding → length bytes ≤ max_circuit
read_short holding bytes told (text, short) = text_short holding bytes text told short

fault_short : (holding : Holding) (bytes : List ℕ) (line : ℕ) (name : AagFault) → holding ≡ Holds bytes
    → HasFault holding line name → length bytes ≤ max_circuit
fault_short holding bytes line name told f = text_short holding bytes f.text told f.read

fault_told : (holding : Holding) (bytes : List ℕ) (line : ℕ) (name : AagFault) → holding ≡ Holds bytes
    → HasFault holding line name → IsFirstFault bytes 1 (record { line = line; name = name })
fault_told holding bytes line name told f =
    subst (λ t. IsFirstFault t 1 (record { line = line; name = name }))
    (held_text holding bytes f.text told f.read.is) f.is_first

spelled_told : (holding : Holding) (bytes : List ℕ) (file : AagFile) → holding ≡ Holds bytes
    → IsSpecification holding file → SpellsCircuit bytes file
spelled_told holding bytes file told s =
    subst (λ t. SpellsCircuit t file) (held_text holding bytes s.text told s.read.is) s.spelled

circuits_told : (one two : Holding) (spec imp : List ℕ) (file : AagFile) (read : ReadCircuit) → one ≡ Holds spec
    → two ≡ Holds imp → IsSpecification one file → IsImplementation two read → AreSpelled spec imp file read
circuits_told one two spec imp file read spec-told imp-told s i =
    let same = held_text two imp i.text imp-told i.read.is in
    record {
      spec_spelled = spelled_told one spec file spec-told s;
      imp_spelled = subst (λ t. SpellsCircuit t read.file) same i.spelled;
      comment = subst (λ t. IsCommentLine t 1 read.file.comment read.comment_line) same i.comment;
    }

-- ---- a refusal

module _ (files now : FilesState) (c : Circuits) (spec imp : List ℕ)
    (told : AreCircuitsTold files.held c spec imp) where
  refusal_told : (said : NoDesign) → (said ≢ Unreadable)
      → IsNoDesign files now c.specification c.implementation said → IsTextRefusal spec imp said
  refusal_told Unreadable other is = absurd (other refl)
  refusal_told LongSpec other is =
      held_long max_circuit (files.held c.specification) spec told.spec_held is.0.long
  refusal_told LongImp other is = (
    read_short (files.held c.specification) spec told.spec_held is.0,
    held_long max_circuit (files.held c.implementation) imp told.imp_held is.1.long,
  )
  refusal_told (RefusedSpec line name) other is = (
    (
      fault_short (files.held c.specification) spec line name told.spec_held is.0,
      read_short (files.held c.implementation) imp told.imp_held is.1,
    ),
    fault_told (files.held c.specification) spec line name told.spec_held is.0,
  )
  refusal_told (RefusedImp line (Circuit name)) other is =
      let (file, s) = is.0 in (
        (
          text_short (files.held c.specification) spec s.text told.spec_held s.read,
          fault_short (files.held c.implementation) imp line name told.imp_held is.1,
        ),
        (file, spelled_told (files.held c.specification) spec file told.spec_held s),
        fault_told (files.held c.implementation) imp line name told.imp_held is.1,
      )
  refusal_told (RefusedImp line (Design name)) other is =
      let r = is.0 in (
        (
          text_short (files.held c.specification) spec r.spec_is.text told.spec_held r.spec_is.read,
          text_short (files.held c.implementation) imp r.imp_is.text told.imp_held r.imp_is.read,
        ),
        r.specification,
        r.implementation,
        circuits_told (files.held c.specification) (files.held c.implementation) spec imp r.specification
            r.implementation told.spec_held told.imp_held r.spec_is r.imp_is,
        r.refused,
      )

  said_told : (sink sink_now : SinkState) (status : ℕ) (said : NoDesign)
      → IsNoDesign files now c.specification c.implementation said
      → IsWritten (design_line said) sink sink_now status → status ≢ 3
      → (s : NoDesign) × IsTextRefusal spec imp s × IsSaid s sink.taken sink_now.taken status
  said_told sink sink_now status said is w other = (
    said,
    refusal_told said (λ unreadable. other (w.ends_with ∙ ap (λ s. (design_line s).status) unreadable)) is,
    record { ends_with = w.ends_with; written = w.taken },
  )

  -- ---- a design

  pub record IsDesignOf (f : Dqbf) : Type 0 where
    pub d : PartialDesign
    pub texts : AreDesignTexts spec imp d
    pub same : f ≡ design_formula d

  design_told : (f : Dqbf) → IsDesignFormula (files.held c.specification) (files.held c.implementation) f
      → IsDesignOf f
  design_told f is =
      let (d, reading, lawful, (same, within)) = is.reading in
      record {
        d = d;
        texts = record {
          short = (
            text_short (files.held c.specification) spec is.spec_is.text told.spec_held is.spec_is.read,
            text_short (files.held c.implementation) imp is.imp_is.text told.imp_held is.imp_is.read,
          );
          file = is.specification;
          read = is.implementation;
          spelled = circuits_told (files.held c.specification) (files.held c.implementation) spec imp is.specification
              is.implementation told.spec_held told.imp_held is.spec_is is.imp_is;
          reading = reading;
          lawful = lawful;
          within = λ over. within (subst IsOverLimits (sym same) over);
        };
        same = same;
      }

-- what a verdict says of the boxes
says : DesignLaws → (d : PartialDesign) → IsLawfulDesign d → (log : ProofLog) (verdict : Verdict)
    → IsShown (design_formula d) (design_formula d) log plain verdict → SaysOfBoxes d verdict
says laws d lawful log (is_true file proof) shown =
    let proved = shown.circuit in
    let (output, outputs, fit) = laws.certified d file.circuit file.symbols lawful.is_design lawful.acyclic
    lawful.boxes lawful.all_driven proved.netlist proved.complete proved.skolem in
    record { skolem = proved.skolem; output = output; outputs = outputs; fit = fit }
says laws d lawful log (is_false refutation) shown = λ functions fits.
    let (choice, solves) = laws.fitting d functions lawful.is_design lawful.acyclic lawful.boxes fits in
    shown.false_formula choice solves
says laws d lawful log (is_unknown rounds learned) shown = tt

compared_told : DesignLaws → (d : PartialDesign) → IsLawfulDesign d → (log : ProofLog) (c : Comparison)
    (verdict : Verdict) (sink sink_now : SinkState) (status : ℕ) → log.limit ≡ c.steps
    → IsVerdict (design_formula d) (design_formula d) log plain verdict
    → IsWritten (printed_verdict plain (design_formula d) verdict) sink sink_now status
    → IsCompared d log c sink.taken sink_now.taken status
compared_told laws d lawful log c verdict sink sink_now status limit is w = record {
  verdict = verdict;
  limit = limit;
  is = is;
  boxes = says laws d lawful log verdict is.shown;
  ends_with = w.ends_with;
  written = w.taken;
}

-- ---- the answers

-- what is shown of a command over these texts
abbrev Answer : Option Command → List ℕ → List ℕ → ProofLog → SinkState → SinkState → ℕ → Type 0
Answer asked spec imp log sink sink_now status =
    ((said : NoDesign) × IsTextRefusal spec imp said × IsSaid said sink.taken sink_now.taken status)
    ⊎ ((d : PartialDesign) × AreDesignTexts spec imp d
    × AnswersFor asked d log sink.taken sink_now.taken status)

comparison_told : DesignLaws → (files now : FilesState) (log : ProofLog) (c : Comparison) (spec imp : List ℕ)
    → AreCircuitsTold files.held c.circuits spec imp → (sink sink_now : SinkState) (status : ℕ)
    → (report : ComparisonReport) → IsDueForCircuits files now log c report
    → IsWritten (printed_comparison report) sink sink_now status → status ≢ 3
    → Answer (Some (pec c)) spec imp log sink sink_now status
comparison_told laws files now log c spec imp told sink sink_now status (no_design said) due w other =
    inl (said_told files now c.circuits spec imp told sink sink_now status said due w other)
comparison_told laws files now log c spec imp told sink sink_now status (compared f verdict)
    (is, limit, shown, picked) w other =
    let design = design_told files now c.circuits spec imp told f is in
    inr (
      design.d,
      design.texts,
      compared_told laws design.d design.texts.lawful log c verdict sink sink_now status limit
          (subst (λ g. IsVerdict g g log plain verdict) design.same shown)
          (subst (λ g. IsWritten (printed_verdict plain g verdict) sink sink_now status) design.same w),
    )

encode_told : (files now : FilesState) (log : ProofLog) (c : Circuits) (spec imp : List ℕ)
    → AreCircuitsTold files.held c spec imp → (sink sink_now : SinkState) (status : ℕ) (p : Printed)
    → IsEncodeDue files now c.specification c.implementation p → IsWritten p sink sink_now status → status ≢ 3
    → Answer (Some (encode c)) spec imp log sink sink_now status
encode_told files now log c spec imp told sink sink_now status p (inl (said, is, same)) w other =
    inl (said_told files now c spec imp told sink sink_now status said is
    (subst (λ q. IsWritten q sink sink_now status) same w) other)
encode_told files now log c spec imp told sink sink_now status p (inr (f, is, picked, same)) w other =
    let design = design_told files now c spec imp told f is in
    let written = subst (λ g. IsWritten (printed_formula g) sink sink_now status) design.same
    (subst (λ q. IsWritten q sink sink_now status) same w) in
    inr (
      design.d,
      design.texts,
      record { ends_with = written.ends_with; written = written.taken },
    )

due_told : DesignLaws → (files now : FilesState) (asked : Option Command) (log : ProofLog) (c : Circuits)
    (spec imp : List ℕ) → NamesCircuits asked c → AreCircuitsTold files.held c spec imp
    → (sink sink_now : SinkState) (status : ℕ) (p : Printed) → IsDue files now log asked p
    → IsWritten p sink sink_now status → status ≢ 3 → Answer asked spec imp log sink sink_now status
due_told laws files now asked log c spec imp (inl is) told sink sink_now status p due w other =
    subst (λ a. Answer a spec imp log sink sink_now status) (sym is)
    (encode_told files now log c spec imp told sink sink_now status p (subst (λ a. IsDue files now log a p) is due)
    w other)
due_told laws files now asked log c spec imp (inr (k, is, names)) told sink sink_now status p due w other =
    let (report, is_due, same) = subst (λ a. IsDue files now log a p) is due in
    subst (λ a. Answer a spec imp log sink sink_now status) (sym is)
    (comparison_told laws files now log k spec imp
    (subst (λ circuits. AreCircuitsTold files.held circuits spec imp) (sym names) told) sink sink_now status report
    is_due (subst (λ q. IsWritten q sink sink_now status) same w) other)

pub compares_told : DesignLaws → (files now : FilesState) (asked : Option Command) (log : ProofLog)
    (sink sink_now : SinkState) (r : Result Output Memory) (status : ℕ)
    → IfOk r (IsReported files now asked log) → IsEnd r sink sink_now status
    → ComparesTold files asked log sink sink_now status
compares_told laws files now asked log sink sink_now (Ok output) status o (inl w) = record {
  answered = λ c spec imp names told three four five.
      due_told laws files now asked log c spec imp names told sink sink_now status (printed output) o.due w three;
}
compares_told laws files now asked log sink sink_now (Ok output) status o (inr cut) = record {
  answered = λ c spec imp names told three four five. absurd (four cut.ends_with);
}
compares_told laws files now asked log sink sink_now (Err _) status o unwritten = record {
  answered = λ c spec imp names told three four five. absurd (five unwritten.ends_with);
}
