-- From a verdict on two circuits that are told to the page on black boxes.
use Rattle.std.proofs.Common.{◌≡◌, ◌⊎◌, inl, inr, ℕ, List, Option, Some, Ok, arith, subst}
use Rattle.aiger_text.specs.Grammar.{SpellsCircuit}
use Rattle.aiger_text.specs.declared.files.AagFile.{AagFile}
use Rattle.aiger_text.specs.declared.files.ReadCircuit.{ReadCircuit}
use Rattle.box_laws.specs.Designs.{IsOnPage}
use Rattle.headline.specs.BlackBoxes.{AnswersBoxes, Design as PageDesign}
use Rattle.hint_log.specs.Entries.{ProofLog}
use Rattle.pec_front.specs.Boxes.{IsLawfulDesign, PartialDesign}
use Rattle.pec_front.specs.Outputs.{output_functions}
use Rattle.pec_front.specs.Reading.{IsDesignReading}
use Rattle.pec_runs.specs.DesignFiles.{design_line}
use Rattle.pec_runs.specs.declared.designs.ImpFault.TheVariants.{Circuit, Design}
use Rattle.pec_runs.specs.declared.designs.NoDesign.{NoDesign}
use Rattle.pec_runs.specs.declared.designs.NoDesign.TheVariants.{RefusedImp}
use Rattle.verdict_texts.specs.Verdicts.{Verdict, is_false, is_true, is_unknown, verdict_status}
use Rattle.dqsolve_words.specs.Command.{Command, Comparison, pec}
use Rattle.dqsolve_core.specs.ToldCircuits.{AnswersFor, AreDesignTexts, IsCompared, IsSaid, IsTextRefusal, SaysOfBoxes}
use Rattle.dqsolve_core.proofs.OnePage.{IsEither, neither}

-- what the page's law gives
abbrev pub BoxLaw : Type 0
BoxLaw =
    (specification implementation : List ℕ) (file : AagFile) (read : ReadCircuit) (d : PartialDesign) →
    SpellsCircuit specification file → SpellsCircuit implementation read.file →
    IsDesignReading file.circuit read 1 (Ok d) → IsLawfulDesign d →
    (page : PageDesign) × IsOnPage specification implementation d page

not_said : (said : NoDesign) (status : ℕ) → IsEither status → status ≡ (design_line said).status → ⊥
not_said (RefusedImp line (Circuit name)) status (inl is) ends = omega (arith, is, ends)
not_said (RefusedImp line (Circuit name)) status (inr is) ends = omega (arith, is, ends)
not_said (RefusedImp line (Design name)) status (inl is) ends = omega (arith, is, ends)
not_said (RefusedImp line (Design name)) status (inr is) ends = omega (arith, is, ends)
not_said _ status (inl is) ends = omega (arith, is, ends)
not_said _ status (inr is) ends = omega (arith, is, ends)

module _ (specification implementation : List ℕ) (d : PartialDesign) (page : PageDesign)
    (on : IsOnPage specification implementation d page) (status : ℕ) (either : IsEither status) where
  answered : (verdict : Verdict) → SaysOfBoxes d verdict → status ≡ verdict_status verdict →
      AnswersBoxes specification implementation status
  answered (is_true file proof) says ends = record {
    d = page;
    names = on.names;
    specified = on.specified;
    implemented = on.implemented;
    design = on.design;
    fitting = λ _. (output_functions d says.output, on.fit (output_functions d says.output) says.fit);
    none = λ other. absurd (omega (arith, other, ends));
  }
  answered (is_false refutation) says ends = record {
    d = page;
    names = on.names;
    specified = on.specified;
    implemented = on.implemented;
    design = on.design;
    fitting = λ other. absurd (omega (arith, other, ends));
    none = λ _ value fits. says value (on.fit_there value fits);
  }
  answered (is_unknown rounds learned) says ends = absurd (neither status either ends)

pub shows_boxes : BoxLaw → (asked : Option Command) (c : Comparison) (specification implementation : List ℕ)
    (log : ProofLog) (before now : Option (List ℕ)) (status : ℕ) → asked ≡ Some (pec c) → IsEither status →
    ((said : NoDesign) × IsTextRefusal specification implementation said × IsSaid said before now status)
    ⊎ ((d : PartialDesign) × AreDesignTexts specification implementation d × AnswersFor asked d log before now status) →
    AnswersBoxes specification implementation status
shows_boxes law asked c specification implementation log before now status is either (inl (said, refusal, so)) =
    absurd (not_said said status either so.ends_with)
shows_boxes law asked c specification implementation log before now status is either (inr (d, texts, answer)) =
    let compared : IsCompared d log c before now status =
    subst (λ a. AnswersFor a d log before now status) is answer in
    let page = law specification implementation texts.file texts.read d texts.spelled.spec_spelled
    texts.spelled.imp_spelled texts.reading texts.lawful in
    answered specification implementation d page.0 page.1 status either compared.verdict compared.boxes compared.ends_with
