-- The texts of two circuits have one answer.
use Rattle.std.proofs.Common.{◌≡◌, inl, inr, ℕ, ◌<◌, ◌≤◌, Option, List, length, Ok, Err, refl, sym, ◌∙◌, ap, subst, arith}
use Rattle.aiger_text.specs.CommentLine.{IsCommentLine}
use Rattle.aiger_text.specs.FirstFault.{IsFirstFault}
use Rattle.aiger_text.specs.Grammar.{SpellsCircuit}
use Rattle.aiger_text.specs.Scan.{LineFault}
use Rattle.aiger_text.specs.declared.faults.AagFault.{AagFault}
use Rattle.aiger_text.specs.declared.files.AagFile.{AagFile}
use Rattle.aiger_text.specs.declared.files.ReadCircuit.{ReadCircuit}
use Rattle.circuit_plain.specs.Netlist.{Netlist}
use Rattle.pec_front.specs.Boxes.{PartialDesign}
use Rattle.pec_front.specs.Encoding.{design_formula}
use Rattle.pec_front.specs.Formulas.{IsOverLimits, IsFormulaReading}
use Rattle.pec_front.specs.Reading.{IsDesignReading, boxes_of, comment_of}
use Rattle.pec_front.specs.declared.faults.PecFault.{PecFault}
use Rattle.pec_front.specs.declared.faults.PecStop.TheVariants.{Refused}
use Rattle.pec_runs.specs.DesignFiles.{max_circuit}
use Rattle.pec_runs.specs.declared.designs.ImpFault.{ImpFault}
use Rattle.pec_runs.specs.declared.designs.ImpFault.TheVariants.{Circuit, Design}
use Rattle.pec_runs.specs.declared.designs.NoDesign.{NoDesign}
use Rattle.pec_runs.specs.declared.designs.NoDesign.TheVariants.{Unreadable, LongSpec, LongImp, RefusedSpec, RefusedImp}
use Rattle.dqsolve_core.specs.OneAnswer.{HaveOneAnswer}
use Rattle.dqsolve_core.specs.ToldCircuits.{AreShort, AreSpelled, AreDesignTexts, IsTextRefusal}
use Rattle.dqsolve_core.proofs.CommentLines.{one_comment_line}
use Rattle.dqsolve_core.proofs.OneReading.{SameRefusal, one_design_read, read_or_refused, one_refusal_read}

-- what the law of the circuits' grammar gives
pub record CircuitLaw : Type 0 where
  pub unique : (text : List ℕ) (f g : AagFile) → SpellsCircuit text f → SpellsCircuit text g → f ≡ g
  pub never_both : (text : List ℕ) (first : ℕ) (file : AagFile) (fault : LineFault) → SpellsCircuit text file
      → ¬ IsFirstFault text first fault
  pub one_fault : (text : List ℕ) (first : ℕ) (f g : LineFault) → IsFirstFault text first f
      → IsFirstFault text first g → f ≡ g

-- ---- over two circuits

formula_or_refused : (specification : Netlist) (imp : ReadCircuit) (d : PartialDesign) (line : ℕ) (name : PecFault)
    → IsDesignReading specification imp 1 (Ok d) → ¬ IsOverLimits (design_formula d)
    → IsFormulaReading specification imp 1 (Err (Refused line name)) → ⊥
formula_or_refused specification imp d line name one within (inl two) =
    let comment = comment_of imp.file.comment imp.comment_line in
    read_or_refused specification imp.file.circuit comment (boxes_of specification imp.file.circuit comment 1) d line
    name one two
formula_or_refused specification imp d line name one within (inr (e, two, (at, is, over))) =
    let comment = comment_of imp.file.comment imp.comment_line in
    let same = one_design_read specification imp.file.circuit comment
    (boxes_of specification imp.file.circuit comment 1) e d two one in
    within (subst (λ design. IsOverLimits (design_formula design)) same over)

one_formula_refusal : (specification : Netlist) (imp : ReadCircuit) (k l : ℕ) (a b : PecFault)
    → IsFormulaReading specification imp 1 (Err (Refused k a))
    → IsFormulaReading specification imp 1 (Err (Refused l b)) → SameRefusal k l a b
one_formula_refusal specification imp k l a b (inl one) (inl two) =
    let comment = comment_of imp.file.comment imp.comment_line in
    one_refusal_read specification imp.file.circuit comment (boxes_of specification imp.file.circuit comment 1) k l a b
    one two
one_formula_refusal specification imp k l a b (inl one) (inr (d, two, rest)) =
    let comment = comment_of imp.file.comment imp.comment_line in
    absurd (read_or_refused specification imp.file.circuit comment
    (boxes_of specification imp.file.circuit comment 1) d k a two one)
one_formula_refusal specification imp k l a b (inr (d, one, rest)) (inl two) =
    let comment = comment_of imp.file.comment imp.comment_line in
    absurd (read_or_refused specification imp.file.circuit comment
    (boxes_of specification imp.file.circuit comment 1) d l b one two)
one_formula_refusal specification imp k l a b (inr (d, one, (at, is, over))) (inr (e, two, (at2, is2, over2))) =
    record {
      line = at ∙ sym at2;
      name = is ∙ sym is2;
    }

-- ---- over two texts

read_same : (a b : ReadCircuit) → a.file ≡ b.file → a.comment_line ≡ b.comment_line → a ≡ b
read_same a b files lines =
    ap (λ (file : AagFile). record { file = file; comment_line = a.comment_line }) files
    ∙ ap (λ (line : Option ℕ). record { file = b.file; comment_line = line }) lines

module _ (law : CircuitLaw) (spec imp : List ℕ) where
  one_pair : (f g : AagFile) (r s : ReadCircuit) → AreSpelled spec imp f r → AreSpelled spec imp g s
      → (f ≡ g) × (r ≡ s)
  one_pair f g r s one two =
      let same = law.unique imp r.file s.file one.imp_spelled two.imp_spelled in
      let line = one_comment_line imp 1 s.file.comment r.comment_line s.comment_line
      (subst (λ (file : AagFile). IsCommentLine imp 1 file.comment r.comment_line) same one.comment) two.comment in
      (law.unique spec f g one.spec_spelled two.spec_spelled, read_same r s same line)

  designs_same : (d e : PartialDesign) → AreDesignTexts spec imp d → AreDesignTexts spec imp e → d ≡ e
  designs_same d e one two =
      let (f, r) = one_pair one.file two.file one.read two.read one.spelled two.spelled in
      let moved = subst (λ read. IsDesignReading two.file.circuit read 1 (Ok d)) r
      (subst (λ (file : AagFile). IsDesignReading file.circuit one.read 1 (Ok d)) f one.reading) in
      let comment = comment_of two.read.file.comment two.read.comment_line in
      one_design_read two.file.circuit two.read.file.circuit comment
      (boxes_of two.file.circuit two.read.file.circuit comment 1) d e moved two.reading

  -- a design is never refused
  not_refused : (said : NoDesign) (d : PartialDesign) → IsTextRefusal spec imp said → AreDesignTexts spec imp d → ⊥
  not_refused Unreadable d is t = is
  not_refused LongSpec d is t = let short = t.short.0 in omega (arith, is, short)
  not_refused LongImp d is t =
      let short = t.short.1 in
      let long = is.1 in omega (arith, long, short)
  not_refused (RefusedSpec line name) d is t =
      law.never_both spec 1 t.file (record { line = line; name = name }) t.spelled.spec_spelled is.1
  not_refused (RefusedImp line (Circuit name)) d is t =
      law.never_both imp 1 t.read.file (record { line = line; name = name }) t.spelled.imp_spelled is.2
  not_refused (RefusedImp line (Design name)) d (short, file, read, spelled, refused) t =
      let (f, r) = one_pair t.file file t.read read t.spelled spelled in
      let moved = subst (λ (it : ReadCircuit). IsDesignReading file.circuit it 1 (Ok d)) r
      (subst (λ (it : AagFile). IsDesignReading it.circuit t.read 1 (Ok d)) f t.reading) in
      formula_or_refused file.circuit read d line name moved t.within refused

  -- ---- two refusals

  spec_fault : (k l : ℕ) (a b : AagFault) → IsFirstFault spec 1 (record { line = k; name = a })
      → IsFirstFault spec 1 (record { line = l; name = b }) → RefusedSpec k a ≡ RefusedSpec l b
  spec_fault k l a b one two =
      let same = law.one_fault spec 1 (record { line = k; name = a }) (record { line = l; name = b }) one two in
      ap (λ (f : LineFault). RefusedSpec f.line f.name) same

  imp_fault : (k l : ℕ) (a b : AagFault) → IsFirstFault imp 1 (record { line = k; name = a })
      → IsFirstFault imp 1 (record { line = l; name = b })
      → RefusedImp k (Circuit a) ≡ RefusedImp l (Circuit b)
  imp_fault k l a b one two =
      let same = law.one_fault imp 1 (record { line = k; name = a }) (record { line = l; name = b }) one two in
      ap (λ (f : LineFault). RefusedImp f.line (Circuit f.name)) same

  design_fault : (k l : ℕ) (a b : PecFault) → SameRefusal k l a b → RefusedImp k (Design a) ≡ RefusedImp l (Design b)
  design_fault k l a b same =
      ap (λ line. RefusedImp line (Design a)) same.line ∙ ap (λ name. RefusedImp l (Design name)) same.name

  long_or_short : length spec ≤ max_circuit → max_circuit < length spec → ⊥
  long_or_short short long = omega (arith, short, long)

  imp_long_or_short : length imp ≤ max_circuit → max_circuit < length imp → ⊥
  imp_long_or_short short long = omega (arith, short, long)

  -- which text is short, and which circuit is spelled, where an implementation is refused
  refused_imp_short : (line : ℕ) (name : ImpFault) → IsTextRefusal spec imp (RefusedImp line name) → AreShort spec imp
  refused_imp_short line (Circuit name) is = is.0
  refused_imp_short line (Design name) is = is.0

  refused_imp_spec : (line : ℕ) (name : ImpFault) → IsTextRefusal spec imp (RefusedImp line name)
      → (file : AagFile) × SpellsCircuit spec file
  refused_imp_spec line (Circuit name) is = is.1
  refused_imp_spec line (Design name) (short, file, read, spelled, refused) = (file, spelled.spec_spelled)

  spec_or_imp : (k l : ℕ) (a : AagFault) (b : ImpFault) → IsTextRefusal spec imp (RefusedSpec k a)
      → IsTextRefusal spec imp (RefusedImp l b) → ⊥
  spec_or_imp k l a b one two =
      let (file, spelled) = refused_imp_spec l b two in
      law.never_both spec 1 file (record { line = k; name = a }) spelled one.1

  imps_same : (k l : ℕ) (a b : ImpFault) → IsTextRefusal spec imp (RefusedImp k a)
      → IsTextRefusal spec imp (RefusedImp l b) → RefusedImp k a ≡ RefusedImp l b
  imps_same k l (Circuit a) (Circuit b) one two = imp_fault k l a b one.2 two.2
  imps_same k l (Circuit a) (Design b) one (short, file, read, spelled, refused) =
      absurd (law.never_both imp 1 read.file (record { line = k; name = a }) spelled.imp_spelled one.2)
  imps_same k l (Design a) (Circuit b) (short, file, read, spelled, refused) two =
      absurd (law.never_both imp 1 read.file (record { line = l; name = b }) spelled.imp_spelled two.2)
  imps_same k l (Design a) (Design b) (short, file, read, spelled, refused) (short2, file2, read2, spelled2, refused2) =
      let (f, r) = one_pair file file2 read read2 spelled spelled2 in
      let moved = subst (λ (it : ReadCircuit). IsFormulaReading file2.circuit it 1 (Err (Refused k a))) r
      (subst (λ (it : AagFile). IsFormulaReading it.circuit read 1 (Err (Refused k a))) f refused) in
      design_fault k l a b (one_formula_refusal file2.circuit read2 k l a b moved refused2)

  refusals_same : (a b : NoDesign) → IsTextRefusal spec imp a → IsTextRefusal spec imp b → a ≡ b
  refusals_same Unreadable b one two = absurd one
  refusals_same LongSpec LongSpec one two = refl
  refusals_same LongSpec LongImp one two = absurd (long_or_short two.0 one)
  refusals_same LongSpec (RefusedSpec l b) one two = absurd (long_or_short two.0.0 one)
  refusals_same LongSpec (RefusedImp l b) one two = absurd (long_or_short (refused_imp_short l b two).0 one)
  refusals_same LongImp LongSpec one two = absurd (long_or_short one.0 two)
  refusals_same LongImp LongImp one two = refl
  refusals_same LongImp (RefusedSpec l b) one two = absurd (imp_long_or_short two.0.1 one.1)
  refusals_same LongImp (RefusedImp l b) one two = absurd (imp_long_or_short (refused_imp_short l b two).1 one.1)
  refusals_same (RefusedSpec k a) LongSpec one two = absurd (long_or_short one.0.0 two)
  refusals_same (RefusedSpec k a) LongImp one two = absurd (imp_long_or_short one.0.1 two.1)
  refusals_same (RefusedSpec k a) (RefusedSpec l b) one two = spec_fault k l a b one.1 two.1
  refusals_same (RefusedSpec k a) (RefusedImp l b) one two = absurd (spec_or_imp k l a b one two)
  refusals_same (RefusedImp k a) LongSpec one two = absurd (long_or_short (refused_imp_short k a one).0 two)
  refusals_same (RefusedImp k a) LongImp one two = absurd (imp_long_or_short (refused_imp_short k a one).1 two.1)
  refusals_same (RefusedImp k a) (RefusedSpec l b) one two = absurd (spec_or_imp l k b a two one)
  refusals_same (RefusedImp k a) (RefusedImp l b) one two = imps_same k l a b one two
  refusals_same _ Unreadable one two = absurd two

  pub one_answer : HaveOneAnswer spec imp
  one_answer = record {
    one_refusal = refusals_same;
    one_design = designs_same;
    never_both = not_refused;
  }
