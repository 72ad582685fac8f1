-- What is read of one file behind another.
use Rattle.std.proofs.Common.{◌≡◌, inl, inr, ℕ, List, Result, Ok, Err, sym, ◌∙◌, ap, subst, arith}
use Rattle.std.specs.Prelude.{IfOk}
use Rattle.aiger_text.specs.CommentLine.{IsCommentLine}
use Rattle.aiger_text.specs.Grammar.{SpellsCircuit}
use Rattle.aiger_text.specs.declared.files.AagFile.{AagFile}
use Rattle.aiger_text.specs.declared.files.ReadCircuit.{ReadCircuit}
use Rattle.dq_io.specs.Causes.{next_count, Rose}
use Rattle.dq_io.specs.Files.{Absent}
use Rattle.dq_io.specs.State.{FilesState}
use Rattle.dq_lits.specs.Formula.{Dqbf}
use Rattle.dq_lits.specs.declared.memory.Memory.{Memory as OutOfMemory}
use Rattle.dq_runs.specs.FileTexts.{IsLong, IsShortText, IsUnreadable, IsTooLong, PickedOnce, PickedTwice}
use Rattle.dq_runs.specs.Printed.{printed}
use Rattle.dq_runs.specs.declared.outputs.Output.{Output}
use Rattle.dq_runs.proofs.SaidFormulas.{status_of}
use Rattle.pec_runs.specs.DesignFiles.{max_circuit, IsNoDesign, IsDesignFormula, IsDesignRead}
use Rattle.pec_runs.specs.Encoded.{IsEncodeOutput, printed_formula}
use Rattle.pec_runs.specs.DesignTexts.{IsTextReading, spec_spelled, spec_faulty, no_room_for_spec, IsImplementationReading, imp_spelled, imp_faulty, no_room_for_imp, IsCircuitReading, circuits_make, design_refused, no_room_for_design}
use Rattle.pec_runs.specs.TextFiles.{IsStopped, IsReadBehind}
use Rattle.pec_runs.specs.declared.designs.DesignStop.{DesignStop}
use Rattle.pec_runs.specs.declared.designs.DesignStop.TheVariants.{Memory, Said}
use Rattle.pec_runs.specs.declared.designs.NoDesign.TheVariants.{LongImp}

-- the first file was read between these states
pub record Passes (before now : FilesState) : Type 0 where
  pub held : now.held ≡ before.held
  pub reliable : now.reliable ≡ before.reliable
  pub picked : PickedOnce before now
  pub unfaulted : now.faults ≡ before.faults

twice : (before mid now : FilesState) → Passes before mid → PickedOnce mid now → PickedTwice before now
twice before mid now passes once = once ∙ ap next_count passes.picked

unreadable-behind : (before mid now : FilesState) (name : List ℕ) → Passes before mid → IsUnreadable mid now name
    → IsUnreadable before now name
unreadable-behind before mid now name passes u = record {
  counted = subst (λ n. Rose n now.faults) passes.unfaulted u.counted;
  absent = λ told. subst (λ held. held name ≡ Absent) passes.held (u.absent (passes.reliable ∙ told));
}

long-behind : (before mid now : FilesState) (name : List ℕ) → Passes before mid → IsTooLong max_circuit mid now name
    → IsTooLong max_circuit before now name
long-behind before mid now name passes l = record {
  long = subst (λ held. IsLong max_circuit (held name)) passes.held l.long;
  given = l.given;
}

-- the second file stops it
pub imp-stopped : (before mid now : FilesState) (spec imp : List ℕ) (text : List ℕ) (stop : DesignStop)
    → Passes before mid → IsShortText max_circuit (before.held spec) text
    → IsStopped mid now imp LongImp stop → IsDesignRead before now spec imp (Err stop)
imp-stopped before mid now spec imp text Memory passes short is = tt
imp-stopped before mid now spec imp text (Said said) passes short (inl u) =
    subst (IsNoDesign before now spec imp) (sym u.0)
    (inr ((text, short), unreadable-behind before mid now imp passes u.1, twice before mid now passes u.2))
imp-stopped before mid now spec imp text (Said said) passes short (inr l) =
    subst (IsNoDesign before now spec imp) (sym l.0)
    ((text, short), long-behind before mid now imp passes l.1, twice before mid now passes l.2)

-- both were read
module _ (before now : FilesState) (spec imp spec-text imp-text : List ℕ)
    (spec-read : IsShortText max_circuit (before.held spec) spec-text)
    (imp-read : IsShortText max_circuit (before.held imp) imp-text) (both : PickedTwice before now) where
  circuits-read : (file : AagFile) → SpellsCircuit spec-text file → (read : ReadCircuit)
      → SpellsCircuit imp-text read.file → IsCommentLine imp-text 1 read.file.comment read.comment_line
      → (r : Result Dqbf DesignStop) → IsCircuitReading file.circuit read r → IsDesignRead before now spec imp r
  circuits-read file spelled read imp-spells comment r (circuits_make f is) = (
    record {
      specification = file;
      implementation = read;
      spec_is = record { text = spec-text; read = spec-read; spelled = spelled };
      imp_is = record { text = imp-text; read = imp-read; spelled = imp-spells; comment = comment };
      reading = is;
    },
    both,
  )
  circuits-read file spelled read imp-spells comment r (design_refused line name is) = (
    record {
      specification = file;
      implementation = read;
      spec_is = record { text = spec-text; read = spec-read; spelled = spelled };
      imp_is = record { text = imp-text; read = imp-read; spelled = imp-spells; comment = comment };
      refused = is;
    },
    both,
  )
  circuits-read file spelled read imp-spells comment r no_room_for_design = tt

  imp-read-too : (file : AagFile) → SpellsCircuit spec-text file → (r : Result Dqbf DesignStop)
      → IsImplementationReading file.circuit imp-text r → IsDesignRead before now spec imp r
  imp-read-too file spelled r (imp_spelled s read imp-spells comment is) =
      circuits-read file spelled read imp-spells comment s is
  imp-read-too file spelled r (imp_faulty line name is) = (
    (file, record { text = spec-text; read = spec-read; spelled = spelled }),
    record { text = imp-text; read = imp-read; is_first = is },
    both,
  )
  imp-read-too file spelled r no_room_for_imp = tt

  pub texts-read : (r : Result Dqbf DesignStop) → IsTextReading spec-text imp-text r
      → IsDesignRead before now spec imp r
  texts-read r (spec_spelled s file spelled is) = imp-read-too file spelled s is
  texts-read r (spec_faulty line name is) =
      (record { text = spec-text; read = spec-read; is_first = is }, (imp-text, imp-read), both)
  texts-read r no_room_for_spec = tt

short-behind : (before mid : FilesState) (name text : List ℕ) → Passes before mid
    → IsShortText max_circuit (mid.held name) text → IsShortText max_circuit (before.held name) text
short-behind before mid name text passes short =
    subst (λ held. IsShortText max_circuit (held name) text) passes.held short

-- the second file, behind the first one
pub read-both : (before mid now : FilesState) (spec imp text : List ℕ) (r : Result Dqbf DesignStop)
    → Passes before mid → IsShortText max_circuit (before.held spec) text → IsReadBehind mid now text imp r
    → IsDesignRead before now spec imp r
read-both before mid now spec imp text r passes short (inl is) =
    texts-read before now spec imp text is.0 short (short-behind before mid imp is.0 passes is.1)
    (twice before mid now passes is.2) r is.3
read-both before mid now spec imp text r passes short (inr is) =
    subst (IsDesignRead before now spec imp) (sym is.1)
    (imp-stopped before mid now spec imp text is.0 passes short is.2)

-- ---- what is written

pub formula-written : (before now : FilesState) (spec imp : List ℕ) (f : Dqbf) (r : Result Output OutOfMemory)
    → IsDesignFormula (before.held spec) (before.held imp) f × PickedTwice before now → now.faults ≡ before.faults
    → IfOk r (λ output. printed output ≡ printed_formula f) → IfOk r (IsEncodeOutput before now spec imp)
formula-written before now spec imp f (Ok output) is unfaulted same = record {
  due = inr (f, is.0, is.1, same);
  long = λ six. let zero = status_of output (printed_formula f) same in absurd (omega (arith, six, zero));
  unfaulted = λ other. unfaulted;
}
formula-written before now spec imp f (Err e) is unfaulted same = tt
