-- What is said of a formula's file that gives none.
use Rattle.std.proofs.Common.{◌≡◌, ◌≢◌, ℕ, ◌<◌, List, Result, Err, refl, ap, ◌∙◌, subst, arith}
use Rattle.dq_io.specs.State.{FilesState}
use Rattle.dq_lits.specs.Formula.{Dqbf}
use Rattle.dq_runs.specs.FileTexts.{PickedOnce}
use Rattle.dq_runs.specs.FormulaFiles.{max_formula, IsNoFormula, IsFormulaRead, IsUnreadableStop, formula_line}
use Rattle.dq_runs.specs.Printed.{Printed, printed}
use Rattle.dq_runs.specs.declared.formulas.FormulaStop.{FormulaStop}
use Rattle.dq_runs.specs.declared.formulas.FormulaStop.TheVariants.{Said}
use Rattle.dq_runs.specs.declared.formulas.NoFormula.{NoFormula}
use Rattle.dq_runs.specs.declared.formulas.NoFormula.TheVariants.{Unreadable, TooLong, Refused}
use Rattle.dq_runs.specs.declared.outputs.Output.{Output}

pub status_of : (output : Output) (p : Printed) → printed output ≡ p → output.status ≡ p.status
status_of output p same = ap (λ (q : Printed). q.status) same

-- what was read where the file gives none
pub said_read : (before now : FilesState) (name : List ℕ) (r : Result Dqbf FormulaStop) (stop : FormulaStop)
    (said : NoFormula) → r ≡ Err stop → stop ≡ Said said → IsFormulaRead before now name r →
    IsNoFormula before now name said × PickedOnce before now
said_read before now name r stop said is kind read = subst (IsFormulaRead before now name) (is ∙ ap Err kind) read

unreadable_said : (said : NoFormula) → said ≢ Unreadable → IsUnreadableStop (Err (Said said)) → ⊥
unreadable_said Unreadable other is = other refl
unreadable_said TooLong other is = is
unreadable_said (Refused line name) other is = is

-- a file that is said to be other than unreadable counted no fault
pub not_unreadable : (r : Result Dqbf FormulaStop) (stop : FormulaStop) (said : NoFormula) → r ≡ Err stop →
    stop ≡ Said said → said ≢ Unreadable → IsUnreadableStop r → ⊥
not_unreadable r stop said is kind other unreadable =
    unreadable_said said other (subst IsUnreadableStop (is ∙ ap Err kind) unreadable)

-- the line that says so tells of no length and of no fault that weren't there
pub record IsSaidRightly (before now : FilesState) (output : Output) : Type 0 where
  pub long : output.status ≡ 6 → max_formula < now.given
  pub unfaulted : output.status ≢ 3 → now.faults ≡ before.faults

pub said_rightly : (before now : FilesState) (name : List ℕ) (said : NoFormula) (output : Output) →
    IsNoFormula before now name said → (said ≢ Unreadable → now.faults ≡ before.faults) →
    printed output ≡ formula_line said → IsSaidRightly before now output
said_rightly before now name Unreadable output is unfaulted same = record {
  long = λ six. let three = status_of output (formula_line Unreadable) same in absurd (omega (arith, six, three));
  unfaulted = λ other. absurd (other (status_of output (formula_line Unreadable) same));
}
said_rightly before now name TooLong output is unfaulted same = record {
  long = λ _. is.given;
  unfaulted = λ _. unfaulted (λ other. cc);
}
said_rightly before now file (Refused line name) output is unfaulted same = record {
  long = λ six. let two = status_of output (formula_line (Refused line name)) same in absurd (omega (arith, six, two));
  unfaulted = λ _. unfaulted (λ other. cc);
}
