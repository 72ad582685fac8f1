-- From what was fed to what is said of a certificate's file.
use Rattle.std.proofs.Common.{◌≡◌, ℕ, ◌<◌, ◌≤◌, List, [], length, Result, Ok, Err, refl, sym, subst, arith}
use Rattle.std.specs.Prelude.{IfOk, OnOk}
use Rattle.dq_io.specs.declared.errors.FeedStop.{FeedStop}
use Rattle.dq_io.specs.declared.errors.FeedStop.TheVariants.{Fault, TooLong}
use Rattle.dq_io.specs.Feeding.{WasFed}
use Rattle.dq_io.specs.Files.{Holding, Untold, Absent, Holds}
use Rattle.dq_io.specs.State.{FilesState}
use Rattle.dq_lits.specs.Formula.{Dqbf}
use Rattle.dq_lits.specs.declared.memory.Memory.{Memory}
use Rattle.dq_runs.specs.FileTexts.{IsLong, IsShortText, PickedOnce}
use Rattle.dq_runs.specs.Printed.{printed}
use Rattle.dq_runs.specs.declared.outputs.Output.{Output}
use Rattle.cert_judge.specs.Judgement.{IsJudgement}
use Rattle.cert_judge.specs.Streams.{StandsFor, StreamState}
use Rattle.cert_judge.specs.declared.answers.Judgement.{Judgement}
use Rattle.dqcheck_core.specs.Outputs.{IsReportedBehind}
use Rattle.dqcheck_core.specs.Report.{judged, printed_report}
use Rattle.dqcheck_core.specs.Running.{max_certificate}
use Rattle.dqcheck_core.proofs.Runs.{judged_reported}
use Rattle.dq_runs.proofs.ToldTexts.{told_text, is_short}

-- what was fed of a file that was read to its end is its text
pub record IsFed (now : List ℕ → Type 0) (holding : Holding) : Type 0 where
  pub text : List ℕ
  pub stands : now text
  pub read : IsShortText max_certificate holding text

pub whole_was_fed : {E : Type 0} (before now : List ℕ → Type 0) (holding : Holding) (given : ℕ)
    (result : Result (Unit {0}) E) → WasFed before now holding given result → before [] → (u : Unit {0}) →
    result ≡ Ok u → (holding ≡ Absent → ⊥) → (max_certificate < given → ⊥) → IsFed now holding
whole_was_fed before now holding given (Ok u) fed empty v is there not_long = record {
  text = fed.fed;
  stands = fed.stands [] empty;
  read = record {
    is = told_text holding fed.fed fed.whole there;
    short = is_short max_certificate given (length fed.fed) (sym fed.counted) not_long;
  };
}
whole_was_fed before now holding given (Err e) fed empty v is there not_long = cc

-- it is judged
pub fed_reported : (before now : FilesState) (name : List ℕ) (f : Dqbf) (s : StreamState) (r : Result Output Memory) →
    IsFed (StandsFor s) (before.held name) → PickedOnce before now → now.faults ≡ before.faults →
    IfOk r (λ output. (text : List ℕ) → StandsFor s text →
    (answer : Judgement) × IsJudgement f text answer × (printed output ≡ printed_report (judged f answer))) →
    IfOk r (IsReportedBehind before now name f)
fed_reported before now name f s (Ok output) fed once unfaulted told =
    let said = told fed.text fed.stands in
    judged_reported before now name f said.0 (Ok output)
    (record { text = fed.text; read = fed.read; judged = said.1 }) once unfaulted said.2
fed_reported before now name f s (Err _) fed once unfaulted told = tt

-- more bytes were given than the limit
pub fed_long : (holding : Holding) (given : ℕ) → max_certificate < given →
    ((bytes : List ℕ) → holding ≡ Holds bytes → given ≤ length bytes) → (holding ≡ Absent → ⊥) →
    IsLong max_certificate holding
fed_long Untold given more longer there = tt
fed_long Absent given more longer there = absurd (there refl)
fed_long (Holds bytes) given more longer there = let held = longer bytes refl in omega (arith, more, held)

-- what is said is the judgement of all that was fed
pub judged_fed : (f : Dqbf) (s : StreamState) (answer : Judgement) (r : Result Output Memory) → s.formula ≡ f →
    ((text : List ℕ) → StandsFor s text → IsJudgement s.formula text answer) →
    IfOk r (λ output. printed output ≡ printed_report (judged f answer)) →
    IfOk r (λ output. (text : List ℕ) → StandsFor s text →
    (answer : Judgement) × IsJudgement f text answer × (printed output ≡ printed_report (judged f answer)))
judged_fed f s answer (Ok output) same is told =
    λ text stands. (answer, subst (λ g. IsJudgement g text answer) same (is text stands), told)
judged_fed f s answer (Err _) same is told = tt

-- a file is fed, or it can't be read, or it is too long
pub fed_cases : {P Q : Type 0} (r : Result (Unit {0}) FeedStop) → OnOk r Q →
    ((u : Unit {0}) → r ≡ Ok u → Q → P) → (r ≡ Err Fault → P) → (r ≡ Err TooLong → P) → P
fed_cases (Ok u) then fed fault long = fed u refl then
fed_cases (Err Fault) then fed fault long = fault refl
fed_cases (Err TooLong) then fed fault long = long refl

-- what holds anyway holds where the file was fed
pub on_fed : {E P : Type 0} (r : Result (Unit {0}) E) → P → OnOk r P
on_fed (Ok u) held = held
on_fed (Err e) held = tt
