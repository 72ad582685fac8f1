-- From a verdict on a formula that is told to the headline's page.
use Rattle.std.proofs.Common.{◌≡◌, ◌≢◌, ◌⊎◌, inl, inr, ℕ, true, List, Option, ap, arith, sym, ◌∙◌}
use Rattle.std.specs.Io.KnownBytes.{append_known}
use Rattle.dq_lits.specs.Formula.{Dqbf, IsWellFormed}
use Rattle.hint_log.specs.Entries.{ProofLog}
use Rattle.dqdimacs_reader.specs.Grammar.{SpellsFormula}
use Rattle.cert_judge.specs.Judgement.{IsJudgement}
use Rattle.cert_judge.specs.declared.answers.Judgement.TheVariants.{ValidTrue}
use Rattle.headline.specs.Headline.{Formula, HoldsSkolem}
use Rattle.headline_laws.specs.Formulas.{IsOnPage}
use Rattle.verdict_texts.specs.Verdicts.{Verdict, is_true, is_false, is_unknown, is_verdict_status, verdict_status, verdict_text}
use Rattle.verdict_texts.specs.declared.forms.Form.{Form}
use Rattle.dq_verdicts.specs.Shown.{IsShown}
use Rattle.dqsolve_words.specs.Command.{Search}
use Rattle.dqsolve_core.specs.OnePage.{ShowsHeadline}
use Rattle.dqsolve_core.specs.Report.{form_of}
use Rattle.dqsolve_core.specs.Told.{IsSolution}

-- what the page's laws give
pub record PageLaw : Type 0 where
  pub formulas : (text : List ℕ) (read : Dqbf) → SpellsFormula text read → IsWellFormed read →
      (f : Formula) × IsOnPage text read f
  pub circuits : (formula certificate : List ℕ) (read : Dqbf) (f : Formula) → IsOnPage formula read f → IsWellFormed read →
      IsJudgement read certificate ValidTrue → HoldsSkolem f certificate

abbrev pub IsEither : ℕ → Type 0
IsEither status = (status ≡ 10) ⊎ (status ≡ 20)

pub no_other : (status other : ℕ) → IsEither status → other ≢ 10 → other ≢ 20 → status ≢ other
no_other status other (inl is) ten twenty = λ same. ten (sym same ∙ is)
no_other status other (inr is) ten twenty = λ same. twenty (sym same ∙ is)

pub is_verdict : (status : ℕ) → IsEither status → is_verdict_status status ≡ true
is_verdict status (inl is) = ap is_verdict_status is
is_verdict status (inr is) = ap is_verdict_status is

pub neither : (status : ℕ) → IsEither status → status ≡ 0 → ⊥
neither status (inl is) ends = omega (arith, is, ends)
neither status (inr is) ends = omega (arith, is, ends)

module _ (law : PageLaw) (formula : List ℕ) (read : Dqbf) (formed : IsWellFormed read) (f : Formula)
    (page : IsOnPage formula read f) (searched : Dqbf) (log : ProofLog) (form : Form) (before now : Option (List ℕ))
    (status : ℕ) where
  shown : (verdict : Verdict) → IsShown read searched log form verdict → status ≡ verdict_status verdict →
      now ≡ append_known before (verdict_text form read verdict) → IsEither status →
      ShowsHeadline formula before now status
  shown (is_true file proof) is ends written either = record {
    f = f;
    spelled = page.spelled;
    written = verdict_text form read (is_true file proof);
    appended = written;
    is_true = λ _. page.is_true is.true_formula;
    circuit = λ _ short. law.circuits formula (verdict_text form read (is_true file proof)) read f page formed
        (is.accepted (is.short short));
    is_false = λ other. absurd (omega (arith, other, ends));
  }
  shown (is_false refutation) is ends written either = record {
    f = f;
    spelled = page.spelled;
    written = verdict_text form read (is_false refutation);
    appended = written;
    is_true = λ other. absurd (omega (arith, other, ends));
    circuit = λ other _. absurd (omega (arith, other, ends));
    is_false = λ _. page.is_false is.false_formula;
  }
  shown (is_unknown rounds learned) is ends written either = absurd (neither status either ends)

pub shows : PageLaw → (formula : List ℕ) (log : ProofLog) (c : Search) (before now : Option (List ℕ)) (status : ℕ) →
    IsEither status → IsSolution formula log c before now status → ShowsHeadline formula before now status
shows law formula log c before now status either s =
    let page = law.formulas formula s.f s.spelled s.well_formed in
    let v = s.solved.is in
    shown law formula s.f s.well_formed page.0 page.1 v.searched log (form_of c.options) before now status
    s.solved.verdict v.is.shown s.solved.ends_with s.solved.written either
