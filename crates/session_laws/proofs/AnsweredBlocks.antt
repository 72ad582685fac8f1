-- What is written of each search is a block on the page.
use Rattle.std.proofs.Common.{◌≡◌, ℕ, suc, ◌+◌, inl, inr, List, [], ◌∷◌, ◌++◌, map, length, refl, ◌∙◌, subst, arith, append_assoc}
use Rattle.std.specs.List.{AllByRecursion, AllZip}
use Rattle.dq_lits.specs.Formula.{Dqbf, IsWellFormed}
use Rattle.dq_lits.specs.Henkin.{IsTrueFormula as IsReadTrue, IsFalseFormula as IsReadFalse}
use Rattle.cert_judge.specs.Judgement.{IsJudgement}
use Rattle.cert_judge.specs.declared.answers.Judgement.TheVariants.{ValidTrue}
use Rattle.headline.specs.Headline.{Formula, HoldsSkolem, IsFalseFormula, IsTrueFormula}
use Rattle.headline.specs.Sessions.{AreBlocks, IsAnswer, block_line}
use Rattle.headline_laws.specs.Formulas.{MeansTheSame}
use Rattle.hint_log.specs.Entries.{ProofLog}
use Rattle.session_runs.specs.Blocks.{Search, block_head, blocks_text, search_text}
use Rattle.session_runs.specs.Searches.{IsShown, end_of}
use Rattle.verdict_texts.specs.Forms.{plain}
use Rattle.verdict_texts.specs.Verdicts.{Verdict, evidence_text, is_false, is_true, is_unknown, verdict_text}
use Rattle.session_laws.proofs.AskedFormulas.{Stands}

-- what the page's law gives
pub record MeaningLaw : Type 0 where
  pub true_there : (read : Dqbf) (f : Formula) → MeansTheSame read f → IsWellFormed read → IsReadTrue read → IsTrueFormula f
  pub false_there : (read : Dqbf) (f : Formula) → MeansTheSame read f → IsReadFalse read → IsFalseFormula f
  pub circuit : (certificate : List ℕ) (read : Dqbf) (f : Formula) → MeansTheSame read f → IsWellFormed read →
      IsJudgement read certificate ValidTrue → HoldsSkolem f certificate

module _ (law : MeaningLaw) (all : Dqbf) (log : ProofLog) where
  answered : (m : Dqbf) (f : Formula) (now : ProofLog) (verdict : Verdict) → Stands m f → IsShown all now m verdict →
      IsAnswer f (verdict_text plain m verdict)
  answered m f now (is_true file proof) one is =
      inl (
        (evidence_text plain m (is_true file proof), refl),
        law.true_there m f one.means one.formed is.true_formula,
        λ short.
            law.circuit (verdict_text plain m (is_true file proof)) m f one.means one.formed (is.accepted (is.short short)),
      )
  answered m f now (is_false d) one is =
      inr (inl ((evidence_text plain m (is_false d), refl), law.false_there m f one.means is.false_formula))
  answered m f now (is_unknown rounds learned) one is = inr (inr (evidence_text plain m (is_unknown rounds learned), refl))

  -- the line ends in front of the answer
  head_line : (k bytes : ℕ) (answer others : List ℕ) →
      (block_head k bytes ++ answer) ++ others ≡ block_line k bytes ++ 10 ∷ (answer ++ others)
  head_line k bytes answer others =
      append_assoc (block_head k bytes) answer others
      ∙ append_assoc (block_line k bytes) (10 ∷ []) (answer ++ others)

  pub blocks : (k : ℕ) (searches : List Search) (fs : List Formula) → AllZip Stands (map (λ s. s.formula) searches) fs →
      AllByRecursion (λ s. IsShown all (end_of log s) s.formula s.verdict) searches →
      AreBlocks k fs (blocks_text k searches)
  blocks k [] [] same shown = refl
  blocks k [] (f ∷ fs) same shown = absurd same
  blocks k (s ∷ searches) [] same shown = absurd same
  blocks k (s ∷ searches) (f ∷ fs) same shown = (
    search_text s,
    blocks_text (k + 1) searches,
    head_line k (length (search_text s)) (search_text s) (blocks_text (k + 1) searches),
    answered s.formula f (end_of log s) s.verdict same.0 shown.0,
    let next : k + 1 ≡ suc k = omega arith in
        subst (λ n. AreBlocks n fs (blocks_text (k + 1) searches)) next (blocks (k + 1) searches fs same.1 shown.1),
  )
