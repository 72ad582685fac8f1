-- Which formula is searched, and the verdict on the one that is asked for.
use Rattle.std.specs.Prelude.{◌≡◌, Bool, true, false}
use Rattle.dq_lits.specs.Formula.{Dqbf}
use Rattle.dq_verdicts.specs.Prepared.{IsPrep}
use Rattle.dq_verdicts.specs.Shown.{IsVerdict}
use Rattle.verdict_texts.specs.Verdicts.{Verdict}
use Rattle.dqsolve_words.specs.Command.{Options, Command, solve, demo, pec, encode, defined, session}
use Rattle.dqsolve_core.specs.Report.{form_of}
use Rattle.hint_log.specs.Entries.{ProofLog}

-- with preparation what is left of the formula, and else the formula itself
abbrev pub IsSearched : Bool → Dqbf → Dqbf → Type 0
IsSearched true f searched = IsPrep f searched
IsSearched false f searched = searched ≡ f

-- only `solve` prepares
abbrev pub IsSearchedFor : Command → Dqbf → Dqbf → Type 0
IsSearchedFor (solve c) f searched = IsSearched c.options.prepares f searched
IsSearchedFor (demo p) f searched = searched ≡ f
IsSearchedFor (pec c) f searched = searched ≡ f
IsSearchedFor (encode c) f searched = searched ≡ f
IsSearchedFor (defined c) f searched = searched ≡ f
IsSearchedFor (session c) f searched = searched ≡ f

-- a verdict on a formula, which the log of a search with these options shows
pub record IsVerdictBy (f : Dqbf) (log : ProofLog) (o : Options) (verdict : Verdict) : Type 0 where
  pub searched : Dqbf
  pub is_searched : IsSearched o.prepares f searched
  pub is : IsVerdict f searched log (form_of o) verdict
