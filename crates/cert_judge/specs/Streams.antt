-- A certificate that comes in pieces, wherever it is cut.
use Rattle.std.specs.Prelude.{◌≡◌, ℕ, List, ◌∷◌, ◌++◌}
use Rattle.dq_lits.specs.Formula.{Dqbf}
use Rattle.cert_judge.specs.Judgement.{IsJudgement}
use Rattle.cert_judge.specs.Phases.{Gives, HasNoEnd}
use Rattle.cert_judge.specs.declared.answers.Judgement.{Judgement}
use Rattle.cert_judge.specs.declared.phases.Phase.{Phase}

pub record StreamState : Type 0 where
  pub formula : Dqbf
  -- the bytes of a line whose end didn't come yet
  pub unfinished : List ℕ
  pub phase : Phase

-- the answer is right where these bytes are to come
abbrev pub MayAnswer : StreamState → List ℕ → Judgement → Type 0
MayAnswer s bytes answer = Gives s.formula s.phase (s.unfinished ++ bytes) answer

-- the text is what was fed: whatever bytes come behind it, what may be answered then is right for
-- the whole
abbrev pub StandsFor : StreamState → List ℕ → Type 0
StandsFor s text =
    (bytes : List ℕ) (answer : Judgement) → MayAnswer s bytes answer
    → IsJudgement s.formula (text ++ bytes) answer

-- these bytes are a line, its LF, and others
pub record IsCut (bytes line behind : List ℕ) : Type 0 where
  pub parts : bytes ≡ line ++ (10 ∷ behind)
  pub one_line : HasNoEnd line

-- what may be said behind a line with its LF may be said before it
abbrev pub IsTaken : Dqbf → Phase → List ℕ → Phase → Type 0
IsTaken f old text new =
    (behind : List ℕ) (answer : Judgement) → Gives f new behind answer
    → Gives f old (text ++ (10 ∷ behind)) answer
