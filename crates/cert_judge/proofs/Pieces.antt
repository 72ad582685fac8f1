-- A certificate that comes in pieces.
use Rattle.std.proofs.Common.{◌≡◌, ℕ, List, [], ◌++◌, Result, Ok, Err, sym, subst, append_assoc, append-nil, arith}
use Rattle.std.specs.Prelude.{IfOk, OnOk}
use Rattle.dq_lits.specs.Formula.{Dqbf}
use Rattle.dq_lits.specs.declared.memory.Memory.{Memory}
use Rattle.cert_judge.specs.Judgement.{IsJudgement}
use Rattle.cert_judge.specs.Phases.{Gives}
use Rattle.cert_judge.specs.Streams.{IsCut, IsTaken, MayAnswer, StandsFor, StreamState}
use Rattle.cert_judge.specs.declared.answers.Judgement.{Judgement}
use Rattle.cert_judge.specs.declared.phases.Phase.{Phase}

-- a line of the piece, which may have begun before
pub line_back : (f : Dqbf) (old new : Phase) (before rest line behind bytes : List ℕ) (answer : Judgement) →
    IsCut rest line behind → IsTaken f old (before ++ line) new → Gives f new (behind ++ bytes) answer →
    Gives f old (before ++ (rest ++ bytes)) answer
line_back f old new before rest line behind bytes answer cut taken says = search (arith, append_assoc)

-- what stands behind the last LF
pub rest_back : (f : Dqbf) (phase : Phase) (before rest after bytes : List ℕ) (answer : Judgement) →
    after ≡ before ++ rest → Gives f phase (after ++ bytes) answer → Gives f phase (before ++ (rest ++ bytes)) answer
rest_back f phase before rest after bytes answer is says = search (arith, append_assoc)

-- a piece more
pub fed : (old new : StreamState) (text piece : List ℕ) → new.formula ≡ old.formula →
    ((bytes : List ℕ) (answer : Judgement) → MayAnswer new bytes answer → MayAnswer old (piece ++ bytes) answer) →
    StandsFor old text → StandsFor new (text ++ piece)
fed old new text piece same gives stands bytes answer may =
    subst (λ f. IsJudgement f ((text ++ piece) ++ bytes) answer) (sym same)
    (subst (λ t. IsJudgement old.formula t answer) (sym (append_assoc text piece bytes))
    (stands (piece ++ bytes) answer (gives bytes answer may)))

-- the text ends
pub ended : (s : StreamState) (text : List ℕ) (phase : Phase) (r : Result Judgement Memory) →
    ((answer : Judgement) → Gives s.formula phase [] answer → Gives s.formula s.phase s.unfinished answer) →
    IfOk r (Gives s.formula phase []) → StandsFor s text → IfOk r (IsJudgement s.formula text)
ended s text phase (Ok answer) last says stands =
    subst (λ t. IsJudgement s.formula t answer) (append-nil text)
    (stands [] answer (subst (λ b. Gives s.formula s.phase b answer) (sym (append-nil s.unfinished))
    (last answer says)))
ended s text phase (Err _) last says stands = tt

-- what holds of a call that was answered
pub goes_on : {E : Type 0} (result : Result (Unit {0}) E) (P Q : Type 0) → OnOk result P → (P → Q) → OnOk result Q
goes_on (Ok _) P Q holds then = then holds
goes_on (Err _) P Q holds then = tt
