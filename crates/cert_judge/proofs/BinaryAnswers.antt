-- A binary circuit's lines, one by one, and what is said of one with another number of inputs than there are universals.
use Rattle.std.proofs.Common.{◌≡◌, ◌⊎◌, ℕ, ◌+◌, ◌≤◌, ◌==◌, Bool, true, false, not, inl, inr, length, List, [], ◌∷◌, ◌++◌, Option, None, Some, Result, Ok, Err, refl, sym, ap, ◌∙◌, subst, arith, append_assoc, append-nil}
use Rattle.std.specs.Prelude.{IfOk}
use Rattle.std.proofs.lemmas.Bool.{ne_eqb, cond-true, false≢true}
use Rattle.std.proofs.lemmas.List.FromFn.{length-range_with_len}
use Rattle.dq_lits.specs.Formula.{Dqbf}
use Rattle.dq_lits.specs.declared.memory.Memory.{Memory}
use Rattle.dq_text.specs.Line.{lines_from}
use Rattle.aiger_text.specs.declared.faults.AagFault.{AagFault}
use Rattle.aiger_text.specs.declared.faults.AagStop.{AagStop}
use Rattle.aiger_text.specs.declared.faults.AagStop.TheVariants.{Refused as RefusedFile, Memory as NoFile}
use Rattle.aig_binary.specs.BareFile.{bare_with}
use Rattle.aig_binary.specs.BareReading.{listed}
use Rattle.aig_binary.specs.FilesByLine.{comment_from, file_so_far, gives_at, AreAigLines, BeginsBinary, EndsBinary, GoesOn, IsLine, TakesBinary}
use Rattle.aig_binary.specs.Scan.{scan_binary, scan_lines}
use Rattle.aig_binary.specs.declared.bare.BareCircuit.{BareCircuit}
use Rattle.aig_binary.specs.declared.files_by_line.AigLines.{AigLines}
use Rattle.aig_binary.specs.declared.files_by_line.Place.TheVariants.{Symbols, Comment}
use Rattle.cert_text.specs.declared.circuit_proofs.Dqp.{Dqp}
use Rattle.skolem_checker.specs.Checks.{candidate_of, with_mapping}
use Rattle.skolem_checker.specs.declared.mapping.MapName.TheVariants.{InputCount}
use Rattle.skolem_checker.specs.declared.mapping.MapPlace.TheVariants.{Whole}
use Rattle.cert_judge.specs.BinaryPhases.{FollowsBinary, GivesBareText, GivesFreeBinary, StartsBinary, TakesBinaryLine}
use Rattle.cert_judge.specs.CircuitPhases.{BeginsComment, IsStoppedPhase}
use Rattle.cert_judge.specs.Judgement.{begins_proof, binary_mapping_line, BehindMapping, IsBinaryJudgement}
use Rattle.cert_judge.specs.Phases.{line_end, next_phase, AreBinaryLines, Gives, GivesBinary, HasNoEnd, IsJudged, IsLastUnless, IsLawful, Takes}
use Rattle.cert_judge.specs.Places.{AnswersStop}
use Rattle.cert_judge.specs.ProofStart.{IsProofStart}
use Rattle.cert_judge.specs.declared.answers.Judgement.{Judgement}
use Rattle.cert_judge.specs.declared.answers.Judgement.TheVariants.{Refused}
use Rattle.cert_judge.specs.declared.answers.CertificateFault.TheVariants.{Circuit as CircuitFault, Mapping}
use Rattle.cert_judge.specs.declared.circuits.Form.TheVariants.{Binary as BinaryForm}
use Rattle.cert_judge.specs.declared.phases.Phase.{Phase}
use Rattle.cert_judge.specs.declared.phases.Phase.TheVariants.{Binary, Decided}
use Rattle.cert_judge.specs.declared.proof_starts.ProofStart.TheVariants.{Found}
use Rattle.cert_judge.proofs.CommentLines.{begins_same}
use Rattle.cert_judge.proofs.LinesToCome.{first_is, line_of}
use Rattle.cert_judge.proofs.Soundness.{BinaryLaw, binary_complete}

judged_from : BinaryLaw → (text : List ℕ) (first : ℕ) (bare : BareCircuit) → first ≤ 2 →
    scan_binary text first ≡ Ok (listed bare) → IsJudged first (listed bare).file
judged_from law text first bare early scanned =
    let spelled = (law.exact text first (listed bare)).1 scanned in
    let few = spelled.header.few_variables in
    let enough = spelled.header.enough in
    record {
      early = early;
      complete = binary_complete law text first (listed bare) spelled;
      few = record { variables = few; inputs = omega (arith, few, enough); outputs = spelled.header.few_outputs };
    }

-- a circuit that was read can be judged
pub read_judged : BinaryLaw → (first : ℕ) (l : AigLines) → AreBinaryLines first l →
    (l.place ≡ Symbols) ⊎ (l.place ≡ Comment) → IsJudged first (listed (file_so_far l)).file
read_judged law first l are (inl is) =
    judged_from law (are.before ++ []) first (file_so_far l) are.early (are.read [] ∙ ap (λ p. gives_at p l []) is)
read_judged law first l are (inr is) =
    let bare = bare_with l.reader.header l.circuit (comment_from l.reader.symbols [] l.number) in
    let judged = judged_from law (are.before ++ []) first bare are.early (are.read [] ∙ ap (λ p. gives_at p l []) is) in
    record { early = judged.early; complete = judged.complete; few = judged.few }

-- a line
is_line : (ended : Bool) (text behind : List ℕ) → HasNoEnd text → IsLastUnless ended text behind →
    IsLine text ended (text ++ (line_end ended ++ behind)) behind
is_line true text behind free last =
    record { one_line = free; fed = λ _. refl; last = λ not. absurd (false≢true (sym not)) }
is_line false text behind free last = record {
  one_line = free;
  fed = λ not. absurd (false≢true not);
  last = λ _. (last.0, ap (λ b. text ++ b) last.1 ∙ append-nil text, last.1);
}

module _ (f : Dqbf) (first : ℕ) (old new : AigLines) (text : List ℕ) (ended : Bool) (free : HasNoEnd text) where
  pub goes_back : GoesOn old text ended new → (behind : List ℕ) (answer : Judgement) → IsLastUnless ended text behind →
      GivesBinary f first new behind answer → GivesBinary f first old (text ++ (line_end ended ++ behind)) answer
  goes_back goes behind answer last says =
      subst (λ r. IsBinaryJudgement f first r answer)
      (sym (goes.line (text ++ (line_end ended ++ behind)) behind (is_line ended text behind free last))) says

  pub refused_back : (line : ℕ) (name : AagFault) → TakesBinary old text ended (Err (RefusedFile line name)) new →
      (behind : List ℕ) (answer : Judgement) → IsLastUnless ended text behind →
      answer ≡ Refused line (CircuitFault name) → GivesBinary f first old (text ++ (line_end ended ++ behind)) answer
  refused_back line name takes behind answer last says =
      subst (λ r. IsBinaryJudgement f first r answer)
      (sym (takes (text ++ (line_end ended ++ behind)) behind (is_line ended text behind free last))) says

  pub stop_taken : (stop : AagStop) (phase : Phase) → TakesBinary old text ended (Err stop) new →
      IsStoppedPhase stop phase → TakesBinaryLine f first old text ended new (Some phase)
  stop_taken (RefusedFile line name) phase takes is = (
    subst IsLawful (sym is) tt,
    λ behind answer last says.
        refused_back line name takes behind answer last (subst (λ p. Gives f p behind answer) is says),
  )
  stop_taken NoFile phase takes is = absurd is

  pub still_lines : GoesOn old text ended new → AreAigLines new → new.reader.header_line ≡ old.reader.header_line →
      AreBinaryLines first old → AreBinaryLines first new
  still_lines goes ready header are = record {
    early = are.early;
    header = header ∙ are.header;
    ready = ready;
    before = are.before ++ (text ++ goes.end);
    read = search (arith, append_assoc);
  }

  -- from the phase before a line to the one behind it
  binary_turn : (next : Option Phase) → TakesBinaryLine f first old text ended new next →
      Takes f (Binary first old) text ended (next_phase (Binary first new) next)
  binary_turn None takes = takes.1
  binary_turn (Some phase) takes = takes.1

  pub binary_takes : (next : Option Phase) (after : Phase) → TakesBinaryLine f first old text ended new next →
      after ≡ next_phase (Binary first new) next → Takes f (Binary first old) text ended after
  binary_takes next after takes turned = search (arith, binary_turn)

  pub follows_takes : (phase : Phase) → IsLawful phase → FollowsBinary f first old text phase →
      TakesBinaryLine f first old text ended new (Some phase)
  follows_takes phase lawful follows = (lawful, follows ended)

-- the header line
module _ (first : ℕ) (text : List ℕ) (free : HasNoEnd text) (early : first ≤ 2) where
  line_scanned : (ended : Bool) (behind : List ℕ) → IsLastUnless ended text behind →
      scan_binary (text ++ (line_end ended ++ behind)) first
      ≡ scan_lines first (line_of text first behind ∷ lines_from (first + 1) behind)
  line_scanned ended behind last = ap (scan_lines first) (first_is ended first text behind free last)

  pub binary_starts : (l : AigLines) → BeginsBinary first text (Ok l) → AreAigLines l → l.reader.header_line ≡ first →
      StartsBinary first text (Binary first l)
  binary_starts l begins ready header = record {
    lawful = record {
      early = early;
      header = header;
      ready = ready;
      before = text ++ (10 ∷ []);
      read = λ bytes. ap (λ b. scan_binary b first) (append_assoc text (10 ∷ []) bytes)
          ∙ line_scanned true bytes tt ∙ begins bytes (lines_from (first + 1) bytes);
    };
    starts = λ f ended behind answer last says.
        subst (λ r. IsBinaryJudgement f first r answer)
        (sym (line_scanned ended behind last ∙ begins behind (lines_from (first + 1) behind))) says;
  }

  header_refused : (stop : AagStop) (phase : Phase) → BeginsBinary first text (Err stop) → IsStoppedPhase stop phase →
      StartsBinary first text phase
  header_refused (RefusedFile line name) phase begins is = record {
    lawful = subst IsLawful (sym is) tt;
    starts = λ f ended behind answer last says.
        subst (λ r. IsBinaryJudgement f first r answer)
        (sym (line_scanned ended behind last ∙ begins behind (lines_from (first + 1) behind)))
        (subst (λ p. Gives f p behind answer) is says);
  }
  header_refused NoFile phase begins is = absurd is

  pub binary_refused : (stop : AagStop) (r : Result Phase Memory) → BeginsBinary first text (Err stop) →
      IfOk r (IsStoppedPhase stop) → IfOk r (StartsBinary first text)
  binary_refused stop (Ok phase) begins is = header_refused stop phase begins is
  binary_refused stop (Err _) begins is = tt

-- the comment's first line
pub comment_follows : (f : Dqbf) (first : ℕ) (l : AigLines) (text : List ℕ) (phase : Phase) → l.place ≡ Comment →
    BeginsComment f BinaryForm first l.number (listed (file_so_far l)).file text phase →
    FollowsBinary f first l text phase
comment_follows f first l text phase is begins ended behind answer last says = search arith

pub ok_follows : (f : Dqbf) (first number : ℕ) (l : AigLines) (bare : BareCircuit) (text : List ℕ)
    (r : Result Phase Memory) → l.place ≡ Comment → bare ≡ file_so_far l → number ≡ l.number →
    IfOk r (BeginsComment f BinaryForm first number (listed bare).file text) → IfOk r (FollowsBinary f first l text)
ok_follows f first number l bare text (Ok phase) is bare_is number_is begins =
    comment_follows f first l text phase is
    (subst (λ b. BeginsComment f BinaryForm first l.number (listed b).file text phase) bare_is
    (subst (λ n. BeginsComment f BinaryForm first n (listed bare).file text phase) number_is begins))
ok_follows f first number l bare text (Err _) is bare_is number_is begins = tt

-- a comment that is no proof
free_gives : (f : Dqbf) (first : ℕ) (l : AigLines) (phase : Phase) → l.place ≡ Comment →
    GivesBareText f first (listed (file_so_far l)).file phase → GivesFreeBinary f first l phase
free_gives f first l phase is gives comment behind answer free says = search arith

pub ok_free : (f : Dqbf) (first : ℕ) (l : AigLines) (bare : BareCircuit) (r : Result Phase Memory) →
    l.place ≡ Comment → bare ≡ file_so_far l → IfOk r (GivesBareText f first (listed bare).file) →
    IfOk r (GivesFreeBinary f first l)
ok_free f first l bare (Ok phase) is bare_is gives =
    free_gives f first l phase is (subst (λ b. GivesBareText f first (listed b).file phase) bare_is gives)
ok_free f first l bare (Err _) is bare_is gives = tt

-- the text ends
pub file_ends : (f : Dqbf) (first : ℕ) (l : AigLines) (answer : Judgement) →
    (l.place ≡ Symbols) ⊎ (l.place ≡ Comment) → BehindMapping (binary_mapping_line first) None
    (candidate_of f (listed (file_so_far l)).file.circuit l.reader.symbols) answer → GivesBinary f first l [] answer
file_ends f first l answer (inl is) says = search arith
file_ends f first l answer (inr is) says = search arith

pub ok_ends : (f : Dqbf) (first : ℕ) (l : AigLines) (bare : BareCircuit) (r : Result Judgement Memory) →
    EndsBinary l (Ok bare) → IfOk r (BehindMapping (binary_mapping_line first) None
    (candidate_of f (listed bare).file.circuit bare.file.symbols)) → IfOk r (GivesBinary f first l [])
ok_ends f first l bare (Ok answer) ends says = search (arith, file_ends)
ok_ends f first l bare (Err _) ends says = tt

pub stop_ends : (f : Dqbf) (first : ℕ) (l : AigLines) (stop : AagStop) (r : Result Judgement Memory) →
    EndsBinary l (Err stop) → IfOk r (AnswersStop stop) → IfOk r (GivesBinary f first l [])
stop_ends f first l (RefusedFile line name) (Ok answer) ends says = search arith
stop_ends f first l NoFile (Ok answer) ends says = absurd ends
stop_ends f first l stop (Err _) ends says = tt

-- another number of inputs than of universals
module _ (f : Dqbf) (first : ℕ) (bare : BareCircuit) (differ : ¬ (bare.inputs ≡ length f.universals)) where
  counted : candidate_of f (listed bare).file.circuit bare.file.symbols
      ≡ Err (record { name = InputCount; at = Whole })
  counted =
      let net = (listed bare).file.circuit in
      let many = length-range_with_len 1 bare.inputs in
      let other : not (length net.inputs == length f.universals) ≡ true =
      ap not (ne_eqb (length net.inputs) (length f.universals) (λ same. differ (sym many ∙ same))) in
      ap (with_mapping f net) (cond-true (not (length net.inputs == length f.universals))
      (Err (record { name = InputCount; at = Whole })) _ other)

  pub wrong_count : (proof : Option Dqp) (answer : Judgement) → answer ≡ Refused first (Mapping InputCount) →
      BehindMapping (binary_mapping_line first) proof (candidate_of f (listed bare).file.circuit bare.file.symbols) answer
  wrong_count proof answer is =
      subst (λ mapped. BehindMapping (binary_mapping_line first) proof mapped answer) (sym counted) is

  pub found_count : (answer : Judgement) → answer ≡ Refused first (Mapping InputCount) →
      IsProofStart (binary_mapping_line first) (candidate_of f (listed bare).file.circuit bare.file.symbols)
      (Found answer)
  found_count answer is =
      subst (λ mapped. IsProofStart (binary_mapping_line first) mapped (Found answer)) (sym counted) is

  pub no_proof_begins : (number : ℕ) (text : List ℕ) (finding : Judgement) (is_proof : Bool) → HasNoEnd text →
      is_proof ≡ begins_proof text → is_proof ≡ false → finding ≡ Refused first (Mapping InputCount) →
      BeginsComment f BinaryForm first number (listed bare).file text (Decided finding)
  no_proof_begins number text finding is_proof free is not_one found ended behind answer last says =
      search (arith, begins_same, wrong_count)

  pub no_proof_gives : (finding : Judgement) → finding ≡ Refused first (Mapping InputCount) →
      GivesBareText f first (listed bare).file (Decided finding)
  no_proof_gives finding found comment behind number answer free says = search (arith, wrong_count)
