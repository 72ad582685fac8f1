-- A circuit's lines, one by one.
use Rattle.std.proofs.Common.{◌≡◌, ℕ, ◌+◌, Bool, true, false, not, ◌&&◌, List, [], ◌∷◌, ◌++◌, Option, None, Some, Result, Ok, Err, refl, sym, ◌∙◌, ap, subst, append_assoc, arith}
use Rattle.std.specs.Prelude.{IfSome, IfNone}
use Rattle.dq_lits.specs.Formula.{Dqbf}
use Rattle.dq_text.specs.Line.{lines_from}
use Rattle.circuit_plain.specs.Netlist.{Netlist}
use Rattle.aiger_text.specs.Scan.{IsAagReading, scan}
use Rattle.aiger_text.specs.declared.faults.AagFault.{AagFault}
use Rattle.aiger_text.specs.declared.faults.AagStop.{AagStop}
use Rattle.aiger_text.specs.declared.faults.AagStop.TheVariants.{Refused as RefusedFile, Memory as NoFile}
use Rattle.aiger_text.specs.declared.files.AagFile.{AagFile}
use Rattle.aiger_text.specs.CircuitLines.{CircuitLines, GoesOn, ReadsLine, commented, gives, header_line, lines_give}
use Rattle.skolem_checker.specs.Checks.{candidate_of}
use Rattle.cert_judge.specs.CircuitPhases.{FollowsLine, IsStoppedPhase}
use Rattle.cert_judge.specs.Judgement.{line_ends, mapping_line, proof_in, BehindProof}
use Rattle.cert_judge.specs.Phases.{line_end, AnswersFile, AreLinesFrom, CircuitGives, Gives, HasNoEnd, IsEndOf, IsLastUnless, IsLawful}
use Rattle.cert_judge.specs.declared.answers.Judgement.{Judgement}
use Rattle.cert_judge.specs.declared.answers.Judgement.TheVariants.{Refused}
use Rattle.cert_judge.specs.declared.answers.CertificateFault.TheVariants.{Circuit as CircuitFault}
use Rattle.cert_judge.specs.declared.phases.Phase.{Phase}
use Rattle.cert_judge.proofs.LinesToCome.{first_is, one_more, same_comment_line}

-- the end of a text is one of a longer text
longer_end : (ended : Bool) (text behind comment : List ℕ) → IsEndOf behind comment →
    IsEndOf (text ++ (line_end ended ++ behind)) comment
longer_end ended text behind comment end = record {
  before = text ++ (line_end ended ++ end.before);
  parts = search (arith, append_assoc);
}

no_comment : (before comment : List ℕ) → [] ≡ before ++ comment → comment ≡ []
no_comment [] comment is = sym is
no_comment (byte ∷ before) comment is = cc

proof_same : (ended : Bool) (f : Dqbf) (number : ℕ) (text behind comment : List ℕ) (net : Netlist) → HasNoEnd text →
    IsLastUnless ended text behind → IsEndOf behind comment →
    proof_in f (number + 1) (line_ends behind) net (Some comment)
    ≡ proof_in f number (line_ends (text ++ (line_end ended ++ behind))) net (Some comment)
proof_same true f number text behind comment net free last end =
    search (arith, (same_comment_line number text end.before comment free))
proof_same false f number text behind comment net free last end =
    let none = no_comment end.before comment (sym last.1 ∙ end.parts) in
    subst (λ c. proof_in f (number + 1) (line_ends behind) net (Some c)
    ≡ proof_in f number (line_ends (text ++ (line_end false ++ behind))) net (Some c)) (sym none) refl

file_back : (ended : Bool) (f : Dqbf) (h number : ℕ) (text behind : List ℕ) (file : AagFile) (answer : Judgement)
    (comment : Option (List ℕ)) → file.comment ≡ comment → HasNoEnd text → IsLastUnless ended text behind →
    IfSome comment (IsEndOf behind) →
    BehindProof (mapping_line h file.circuit) (proof_in f (number + 1) (line_ends behind) file.circuit comment)
    (candidate_of f file.circuit file.symbols) answer →
    AnswersFile f h number (text ++ (line_end ended ++ behind)) (Ok file) answer
file_back ended f h number text behind file answer None is free last end says = search arith
file_back ended f h number text behind file answer (Some comment) is free last end says =
    search (arith, longer_end, proof_same)

answers_back : (ended : Bool) (f : Dqbf) (h number : ℕ) (text behind : List ℕ) (reading : Result AagFile AagStop)
    (answer : Judgement) → HasNoEnd text → IsLastUnless ended text behind →
    AnswersFile f h (number + 1) behind reading answer →
    AnswersFile f h number (text ++ (line_end ended ++ behind)) reading answer
answers_back ended f h number text behind (Ok file) answer free last says =
    file_back ended f h number text behind file answer file.comment refl free last says.0 says.1
answers_back ended f h number text behind (Err (RefusedFile line name)) answer free last says = says
answers_back ended f h number text behind (Err NoFile) answer free last says = absurd says

-- a line was read
module _ (old new : CircuitLines) (text : List ℕ) (free : HasNoEnd text) (before_comment : old.in_comment ≡ false)
    (none : old.stopped ≡ None) (reads : IfNone old.stopped (ReadsLine old text (Ok tt) new)) (goes : GoesOn old new) where
  step : ReadsLine old text (Ok tt) new
  step = subst (λ o. IfNone o (ReadsLine old text (Ok tt) new)) none reads

  -- what the bytes with the line give
  pub given : (ended : Bool) (behind : List ℕ) → IsLastUnless ended text behind →
      commented old.in_comment (text ++ (line_end ended ++ behind))
      (lines_give old (lines_from old.number (text ++ (line_end ended ++ behind))))
      ≡ commented new.in_comment behind (lines_give new (lines_from new.number behind))
  given ended behind last =
      let bytes = text ++ (line_end ended ++ behind) in
      ap (λ b. commented b bytes (lines_give old (lines_from old.number bytes))) before_comment
      ∙ ap (λ ls. lines_give old ls) (first_is ended old.number text behind free last)
      ∙ step behind (lines_from (old.number + 1) behind)
      ∙ ap (λ b. commented (not b && new.in_comment) behind (gives new.body new.in_comment (lines_from
      (old.number + 1) behind) (old.number + 1))) before_comment
      ∙ ap (λ n. commented new.in_comment behind (gives new.body new.in_comment (lines_from n behind) n))
      (sym goes.number)

  pub goes_back : (f : Dqbf) (ended : Bool) (behind : List ℕ) (answer : Judgement) → IsLastUnless ended text behind →
      CircuitGives f new behind answer → CircuitGives f old (text ++ (line_end ended ++ behind)) answer
  goes_back f ended behind answer last c =
      record {
        reading = c.reading;
        is_reading = subst (λ r. IsAagReading (header_line old) r c.reading) (sym (given ended behind last))
            (subst (λ h. IsAagReading h (commented new.in_comment behind
            (lines_give new (lines_from new.number behind))) c.reading) goes.header c.is_reading);
        answers = search (arith, answers_back);
      }

  pub still_lines : (first : ℕ) → AreLinesFrom first old → AreLinesFrom first new
  still_lines first are = record {
    early = are.early;
    header = goes.header ∙ are.header;
    reads = goes.reads;
    before = are.before ++ (text ++ (10 ∷ []));
    read = λ bytes. ap (λ t. scan t first) (one_more are.before text bytes)
        ∙ are.read (text ++ (10 ∷ bytes)) ∙ given true bytes tt;
  }

-- the line is refused
pub refused_back : (f : Dqbf) (old : CircuitLines) (text : List ℕ) (new : CircuitLines) (line : ℕ) (name : AagFault) →
    HasNoEnd text → old.in_comment ≡ false → old.stopped ≡ None →
    IfNone old.stopped (ReadsLine old text (Err (RefusedFile line name)) new) →
    (ended : Bool) (behind : List ℕ) (answer : Judgement) → IsLastUnless ended text behind →
    answer ≡ Refused line (CircuitFault name) → CircuitGives f old (text ++ (line_end ended ++ behind)) answer
refused_back f old text new line name free before_comment none reads ended behind answer last is =
    let bytes = text ++ (line_end ended ++ behind) in
    let step = subst (λ o. IfNone o (ReadsLine old text (Err (RefusedFile line name)) new)) none reads in
    record {
      reading = Err (RefusedFile line name);
      is_reading = search (arith, first_is);
      answers = is;
    }

pub stop_taken : (f : Dqbf) (old : CircuitLines) (text : List ℕ) (new : CircuitLines) (stop : AagStop) (phase : Phase) →
    HasNoEnd text → old.in_comment ≡ false → old.stopped ≡ None →
    IfNone old.stopped (ReadsLine old text (Err stop) new) → IsStoppedPhase stop phase →
    IsLawful phase × FollowsLine f old text phase
stop_taken f old text new (RefusedFile line name) phase free before_comment none reads is = (
  subst IsLawful (sym is) tt,
  λ ended behind answer last says.
      refused_back f old text new line name free before_comment none reads ended behind answer last
      (subst (λ p. Gives f p behind answer) is says),
)
stop_taken f old text new NoFile phase free before_comment none reads is = absurd is
