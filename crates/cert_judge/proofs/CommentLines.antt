-- The first line of a circuit's comment.
use Rattle.std.proofs.Common.{◌≡◌, ◌≢◌, ℕ, suc, ◌+◌, ◌==◌, ◌↔◌, Bool, true, false, not, cond, List, [], ◌∷◌, ◌++◌, length, Option, None, Some, Result, Ok, Err, refl, sym, ◌∙◌, ap, subst, arith, inl, inr, append-nil, length-append, nat_lt}
use Rattle.std.specs.Prelude.{IfOk, IfNone, IsSome}
use Rattle.std.specs.List.{position, position_or_len}
use Rattle.std.proofs.Math.Seq.{take-append_seam}
use Rattle.std.proofs.lemmas.Bool.{ne_eqb, le-ltb, lt-ltb}
use Rattle.std.proofs.lemmas.List.Elements.{All-head, All-tail}
use Rattle.dq_lits.specs.Derivation.{ProofFault, LiveClauses}
use Rattle.dq_lits.specs.Formula.{Dqbf}
use Rattle.dq_lits.specs.declared.memory.Memory.{Memory}
use Rattle.dq_text.specs.Line.{TextLine, lines_from}
use Rattle.circuit_plain.specs.Netlist.{Netlist}
use Rattle.aiger_text.specs.Scan.{AllGrounded, IsAagReading, LineFault, scan}
use Rattle.aiger_text.specs.Scan.{Body}
use Rattle.aiger_text.specs.Grammar.{SpellsCircuit}
use Rattle.aiger_text.specs.Symbol.{SymbolTable}
use Rattle.aiger_text.specs.declared.faults.AagStop.{AagStop}
use Rattle.aiger_text.specs.declared.faults.AagStop.TheVariants.{Refused as RefusedFile, Memory as NoFile}
use Rattle.aiger_text.specs.declared.files.AagFile.{AagFile}
use Rattle.aiger_text.specs.CircuitLines.{CircuitLines, commented, gives, header_line, lines_give}
use Rattle.rup_core.specs.Items.{ProofItem, items_fault}
use Rattle.rup_core.specs.Runs.{Run, run_fault, start, with_items}
use Rattle.cert_text.specs.CircuitProof.{circuit_proof_of, first_proof_id, read_proof}
use Rattle.cert_text.specs.Numbering.{numbered_from}
use Rattle.cert_text.specs.Lines.{IsReading}
use Rattle.cert_text.specs.declared.circuit_proofs.Dqp.{Dqp}
use Rattle.cert_text.specs.declared.faults.CertRefusal.{CertRefusal}
use Rattle.cert_text.specs.declared.faults.CertStop.{CertStop}
use Rattle.cert_text.specs.declared.faults.CertStop.TheVariants.{Refused as RefusedText, Memory as NoText}
use Rattle.cert_stream.specs.KeptLines.{proof_seen}
use Rattle.cert_stream.specs.ProofState.{AnswersLines, MayAnswer, ProofState, answers_by, judged_whole, run_in}
use Rattle.proof_checker.specs.CircuitProof.{negated_candidate}
use Rattle.proof_checker.specs.Judging.{run_of, IsJudging}
use Rattle.proof_checker.specs.declared.judging.CircuitProving.{CircuitProving}
use Rattle.skolem_checker.specs.Checks.{Candidate, candidate_of, with_mapping}
use Rattle.skolem_checker.specs.Mapping.{Mapping}
use Rattle.skolem_checker.specs.SkolemCircuit.{IsComplete}
use Rattle.skolem_checker.specs.declared.mapping.MapError.{MapError}
use Rattle.skolem_checker.specs.declared.mapping.MapPlace.{MapPlace}
use Rattle.skolem_checker.proofs.LiteralNumbers.{spelled_complete}
use Rattle.cert_judge.specs.CircuitPhases.{BeginsComment, BeginsProof, FollowsLine, GivesFreeText, IsStoppedPhase, IsWholeCircuit}
use Rattle.cert_judge.specs.Judgement.{as_proof, begins_proof, comment_line, first_line, line_ends, mapping_line, proof_in, proof_on, BehindMapping, BehindProof, IsTested}
use Rattle.cert_judge.specs.Phases.{found_or_derived, line_end, AnswersFile, AreLinesFrom, CircuitGives, Gives, HasNoEnd, IsJudged, IsLastUnless, ProofGives, SaysProof}
use Rattle.cert_judge.specs.Places.{AnswersStop, HasFewLines, mapping_line_in}
use Rattle.cert_judge.specs.declared.circuits.Form.{Form}
use Rattle.cert_judge.specs.declared.circuits.Form.TheVariants.{Ascii}
use Rattle.cert_judge.specs.ProofStart.{IsProofStart, SaysRead}
use Rattle.cert_judge.specs.declared.answers.Judgement.{Judgement}
use Rattle.cert_judge.specs.declared.phases.Phase.{Phase}
use Rattle.cert_judge.specs.declared.phases.Phase.TheVariants.{FreeText}
use Rattle.cert_judge.specs.declared.proof_starts.ProofStart.TheVariants.{Found, Proving}
use Rattle.cert_judge.proofs.LinesToCome.{first_is, line_of}
use Rattle.cert_judge.proofs.Places.{spelled_few}

abbrev NoFeed : ℕ → Type 0
NoFeed byte = byte ≢ 10

abbrev is_feed : ℕ → Bool
is_feed byte = byte == 10

one_more_is : {m n : ℕ} → m ≡ n → 1 + m ≡ suc n
one_more_is same = omega (arith, same)

place_of_feed : (text behind : List ℕ) → HasNoEnd text → position_or_len is_feed (text ++ (10 ∷ behind)) ≡ length text
place_of_feed [] behind free = refl
place_of_feed (byte ∷ text) behind free =
    ap (λ b. cond (not b) (1 + position_or_len is_feed (text ++ (10 ∷ behind))) 0)
    (ne_eqb byte 10 (All-head NoFeed byte text free))
    ∙ one_more_is (place_of_feed text behind (All-tail NoFeed byte text free))

no_feed : (text : List ℕ) → HasNoEnd text → position_or_len is_feed text ≡ length text
no_feed [] free = refl
no_feed (byte ∷ text) free =
    ap (λ b. cond (not b) (1 + position_or_len is_feed text) 0) (ne_eqb byte 10 (All-head NoFeed byte text free))
    ∙ one_more_is (no_feed text (All-tail NoFeed byte text free))

feed_found : (text behind : List ℕ) → HasNoEnd text → position is_feed (text ++ (10 ∷ behind)) ≡ Some (length text)
feed_found text behind free = search (arith, length-append, nat_lt, place_of_feed, lt-ltb)

feed_missed : (text : List ℕ) → HasNoEnd text → position is_feed text ≡ None
feed_missed text free = search (arith, nat_lt, le-ltb, no_feed)

pub one_line_first : (text : List ℕ) → HasNoEnd text → first_line text ≡ text
one_line_first text free = rw (feed_missed text free) refl

pub fed_line_first : (text behind : List ℕ) → HasNoEnd text → first_line (text ++ (10 ∷ behind)) ≡ text
fed_line_first text behind free = rw (feed_found text behind free) (take-append_seam text (10 ∷ behind))

first_is_line : (ended : Bool) (text behind : List ℕ) → HasNoEnd text → IsLastUnless ended text behind →
    first_line (text ++ (line_end ended ++ behind)) ≡ first_line text
first_is_line true text behind free last = fed_line_first text behind free ∙ sym (one_line_first text free)
first_is_line false text behind free last = search (arith, append-nil)

pub begins_same : (ended : Bool) (text behind : List ℕ) → HasNoEnd text → IsLastUnless ended text behind →
    begins_proof (text ++ (line_end ended ++ behind)) ≡ begins_proof text
begins_same ended text behind free last = search (arith, first_is_line)

-- the lines' file behind the comment's mark, whatever lines come
gives_whole : (body : Option Body) (b : Bool) (number other : ℕ) (lines : List TextLine) → b ≡ true → IsSome body →
    gives body b lines number ≡ gives body b [] other
gives_whole None b number other lines whole some = cc
gives_whole (Some body) true number other lines whole some = refl
gives_whole (Some body) false number other lines whole some = cc

module _ (l : CircuitLines) (whole : IsWholeCircuit l) where
  same_file : (bytes : List ℕ) → lines_give l (lines_from l.number bytes) ≡ lines_give l []
  same_file bytes = search (arith, gives_whole)

commented_stop : (h : ℕ) (bytes : List ℕ) (b : Bool) (read : Result AagFile LineFault) (stop : AagStop) →
    IsAagReading h read (Err stop) → IsAagReading h (commented b bytes read) (Err stop)
commented_stop h bytes true (Ok file) (RefusedFile line name) is = is
commented_stop h bytes true (Ok file) NoFile is = tt
commented_stop h bytes true (Err fault) stop is = is
commented_stop h bytes false read stop is = is

abbrev bare_file : Netlist → SymbolTable → AagFile
bare_file net symbols = record { circuit = net; symbols = symbols; comment = None }

-- what the law of the circuits' grammar gives
abbrev pub ReadIsSpelled : Type 0
ReadIsSpelled = (text : List ℕ) (first : ℕ) (file : AagFile) → SpellsCircuit text file
    ↔ ((scan text first ≡ Ok file) × AllGrounded file.circuit)

pub file_of : (h : ℕ) (read : Result AagFile LineFault) (file : AagFile) → IsAagReading h read (Ok file) →
    (read ≡ Ok file) × AllGrounded file.circuit
file_of h (Ok read) file is = (ap Ok (sym is.0), subst (λ (f : AagFile). AllGrounded f.circuit) (sym is.0) is.1)
file_of h (Err fault) file is = absurd is

abbrev with_comment : Bool → List ℕ → Netlist → SymbolTable → AagFile
with_comment true bytes net symbols = record { circuit = net; symbols = symbols; comment = Some bytes }
with_comment false bytes net symbols = bare_file net symbols

commented_file : (b : Bool) (bytes : List ℕ) (net : Netlist) (symbols : SymbolTable) →
    commented b bytes (Ok (bare_file net symbols)) ≡ Ok (with_comment b bytes net symbols)
commented_file true bytes net symbols = refl
commented_file false bytes net symbols = refl

same_circuit : (b : Bool) (bytes : List ℕ) (net : Netlist) (symbols : SymbolTable) →
    (with_comment b bytes net symbols).circuit ≡ net
same_circuit true bytes net symbols = refl
same_circuit false bytes net symbols = refl

module _ (law : ReadIsSpelled) (first : ℕ) (l : CircuitLines) (net : Netlist) (symbols : SymbolTable)
    (are : AreLinesFrom first l)
    (reading : IfNone l.stopped (IsAagReading (header_line l) (lines_give l []) (Ok (bare_file net symbols)))) where
  abbrev Reading : Type 0
  Reading = IsAagReading (header_line l) (lines_give l []) (Ok (bare_file net symbols))

  read : (lines_give l [] ≡ Ok (bare_file net symbols)) × AllGrounded net
  read = file_of (header_line l) (lines_give l []) (bare_file net symbols)
      (subst (λ o. IfNone o Reading) are.reads reading)

  abbrev file : AagFile
  file = with_comment l.in_comment [] net symbols

  spelled : SpellsCircuit (are.before ++ []) file
  spelled = (law (are.before ++ []) first file).1 (
    are.read [] ∙ ap (commented l.in_comment []) read.0 ∙ commented_file l.in_comment [] net symbols,
    subst AllGrounded (sym (same_circuit l.in_comment [] net symbols)) read.1,
  )

  pub read_judged : IsJudged first (bare_file net symbols)
  read_judged = record {
    early = are.early;
    complete = subst IsComplete (same_circuit l.in_comment [] net symbols)
        (spelled_complete (are.before ++ []) file spelled);
    few = subst HasFewLines (same_circuit l.in_comment [] net symbols)
        (spelled_few (are.before ++ []) file spelled);
  }

  pub comment_follows : (f : Dqbf) (number : ℕ) (text : List ℕ) (phase : Phase) → IsWholeCircuit l →
      number ≡ l.number → BeginsComment f Ascii first number (bare_file net symbols) text phase →
      FollowsLine f l text phase
  comment_follows f number text phase whole same begins ended behind answer last says =
      let bytes = text ++ (line_end ended ++ behind) in
      let counted : comment_line l.number (line_ends bytes) bytes ≡ number = omega (arith, same) in
      let given = begins ended behind answer last says in
      record {
        reading = Ok (record { circuit = net; symbols = symbols; comment = Some bytes });
        is_reading = search (arith, same_file);
        answers = (
          record { before = []; parts = refl },
          subst (λ h. BehindProof (mapping_line h net)
              (proof_in f l.number (line_ends bytes) net (Some bytes)) (candidate_of f net symbols) answer)
              (sym are.header)
              (subst (λ n. BehindProof (mapping_line first net)
              (cond (begins_proof bytes) (as_proof (circuit_proof_of f net bytes n)) (Ok None))
              (candidate_of f net symbols) answer) (sym counted) given),
        );
      }

  -- whatever bytes the comment has, if these are no proof
  pub free_gives : IsWholeCircuit l → (f : Dqbf) (bytes behind : List ℕ) (answer : Judgement) →
      begins_proof bytes ≡ false → BehindMapping (mapping_line first net) None (candidate_of f net symbols) answer →
      CircuitGives f l bytes answer
  free_gives whole f bytes behind answer free given =
      record {
        reading = Ok (record { circuit = net; symbols = symbols; comment = Some bytes });
        is_reading = search (arith, same_file);
        answers = search arith;
      }

-- the circuit's lines stopped there
refused_free : (l : CircuitLines) (stop : AagStop) (phase : Phase) → l.stopped ≡ None → IsWholeCircuit l →
    IfNone l.stopped (IsAagReading (header_line l) (lines_give l []) (Err stop)) → IsStoppedPhase stop phase →
    GivesFreeText l phase
refused_free l (RefusedFile line name) phase none whole reading is f bytes behind answer free says =
    let stop = RefusedFile line name in
    record {
      reading = Err stop;
      is_reading = search (arith, commented_stop, same_file);
      answers = subst (λ p. Gives f p behind answer) is says;
    }
refused_free l NoFile phase none whole reading is f bytes behind answer free says = absurd is

pub stop_free : (l : CircuitLines) (stop : AagStop) (r : Result Phase Memory) → l.stopped ≡ None → IsWholeCircuit l →
    IfNone l.stopped (IsAagReading (header_line l) (lines_give l []) (Err stop)) → IfOk r (IsStoppedPhase stop) →
    IfOk r (GivesFreeText l)
stop_free l stop (Ok phase) none whole reading is = refused_free l stop phase none whole reading is
stop_free l stop (Err _) none whole reading is = tt

-- a comment that is no proof
pub free_text_begins : (f : Dqbf) (form : Form) (first number : ℕ) (file : AagFile) (text : List ℕ) (is_proof : Bool) →
    HasNoEnd text → is_proof ≡ begins_proof text → is_proof ≡ false →
    BeginsComment f form first number file text (FreeText form first file)
free_text_begins f form first number file text is_proof free is not_one ended behind answer last says =
    search (arith, begins_same)

-- the proof's text, line by line
renumbered : (s : ProofState) (number : ℕ) (b : Bool) (o : Option CertStop) (bytes : List ℕ)
    (said : Result (Option (Option ProofFault)) CertStop) → s.failed ≡ b → s.lines.stopped ≡ o →
    (b ≡ false → IfNone o (s.lines.number ≡ number)) → MayAnswer s (lines_from s.lines.number bytes) said →
    MayAnswer s (lines_from number bytes) said
renumbered s number true o bytes said failed stopped counts may =
    subst (λ c. answers_by c s (lines_from number bytes) said) (sym failed)
    (subst (λ c. answers_by c s (lines_from s.lines.number bytes) said) failed may)
renumbered s number false None bytes said failed stopped counts may =
    subst (λ n. MayAnswer s (lines_from n bytes) said) (counts refl) may
renumbered s number false (Some stop) bytes said failed stopped counts may =
    let given = subst (λ c. answers_by c s (lines_from s.lines.number bytes) said) failed may in
    subst (λ c. answers_by c s (lines_from number bytes) said) (sym failed)
    (subst (λ c. AnswersLines (proof_seen s.lines) (run_in s) c (lines_from number bytes) said) (sym stopped)
    (subst (λ c. AnswersLines (proof_seen s.lines) (run_in s) c (lines_from s.lines.number bytes) said) stopped given))

module _ (finding : Option Judgement) (old new : ProofState) (text : List ℕ) (free : HasNoEnd text)
    (counts : new.failed ≡ false → IfNone new.lines.stopped (new.lines.number ≡ old.lines.number + 1))
    (line : (behind : List ℕ) (lines : List TextLine) (said : Result (Option (Option ProofFault)) CertStop) →
    MayAnswer new lines said → MayAnswer old (line_of text old.lines.number behind ∷ lines) said) where
  pub proof_takes : (ended : Bool) (behind : List ℕ) (answer : Judgement) → IsLastUnless ended text behind →
      ProofGives finding new behind answer → ProofGives finding old (text ++ (line_end ended ++ behind)) answer
  proof_takes ended behind answer last p = search (arith, first_is)

says_read : (finding : Option Judgement) (run : Option Run) (read : Result Dqp CertRefusal)
    (said : Result (Option (Option ProofFault)) CertStop) (answer : Judgement) →
    IsReading (judged_whole run read) said → SaysProof finding said answer → SaysRead finding run read answer
says_read finding run (Ok d) (Ok fault) answer is says = search arith
says_read finding run (Ok d) (Err (RefusedText r)) answer is says = cc
says_read finding run (Ok d) (Err NoText) answer is says = absurd says
says_read finding run (Err r) (Ok fault) answer is says = cc
says_read finding run (Err r) (Err (RefusedText s)) answer is says = search arith
says_read finding run (Err r) (Err NoText) answer is says = absurd says

-- before the header line of a proof
pub proof_begins : (f : Dqbf) (net : Netlist) (number : ℕ) (finding : Option Judgement) (run : Option Run)
    (fresh : ProofState) → fresh.lines.number ≡ number →
    ((lines : List TextLine) (said : Result (Option (Option ProofFault)) CertStop) → MayAnswer fresh lines said →
    IsReading (judged_whole run (read_proof f net lines number)) said) →
    (bytes : List ℕ) (answer : Judgement) → ProofGives finding fresh bytes answer →
    SaysRead finding run (circuit_proof_of f net bytes number) answer
proof_begins f net number finding run fresh first begun bytes answer p = search (arith, says_read)

-- the proof is judged behind what was found
found_says : (line_of : MapPlace → ℕ) (mapped : Result Candidate MapError) (d : Dqp) (found answer : Judgement) →
    IsProofStart line_of mapped (Found found) → answer ≡ found → BehindMapping line_of (Some d) mapped answer
found_says line_of (Err fault) d found answer is same = same ∙ is
found_says line_of (Ok c) d found answer is same = subst (IsTested (Some d) c) (sym same) (inl is)

abbrev RunIsFault : Type 0
RunIsFault = (live : LiveClauses) (items : List ProofItem) →
    run_fault (with_items (start live) items) ≡ items_fault false live items

derived_says : RunIsFault → (f : Dqbf) (net : Netlist) (symbols : SymbolTable) (line_of : MapPlace → ℕ)
    (mapped : Result Candidate MapError) (d : Dqp) (p : CircuitProving) (answer : Judgement) →
    ((c : Candidate) → mapped ≡ Ok c → (c.formula ≡ f) × (c.circuit.netlist ≡ net)) →
    IsProofStart line_of mapped (Proving p) →
    answer ≡ found_or_derived None (Some (run_fault (with_items (run_of f net p) d.items))) →
    BehindMapping line_of (Some d) mapped answer
derived_says law f net symbols line_of (Err fault) d p answer parts is says = absurd is
derived_says law f net symbols line_of (Ok c) d p answer parts is says =
    let same = parts c refl in
    let run = subst (λ n. run_of f n p ≡ start (negated_candidate c)) same.1
    (subst (λ g. run_of g c.circuit.netlist p ≡ start (negated_candidate c)) same.0 is.run) in
    inr (record {
      reads = is.reads;
      tested = says ∙ ap (λ r. found_or_derived None (Some (run_fault (with_items r d.items)))) run
          ∙ ap (λ o. found_or_derived None (Some o)) (law (negated_candidate c) d.items);
    })

mapped_parts : (f : Dqbf) (net : Netlist) (r : Result Mapping MapError) (c : Candidate) →
    with_mapping f net r ≡ Ok c → (c.formula ≡ f) × (c.circuit.netlist ≡ net)
mapped_parts f net (Ok mapping) c is = search arith
mapped_parts f net (Err fault) c is = cc

-- a comment that is a proof
module _ (f : Dqbf) (form : Form) (first number : ℕ) (file : AagFile) (text : List ℕ) (phase : Phase) (is_proof : Bool)
    (free : HasNoEnd text) (is : is_proof ≡ begins_proof text) (one : is_proof ≡ true) where
  abbrev mapped : Result Candidate MapError
  mapped = candidate_of f file.circuit file.symbols

  behind_text : (ended : Bool) (behind : List ℕ) (answer : Judgement) → IsLastUnless ended text behind →
      BehindProof (mapping_line_in form first file.circuit)
      (as_proof (circuit_proof_of f file.circuit (text ++ (line_end ended ++ behind)) number)) mapped answer →
      BehindProof (mapping_line_in form first file.circuit)
      (proof_on f file.circuit (Some (text ++ (line_end ended ++ behind))) (Some number)) mapped answer
  behind_text ended behind answer last says = search (arith, begins_same)

  found_read : (found : Judgement) (run : Option Run) (read : Result Dqp CertRefusal) (answer : Judgement) →
      IsProofStart (mapping_line_in form first file.circuit) mapped (Found found) → SaysRead (Some found) run read answer →
      BehindProof (mapping_line_in form first file.circuit) (as_proof read) mapped answer
  found_read found run (Ok d) answer stands says = search (arith, found_says)
  found_read found run (Err refusal) answer stands says = says

  pub found_begins : (found : Judgement) (run : Option Run) →
      IsProofStart (mapping_line_in form first file.circuit) mapped (Found found) →
      BeginsProof f file.circuit number (Some found) run text phase → BeginsComment f form first number file text phase
  found_begins found run stands begins ended behind answer last says = search (arith, behind_text, found_read)

  derived_read : RunIsFault → (p : CircuitProving) (read : Result Dqp CertRefusal) (answer : Judgement) →
      IsProofStart (mapping_line_in form first file.circuit) mapped (Proving p) →
      SaysRead None (Some (run_of f file.circuit p)) read answer →
      BehindProof (mapping_line_in form first file.circuit) (as_proof read) mapped answer
  derived_read law p (Ok d) answer stands says = search (arith, derived_says, mapped_parts)
  derived_read law p (Err refusal) answer stands says = says

  pub derived_begins : RunIsFault → (p : CircuitProving) →
      IsProofStart (mapping_line_in form first file.circuit) mapped (Proving p) →
      BeginsProof f file.circuit number None (Some (run_of f file.circuit p)) text phase →
      BeginsComment f form first number file text phase
  derived_begins law p stands begins ended behind answer last says = search (arith, behind_text, derived_read)

-- a proof that is judged is one for the circuit
pub judging_fresh : (f : Dqbf) (net : Netlist) (line_of : MapPlace → ℕ) (mapped : Result Candidate MapError)
    (p : CircuitProving) → ((c : Candidate) → mapped ≡ Ok c → (c.formula ≡ f) × (c.circuit.netlist ≡ net)) →
    IsProofStart line_of mapped (Proving p) → IsJudging f net p (numbered_from (first_proof_id f net))
judging_fresh f net line_of (Err fault) p parts is = absurd is
judging_fresh f net line_of (Ok c) p parts is =
    let same = parts c refl in
    subst (λ n. IsJudging f n p (numbered_from (first_proof_id f n))) same.1
    (subst (λ g. IsJudging g c.circuit.netlist p (numbered_from (first_proof_id g c.circuit.netlist))) same.0 is.judging)

pub standing_judges : (f : Dqbf) (form : Form) (first : ℕ) (file : AagFile) (p : CircuitProving) →
    IsProofStart (mapping_line_in form first file.circuit) (candidate_of f file.circuit file.symbols) (Proving p) →
    IsJudging f file.circuit p (numbered_from (first_proof_id f file.circuit))
standing_judges f form first file p is = search (arith, judging_fresh, mapped_parts)

pub ok_follows : (f : Dqbf) (l : CircuitLines) (first number : ℕ) (file : AagFile) (text : List ℕ)
    (r : Result Phase Memory) →
    ((phase : Phase) → BeginsComment f Ascii first number file text phase → FollowsLine f l text phase) →
    IfOk r (BeginsComment f Ascii first number file text) → IfOk r (FollowsLine f l text)
ok_follows f l first number file text (Ok phase) follows begins = follows phase begins
ok_follows f l first number file text (Err _) follows begins = tt

-- the text ends
ended_answers : (b : Bool) (f : Dqbf) (h number : ℕ) (net : Netlist) (symbols : SymbolTable) (answer : Judgement) →
    BehindMapping (mapping_line h net) None (candidate_of f net symbols) answer →
    AnswersFile f h number [] (Ok (with_comment b [] net symbols)) answer
ended_answers true f h number net symbols answer says = (record { before = []; parts = refl }, says)
ended_answers false f h number net symbols answer says = (tt, says)

pub file_ends : (f : Dqbf) (first : ℕ) (l : CircuitLines) (net : Netlist) (symbols : SymbolTable)
    (r : Result Judgement Memory) → AreLinesFrom first l →
    IfNone l.stopped (IsAagReading (header_line l) (lines_give l []) (Ok (bare_file net symbols))) →
    IfOk r (BehindMapping (mapping_line first net) None (candidate_of f net symbols)) → IfOk r (CircuitGives f l [])
file_ends f first l net symbols (Ok answer) are reading says =
    let h = header_line l in
    let file = with_comment l.in_comment [] net symbols in
    let parts = file_of h (lines_give l []) (bare_file net symbols)
    (subst (λ o. IfNone o (IsAagReading h (lines_give l []) (Ok (bare_file net symbols)))) are.reads reading) in
    record {
      reading = Ok file;
      is_reading = search (arith, commented_file, same_circuit);
      answers = search (arith, ended_answers);
    }
file_ends f first l net symbols (Err _) are reading says = tt

stop_answers : (f : Dqbf) (h number : ℕ) (stop : AagStop) (answer : Judgement) → AnswersStop stop answer →
    AnswersFile f h number [] (Err stop) answer
stop_answers f h number (RefusedFile line name) answer says = says
stop_answers f h number NoFile answer says = absurd says

pub stop_ends : (f : Dqbf) (l : CircuitLines) (stop : AagStop) (r : Result Judgement Memory) → l.stopped ≡ None →
    IfNone l.stopped (IsAagReading (header_line l) (lines_give l []) (Err stop)) → IfOk r (AnswersStop stop) →
    IfOk r (CircuitGives f l [])
stop_ends f l stop (Ok answer) none reading says = record {
  reading = Err stop;
  is_reading = commented_stop (header_line l) [] l.in_comment (lines_give l []) stop
      (subst (λ o. IfNone o (IsAagReading (header_line l) (lines_give l []) (Err stop))) none reading);
  answers = stop_answers f (header_line l) l.number stop answer says;
}
stop_ends f l stop (Err _) none reading says = tt
