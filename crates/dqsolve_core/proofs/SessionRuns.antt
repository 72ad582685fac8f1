-- From the searches of a script to what is due, and why.
use Rattle.std.proofs.Common.{◌≡◌, inl, inr, ℕ, ◌≤◌, List, length, Option, Some, Result, Ok, Err, refl, sym, ap, ◌∙◌, subst, arith}
use Rattle.std.specs.Prelude.{IfOk}
use Rattle.dq_io.specs.Causes.{Rose}
use Rattle.dq_io.specs.Files.{Holding, Holds}
use Rattle.dq_io.specs.State.{FilesState}
use Rattle.dq_lits.specs.Formula.{Dqbf}
use Rattle.dq_lits.specs.declared.memory.Memory.{Memory}
use Rattle.hint_log.specs.Entries.{ProofLog}
use Rattle.dqdimacs_reader.specs.Grammar.{SpellsFormula}
use Rattle.dq_runs.specs.Ending.{IsWritten, IsEnd}
use Rattle.dq_runs.specs.FormulaFiles.{max_formula}
use Rattle.dq_runs.specs.Printed.{Printed, printed}
use Rattle.dq_runs.specs.Sinks.{SinkState}
use Rattle.dq_runs.specs.declared.formulas.NoFormula.TheVariants.{Unreadable, TooLong, Refused}
use Rattle.dq_runs.specs.declared.outputs.Output.{Output}
use Rattle.script_text.specs.Commands.{ScriptCommand}
use Rattle.script_text.specs.Reading.{read_script}
use Rattle.session_runs.specs.SessionFiles.{max_script, IsNoSession, IsScriptOf, IsSessionOf, IsSessionDue, IsSessionOutput, IsSessionLog, session_line}
use Rattle.session_runs.specs.declared.files.NoSession.{NoSession}
use Rattle.session_runs.specs.declared.files.NoSession.TheVariants.{NoFormula, UnreadableScript, LongScript, RefusedScript}
use Rattle.dqsolve_words.specs.Command.{Command, Session, session}
use Rattle.dqsolve_core.specs.Outputs.{IsReported}
use Rattle.dqsolve_core.specs.Running.{IsDue, IsRunLog}
use Rattle.dqsolve_core.specs.ToldSessions.{AreAnswered, AreAnsweredOf, ConversesTold}
use Rattle.dqsolve_core.proofs.Statuses.{Reasons}
use Rattle.dqsolve_core.proofs.ToldFiles.{FormulaLaw, no_fault, read_spells}
use Rattle.dq_runs.proofs.ToldFiles.{held_long, held_text}

-- ---- the parts

pub session_reported : (before now : FilesState) (log : ProofLog) (c : Session) (r : Result Output Memory) →
    log.limit ≡ c.steps → IfOk r (IsSessionOutput before now log c.file c.script) →
    IfOk r (IsReported before now (Some (session c)) log)
session_reported before now log c (Ok output) limit o = record {
  due = (limit, o.due);
  long = o.long;
  unfaulted = o.unfaulted;
}
session_reported before now log c (Err _) limit o = tt

pub session_log : (files : FilesState) (log : ProofLog) (c : Session) → log.limit ≡ c.steps →
    IsSessionLog files c.file c.script log → IsRunLog files (Some (session c)) log
session_log files log c limit work = inr (inr (record { command = c; is = refl; limit = limit; work = work }))

-- ---- which statuses there are, and why

said_reasons : (before now : FilesState) (c : Session) (said : NoSession) →
    IsNoSession before now c.file c.script said → Reasons before now (Some (session c)) ((session_line said).status)
said_reasons before now c (NoFormula Unreadable) is = record {
  words = λ h. absurd (omega (arith, h));
  source = λ _. is.0.counted;
  delivered = λ h. omega (arith, h);
}
said_reasons before now c UnreadableScript is = record {
  words = λ h. absurd (omega (arith, h));
  source = λ _. is.1.counted;
  delivered = λ h. omega (arith, h);
}
said_reasons before now c (NoFormula _) is = record {
  words = λ h. absurd (omega (arith, h));
  source = λ h. absurd (omega (arith, h));
  delivered = λ h. omega (arith, h);
}
said_reasons before now c _ is = record {
  words = λ h. absurd (omega (arith, h));
  source = λ h. absurd (omega (arith, h));
  delivered = λ h. omega (arith, h);
}

pub session_reasons : (before now : FilesState) (log : ProofLog) (c : Session) (p : Printed) →
    IsSessionDue before now log c.file c.script p → Reasons before now (Some (session c)) p.status
session_reasons before now log c p (inl (said, is, same)) =
    subst (λ (q : Printed). Reasons before now (Some (session c)) q.status) (sym same) (said_reasons before now c said is)
session_reasons before now log c p (inr due) =
    subst (λ (q : Printed). Reasons before now (Some (session c)) q.status) (sym due.is_printed)
    (record {
      words = λ h. absurd (omega (arith, h));
      source = λ h. absurd (omega (arith, h));
      delivered = λ h. omega (arith, h);
    })

-- ---- what is shown over files that are told

some_status : (said : NoSession) → (session_line said).status ≡ 0 → ⊥
some_status (NoFormula Unreadable) zero = omega (arith, zero)
some_status (NoFormula TooLong) zero = omega (arith, zero)
some_status (NoFormula (Refused line name)) zero = omega (arith, zero)
some_status _ zero = omega (arith, zero)

ok-is : {E : Type 0} (a b : List ScriptCommand) → ◌≡◌ {A = Result (List ScriptCommand) E} (Ok a) (Ok b) → a ≡ b
ok-is a b e = cc

told_reading : (holding : Holding) (script : List ℕ) (f : Dqbf) (commands : List ScriptCommand) →
    holding ≡ Holds script → IsScriptOf holding f commands → read_script f script ≡ Ok commands
told_reading holding script f commands told is =
    subst (λ text. read_script f text ≡ Ok commands) (held_text holding script is.text told is.read.is) is.reading

answered_of : (files now : FilesState) (log : ProofLog) (c : Session) (p : Printed) (sink sink_now : SinkState)
    (status : ℕ) → log.limit ≡ c.steps → (due : IsSessionOf files now log c.file c.script p) →
    IsWritten p sink sink_now status → AreAnswered due.f due.commands log c sink.taken sink_now.taken status
answered_of files now log c p sink sink_now status limit due w =
    let is = subst (λ q. IsWritten q sink sink_now status) due.is_printed w in
    record {
      searches = due.searches;
      limit = limit;
      searched = due.searched;
      ends_with = is.ends_with;
      written = is.taken;
    }

right_by : (files now : FilesState) (log : ProofLog) (c : Session) (formula script : List ℕ) (p : Printed)
    (sink sink_now : SinkState) (status : ℕ) → files.held c.file ≡ Holds formula →
    files.held c.script ≡ Holds script → log.limit ≡ c.steps → status ≡ 0 →
    IsSessionDue files now log c.file c.script p → IsWritten p sink sink_now status →
    AreAnsweredOf formula script log c sink.taken sink_now.taken status
right_by files now log c formula script p sink sink_now status told script_told limit zero (inl (said, is, same)) w =
    absurd (some_status said (sym (ap (λ (q : Printed). q.status) same) ∙ sym w.ends_with ∙ zero))
right_by files now log c formula script p sink sink_now status told script_told limit zero (inr due) w = record {
  f = due.f;
  commands = due.commands;
  spelled = read_spells (files.held c.file) formula due.f told due.formula;
  well_formed = due.formula.well_formed;
  reading = told_reading (files.held c.script) script due.f due.commands script_told due.script_is;
  are = answered_of files now log c p sink sink_now status limit due w;
}

none_said : FormulaLaw → (files now : FilesState) (c : Session) (formula script : List ℕ) (f : Dqbf)
    (commands : List ScriptCommand) → files.held c.file ≡ Holds formula → files.held c.script ≡ Holds script →
    length formula ≤ max_formula → length script ≤ max_script → SpellsFormula formula f →
    read_script f script ≡ Ok commands → (Rose files.faults now.faults → ⊥) → (said : NoSession) →
    IsNoSession files now c.file c.script said → ⊥
none_said law files now c formula script f commands told script_told short script_short spelled reading sound
    (NoFormula Unreadable) is = sound is.0.counted
none_said law files now c formula script f commands told script_told short script_short spelled reading sound
    (NoFormula TooLong) is =
    let long = held_long max_formula (files.held c.file) formula told is.0.long in omega (arith, long, short)
none_said law files now c formula script f commands told script_told short script_short spelled reading sound
    (NoFormula (Refused line name)) is =
    no_fault law formula f (files.held c.file) (record { line = line; name = name }) told spelled is.0
none_said law files now c formula script f commands told script_told short script_short spelled reading sound
    UnreadableScript is = sound is.1.counted
none_said law files now c formula script f commands told script_told short script_short spelled reading sound
    LongScript is =
    let long = held_long max_script (files.held c.script) script script_told is.1.long in
    omega (arith, long, script_short)
none_said law files now c formula script f commands told script_told short script_short spelled reading sound
    (RefusedScript line name) is =
    let (g, one, refused) = is.0 in
    let same = law.unique formula g f (read_spells (files.held c.file) formula g told one) spelled in
    let there = subst (λ text. read_script g text ≡ Err (record { line = line; name = name }))
    (held_text (files.held c.script) script refused.text script_told refused.read.is) refused.refused in
    no-both (read_script f script) (subst (λ h. read_script h script ≡ Err (record { line = line; name = name })) same there)
    reading
  where
    no-both : {A E : Type 0} (r : Result A E) {e : E} {a : A} → r ≡ Err e → r ≡ Ok a → ⊥
    no-both r refused made = cc

answered_by : FormulaLaw → (files now : FilesState) (log : ProofLog) (c : Session) (formula script : List ℕ) (f : Dqbf)
    (commands : List ScriptCommand) (p : Printed) (sink sink_now : SinkState) (status : ℕ) →
    files.held c.file ≡ Holds formula → files.held c.script ≡ Holds script → log.limit ≡ c.steps →
    length formula ≤ max_formula → length script ≤ max_script → SpellsFormula formula f →
    read_script f script ≡ Ok commands → (Rose files.faults now.faults → ⊥) →
    IsSessionDue files now log c.file c.script p → IsWritten p sink sink_now status →
    AreAnswered f commands log c sink.taken sink_now.taken status
answered_by law files now log c formula script f commands p sink sink_now status told script_told limit short
    script_short spelled reading sound (inl (said, is, same)) w =
    absurd (none_said law files now c formula script f commands told script_told short script_short spelled reading
    sound said is)
answered_by law files now log c formula script f commands p sink sink_now status told script_told limit short
    script_short spelled reading sound (inr due) w =
    let same = law.unique formula due.f f (read_spells (files.held c.file) formula due.f told due.formula) spelled in
    let there = told_reading (files.held c.script) script due.f due.commands script_told due.script_is in
    let commands_are = ok-is due.commands commands (sym (subst (λ h. read_script h script ≡ Ok due.commands) same there)
    ∙ reading) in
    subst (λ cs. AreAnswered f cs log c sink.taken sink_now.taken status) commands_are
    (subst (λ h. AreAnswered h due.commands log c sink.taken sink_now.taken status) same
    (answered_of files now log c p sink sink_now status limit due w))

pub converses_told : FormulaLaw → (files now : FilesState) (asked : Option Command) (log : ProofLog)
    (sink sink_now : SinkState) (r : Result Output Memory) (status : ℕ) →
    IfOk r (IsReported files now asked log) → IsEnd r sink sink_now status →
    ConversesTold files now asked log sink sink_now status
converses_told law files now asked log sink sink_now (Ok output) status o (inl w) = record {
  right = λ formula script told zero.
      let due = subst (λ command. IsDue files now log command (printed output)) told.is o.due in
      right_by files now log told.command formula script (printed output) sink sink_now status told.formula_held
      told.script_held due.0 zero due.1 w;
  answered = λ formula script f commands told short script_short spelled reading sound _ _.
      let due = subst (λ command. IsDue files now log command (printed output)) told.is o.due in
      answered_by law files now log told.command formula script f commands (printed output) sink sink_now status
      told.formula_held told.script_held due.0 short script_short spelled reading sound due.1 w;
}
converses_told law files now asked log sink sink_now (Ok output) status o (inr cut) =
    let four = cut.ends_with in
    record {
      right = λ formula script told zero. absurd (omega (arith, four, zero));
      answered = λ formula script f commands told short script_short spelled reading sound delivered _.
          absurd (delivered cut.counted);
    }
converses_told law files now asked log sink sink_now (Err _) status o unwritten =
    let five = unwritten.ends_with in
    record {
      right = λ formula script told zero. absurd (omega (arith, five, zero));
      answered = λ formula script f commands told short script_short spelled reading sound _ made. absurd (made five);
    }
