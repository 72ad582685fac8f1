-- From what a run's parts answer to what is due, and why.
use Rattle.std.proofs.Common.{◌≡◌, ◌≢◌, inl, inr, ℕ, Bool, true, false, Option, None, Some, Result, Ok, Err, refl, sym, ap, ◌∙◌, subst, arith}
use Rattle.std.specs.Prelude.{IfOk, option_map}
use Rattle.dq_io.specs.State.{FilesState}
use Rattle.dq_lits.specs.Formula.{Dqbf}
use Rattle.dq_lits.specs.declared.memory.Memory.{Memory}
use Rattle.hint_log.specs.Entries.{ProofLog, steps_of}
use Rattle.hint_log.specs.ProductiveLog.{IsProductiveLog}
use Rattle.dq_runs.specs.Ending.{IsEnd, Ends, HasCauses}
use Rattle.dq_runs.specs.FileTexts.{PickedOnce}
use Rattle.dq_runs.specs.FormulaFiles.{IsFormulaOf, IsNoFormula}
use Rattle.dq_runs.specs.Printed.{Printed, printed}
use Rattle.dq_runs.specs.Sinks.{SinkState}
use Rattle.dq_runs.specs.declared.formulas.NoFormula.{NoFormula}
use Rattle.dq_runs.specs.declared.formulas.NoFormula.TheVariants.{Unreadable, TooLong}
use Rattle.dq_runs.specs.declared.outputs.Output.{Output}
use Rattle.dq_verdicts.specs.Outputs.{IsVerdictOutput}
use Rattle.dq_verdicts.specs.Prepared.{IsPreparedOutput, IsPreparedLog}
use Rattle.verdict_texts.specs.Verdicts.{printed_verdict}
use Rattle.verdict_texts.specs.declared.forms.Form.{Form}
use Rattle.dq_verdicts.specs.declared.demonstrations.Demonstration.{Demonstration}
use Rattle.dq_verdicts.specs.declared.demonstrations.Demonstration.TheVariants.{Valid, CutOff}
use Rattle.dqsolve_words.specs.Command.{Options, Search, Planting, Command, solve, demo, pec, encode, defined, session, default_steps}
use Rattle.dqsolve_words.specs.Words.{search_of, planting_of, comparison_of, session_of, command_said}
use Rattle.dqsolve_words.specs.declared.requests.SolveWords.{SolveWords}
use Rattle.dqsolve_words.specs.declared.requests.DemoWords.{DemoWords}
use Rattle.dqsolve_words.specs.declared.requests.PecWords.{PecWords}
use Rattle.dqsolve_words.specs.declared.requests.SessionWords.{SessionWords}
use Rattle.dqsolve_words.specs.declared.requests.CommandWords.{CommandWords}
use Rattle.dqsolve_words.specs.declared.requests.CommandWords.TheVariants.{Solve, Demo, Pec, Session as SessionCommand}
use Rattle.dqsolve_core.specs.Outputs.{IsReported, IsSolveOutput, IsSolveLog, IsDemoOutput}
use Rattle.dqsolve_core.specs.Report.{form_of, usage, SearchReport, no_formula, solved, printed_search, printed_demo, demonstration_status}
use Rattle.dqsolve_core.specs.Running.{IsDueFor, IsDue, IsRunLog, IsOwnLog, IsDemonstration, SeeksVerdict, steps_asked}
use Rattle.dqsolve_core.specs.Searched.{IsSearched}
use Rattle.dqsolve_core.proofs.DefinedRuns.{defined_reasons, defined_steps}
use Rattle.dqsolve_core.proofs.SessionRuns.{session_reasons}
use Rattle.dqsolve_core.proofs.CircuitRuns.{comparison_reasons, encode_reasons, comparison_steps}
use Rattle.dq_runs.proofs.SaidFormulas.{status_of, said_rightly}
use Rattle.dqsolve_core.proofs.Statuses.{not_long, Reasons, verdict_reasons, verdict_steps}

-- ---- what the words ask for

pub solve_asked : (asked : Option Command) (answer : Option CommandWords) (w : CommandWords) (s : SolveWords) →
    option_map command_said answer ≡ asked
    → answer ≡ Some w → w ≡ Solve s → asked ≡ Some (solve (search_of s))
solve_asked asked answer w s said is kind = sym said ∙ ap (option_map command_said) (is ∙ ap Some kind)

pub none_asked : (asked : Option Command) (answer : Option CommandWords) → option_map command_said answer ≡ asked
    → answer ≡ None → asked ≡ None
none_asked asked answer said is = sym said ∙ ap (option_map command_said) is

pub demo_asked : (asked : Option Command) (answer : Option CommandWords) (w : CommandWords) (s : DemoWords) →
    option_map command_said answer ≡ asked
    → answer ≡ Some w → w ≡ Demo s → asked ≡ Some (demo (planting_of s))
demo_asked asked answer w s said is kind = sym said ∙ ap (option_map command_said) (is ∙ ap Some kind)

pub pec_asked : (asked : Option Command) (answer : Option CommandWords) (w : CommandWords) (s : PecWords) →
    option_map command_said answer ≡ asked
    → answer ≡ Some w → w ≡ Pec s → asked ≡ Some (pec (comparison_of s))
pec_asked asked answer w s said is kind = sym said ∙ ap (option_map command_said) (is ∙ ap Some kind)

pub session_asked : (asked : Option Command) (answer : Option CommandWords) (w : CommandWords) (s : SessionWords) →
    option_map command_said answer ≡ asked
    → answer ≡ Some w → w ≡ SessionCommand s → asked ≡ Some (session (session_of s))
session_asked asked answer w s said is kind = sym said ∙ ap (option_map command_said) (is ∙ ap Some kind)

-- ---- the parts

not_six : (status : ℕ) → status ≡ 1 → status ≢ 6
not_six status one six = omega (arith, one, six)

-- a verdict
pub verdict_reported : (before now : FilesState) (log : ProofLog) (c : Search) (f : Dqbf) (r : Result Output Memory) →
    IsFormulaOf (before.held c.file) f
    → PickedOnce before now → now.faults ≡ before.faults → log.limit ≡ c.steps → IfOk r
    (IsSolveOutput f log c.options) →
    IfOk r (IsReported before now (Some (solve c)) log)
verdict_reported before now log c f (Ok output) one picked unfaulted limit v = record {
  due = (solved f v.verdict, (one, limit, v.is, picked), v.is_printed);
  long = λ six. absurd (not_long v.verdict (sym (status_of output
      (printed_verdict (form_of c.options) f v.verdict) v.is_printed)
      ∙ six));
  unfaulted = λ _. unfaulted;
}
verdict_reported before now log c f (Err _) one picked unfaulted limit v = tt

-- the formula's file gives none
pub said_reported : (before now : FilesState) (log : ProofLog) (c : Search) (said : NoFormula)
    (r : Result Output Memory) → IsNoFormula before now c.file said → PickedOnce before now
    → (said ≢ Unreadable → now.faults ≡ before.faults) → IfOk r
    (λ output. printed output ≡ printed_search c (no_formula said)) →
    IfOk r (IsReported before now (Some (solve c)) log)
said_reported before now log c said (Ok output) is once unfaulted same =
    let rightly = said_rightly before now c.file said output is unfaulted same in record {
      due = (no_formula said, (is, once), same);
      long = rightly.long;
      unfaulted = rightly.unfaulted;
    }
said_reported before now log c said (Err _) is once unfaulted same = tt

-- a planted formula's line
demo_not_long : (shown : Demonstration) → demonstration_status shown ≡ 6 → ⊥
demo_not_long Valid same = omega (arith, same)
demo_not_long _ same = omega (arith, same)

-- the usage line
pub usage_reported : (files : FilesState) (log : ProofLog) (asked : Option Command) (r : Result Output Memory)
    → asked ≡ None → IfOk r (λ output. printed output ≡ usage) → IfOk r (IsReported files files asked log)
usage_reported files log asked (Ok output) none is = record {
  due = subst (λ a. IsDue files files log a (printed output)) (sym none) (is, refl);
  long = λ six. absurd (not_six output.status (ap (λ p. p.status) is) six);
  unfaulted = λ _. refl;
}
usage_reported files log asked (Err _) none is = tt

pub demo_reported : (files : FilesState) (log : ProofLog) (p : Planting) (r : Result Output Memory) →
    log.limit ≡ default_steps → IfOk r (IsDemoOutput p log)
    → IfOk r (IsReported files files (Some (demo p)) log)
demo_reported files log p (Ok output) limit d = record {
  due = (record { clauses = d.clauses; shown = d.shown; limit = limit; is = d.is; is_printed = d.is_printed }, refl);
  long = λ six. absurd (demo_not_long d.shown (sym (status_of output (printed_demo p d.clauses d.shown) d.is_printed)
      ∙ six));
  unfaulted = λ _. refl;
}
demo_reported files log p (Err _) limit d = tt

-- the log of a search with these options
pub search_log : (files : FilesState) (log : ProofLog) (c : Search) (f : Dqbf) → IsFormulaOf (files.held c.file) f
    → log.limit ≡ c.steps → IsSolveLog f c.options.prepares log → IsRunLog files (Some (solve c)) log
search_log files log c f one limit (inl none) = inl none
search_log files log c f one limit (inr (searched, is, productive)) =
    inr (inl (record {
      command = solve c;
      is = refl;
      limit = limit;
      f = f;
      formula = one;
      searched = searched;
      is_searched = is;
      productive = productive;
    }))

-- a search without preparation, and one with it
searched_alone : (f : Dqbf) (log : ProofLog) (o : Options) (r : Result Output Memory) → o.prepares ≡ false
    → IfOk r (IsVerdictOutput f log (form_of o)) → IfOk r (IsSolveOutput f log o)
searched_alone f log o (Ok output) alone v = record {
  verdict = v.verdict;
  is = record {
    searched = f;
    is_searched = subst (λ b. IsSearched b f f) (sym alone) refl;
    is = v.is;
  };
  is_printed = v.is_printed;
}
searched_alone f log o (Err _) alone v = tt

searched_left : (f : Dqbf) (log : ProofLog) (o : Options) (r : Result Output Memory) → o.prepares ≡ true
    → IfOk r (IsPreparedOutput f log (form_of o)) → IfOk r (IsSolveOutput f log o)
searched_left f log o (Ok output) prepares v = record {
  verdict = v.verdict;
  is = record {
    searched = v.searched;
    is_searched = subst (λ b. IsSearched b f v.searched) (sym prepares) v.prepared;
    is = v.is;
  };
  is_printed = v.is_printed;
}
searched_left f log o (Err _) prepares v = tt

pub alone_output : (f : Dqbf) (log : ProofLog) (o : Options) (form : Form) (r : Result Output Memory)
    → o.prepares ≡ false → form ≡ form_of o → IfOk r (IsVerdictOutput f log form) → IfOk r (IsSolveOutput f log o)
alone_output f log o form r alone is v =
    searched_alone f log o r alone (subst (λ x. IfOk r (IsVerdictOutput f log x)) is v)

pub left_output : (f : Dqbf) (log : ProofLog) (o : Options) (form : Form) (r : Result Output Memory)
    → o.prepares ≡ true → form ≡ form_of o → IfOk r (IsPreparedOutput f log form) → IfOk r (IsSolveOutput f log o)
left_output f log o form r prepares is v =
    searched_left f log o r prepares (subst (λ x. IfOk r (IsPreparedOutput f log x)) is v)

pub alone_log : (f : Dqbf) (log : ProofLog) (prepares : Bool) → prepares ≡ false → IsProductiveLog f log.entries
    → IsSolveLog f prepares log
alone_log f log prepares alone productive =
    inr (f, subst (λ b. IsSearched b f f) (sym alone) refl, productive)

pub left_log : (f : Dqbf) (log : ProofLog) (prepares : Bool) → prepares ≡ true → IsPreparedLog f log
    → IsSolveLog f prepares log
left_log f log prepares is (inl none) = inl none
left_log f log prepares is (inr (searched, prep, productive)) =
    inr (searched, subst (λ b. IsSearched b f searched) (sym is) prep, productive)

-- ---- the run

pub ends : (before now : FilesState) (asked : Option Command) (log : ProofLog) (sink sink_now : SinkState)
    (r : Result Output Memory) (status : ℕ)
    → IfOk r (IsReported before now asked log) → IsEnd r sink sink_now status →
    Ends (IsDue before now log asked) sink sink_now status
ends before now asked log sink sink_now (Ok output) status o end =
    inr (record { printed = printed output; is_due = o.due; delivered = end })
ends before now asked log sink sink_now (Err _) status o end = inl end

demo_reasons : (before now : FilesState) (c : Command) (shown : Demonstration) →
    Reasons before now (Some c) (demonstration_status shown)
demo_reasons before now c Valid = record {
  words = λ h. absurd (omega (arith, h));
  source =
      λ h. absurd (omega (arith, h));
  delivered = λ h. omega (arith, h);
}
demo_reasons before now c _ = record {
  words = λ h. absurd (omega (arith, h));
  source =
      λ h. absurd (omega (arith, h));
  delivered = λ h. omega (arith, h);
}

search_reasons : (before now : FilesState) (log : ProofLog) (c : Search) (report : SearchReport) →
    IsDueFor before now log c report
    → Reasons before now (Some (solve c)) ((printed_search c report).status)
search_reasons before now log c (no_formula Unreadable) due =
    record { words = λ h. absurd (omega (arith, h)); source = λ _. due.0.counted; delivered = λ h. omega (arith, h) }
search_reasons before now log c (solved f verdict) due = verdict_reasons before now (solve c) verdict
search_reasons before now log c (no_formula _) due = record {
  words = λ h. absurd (omega (arith, h));
  source = λ h. absurd (omega (arith, h));
  delivered =
      λ h. omega (arith, h);
}

reasons : (before now : FilesState) (asked : Option Command) (log : ProofLog) (p : Printed) →
    IsDue before now log asked p → Reasons before now asked p.status
reasons before now None log p (same, picks) =
    let one : p.status ≡ 1 = ap (λ (q : Printed). q.status) same in
    record { words = λ _. refl; source = λ h. absurd (omega (arith, h, one)); delivered = λ h. omega (arith, h, one) }
reasons before now (Some (solve c)) log p (report, due, same) =
    subst (λ (q : Printed). Reasons before now (Some (solve c)) q.status) (sym same)
    (search_reasons before now log c report due)
reasons before now (Some (demo d)) log p (due, picks) =
    subst (λ (q : Printed). Reasons before now (Some (demo d)) q.status) (sym due.is_printed)
    (demo_reasons before now (demo d) due.shown)
reasons before now (Some (pec c)) log p (report, due, same) =
    subst (λ (q : Printed). Reasons before now (Some (pec c)) q.status) (sym same)
    (comparison_reasons before now log c report due)
reasons before now (Some (encode c)) log p due = encode_reasons before now c p due
reasons before now (Some (defined c)) log p due = defined_reasons before now log c p due.1
reasons before now (Some (session c)) log p due = session_reasons before now log c p due.1

pub causes : (before now : FilesState) (asked : Option Command) (log : ProofLog) (sink sink_now : SinkState)
    (r : Result Output Memory) (status : ℕ) → now.held ≡ before.held
    → IfOk r (IsReported before now asked log) → IsEnd r sink sink_now status →
    HasCauses asked before now sink sink_now status
causes before now asked log sink sink_now (Ok output) status held o (inl w) =
    let why = reasons before now asked log (printed output) o.due in
    record {
      words = λ h. why.words (sym w.ends_with ∙ h);
      source = λ h. why.source (sym w.ends_with ∙ h);
      sink_fault = λ h. absurd (why.delivered (sym w.ends_with ∙ h));
      long = λ h. o.long (sym w.ends_with ∙ h);
      unfaulted_files = λ three four five. o.unfaulted (λ h. three (w.ends_with ∙ h));
      unfaulted_sink = λ _. w.unfaulted;
      held = held;
    }
causes before now asked log sink sink_now (Ok output) status held o (inr cut) =
    let four = cut.ends_with in
    record {
      words = λ h. absurd (omega (arith, h, four));
      source = λ h. absurd (omega (arith, h, four));
      sink_fault = λ _. cut.counted;
      long = λ h. absurd (omega (arith, h, four));
      unfaulted_files = λ three other five. absurd (other four);
      unfaulted_sink = λ other. absurd (other four);
      held = held;
    }
causes before now asked log sink sink_now (Err _) status held o unwritten =
    let five = unwritten.ends_with in
    record {
      words = λ h. absurd (omega (arith, h, five));
      source = λ h. absurd (omega (arith, h, five));
      sink_fault = λ h. absurd (omega (arith, h, five));
      long = λ h. absurd (omega (arith, h, five));
      unfaulted_files = λ three four other. absurd (other five);
      unfaulted_sink = λ _. ap (λ (s : SinkState). s.faults) unwritten.same;
      held = held;
    }

-- ---- where no verdict was found

demo_steps : (p : Planting) (log : ProofLog) (clauses : ℕ) (shown : Demonstration) →
    IsDemonstration p log clauses shown → demonstration_status shown ≡ 0 → steps_of log.entries ≡ log.limit
demo_steps p log clauses CutOff d zero = d.is.limit
demo_steps p log clauses _ d zero = absurd (omega (arith, zero))

search_steps : (before now : FilesState) (log : ProofLog) (c : Search) (report : SearchReport) →
    IsDueFor before now log c report → (printed_search c report).status ≡ 0
    → steps_of log.entries ≡ log.limit
search_steps before now log c (no_formula TooLong) due zero = absurd (omega (arith, zero))
search_steps before now log c (solved f verdict) due zero = verdict_steps f due.2.searched log (form_of c.options)
    verdict due.2.is zero
search_steps before now log c (no_formula _) due zero = absurd (omega (arith, zero))

all_steps : (before now : FilesState) (c : Command) (log : ProofLog) (p : Printed) → SeeksVerdict c →
    IsDue before now log (Some c) p → p.status ≡ 0 → steps_of log.entries ≡ log.limit
all_steps before now (solve c) log p seeks (report, due, same) zero =
    search_steps before now log c report due (sym (ap (λ (q : Printed). q.status) same) ∙ zero)
all_steps before now (demo d) log p seeks (due, picks) zero = demo_steps d log due.clauses due.shown due.is
    (sym (ap (λ (q : Printed). q.status) due.is_printed) ∙ zero)
all_steps before now (pec c) log p seeks (report, due, same) zero =
    comparison_steps before now log c report due (sym (ap (λ (q : Printed). q.status) same) ∙ zero)
all_steps before now (defined c) log p seeks due zero = defined_steps before now log c p due.1 zero
all_steps before now _ log p seeks due zero = absurd seeks

pub own_log : (before now : FilesState) (asked : Option Command) (log : ProofLog) (sink sink_now : SinkState)
    (r : Result Output Memory) (status : ℕ)
    → IfOk r (IsReported before now asked log) → IfOk r (λ _. (c : Command) → asked ≡ Some c →
    log.limit ≡ steps_asked c) → IsRunLog before asked log
    → IsEnd r sink sink_now status → IsOwnLog before asked log status
own_log before now asked log sink sink_now (Ok output) status o limit work (inl w) = record {
  work = work;
  limit = λ c is _. limit c is;
  unknown = λ c is seeks zero. all_steps before now c log (printed output) seeks
      (subst (λ command. IsDue before now log command (printed output)) is o.due) (sym w.ends_with ∙ zero);
}
own_log before now asked log sink sink_now (Ok output) status o limit work (inr cut) =
    let four = cut.ends_with in record {
      work = work;
      limit = λ c is _. limit c is;
      unknown = λ c is seeks zero. absurd (omega (arith, zero, four));
    }
own_log before now asked log sink sink_now (Err _) status o limit work unwritten =
    let five = unwritten.ends_with in record {
      work = work;
      limit = λ c is made. absurd (made five);
      unknown = λ c is seeks zero. absurd (omega (arith, zero, five));
    }
