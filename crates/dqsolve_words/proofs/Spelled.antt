-- What clap makes of all the words, and how they are spelled.
use Rattle.std.proofs.Common.{◌≡◌, ◌∙◌, Bool, true, false, true≢false, refl, sym, ap, ap₂, subst, List, [], ◌∷◌, ◌++◌, Option, Some, None, is_some, option_map, codes, append-nil, arith}
use Rattle.std.specs.Prelude.{find}
use Rattle.std.specs.List.{fold}
use Rattle.std.specs.Option.{option_map_or}
use Rattle.std.specs.Str.{bytes_eq}
use Rattle.std.proofs.lemmas.Slice.Eq.{bytes_eq-Decides}
use Rattle.std.proofs.lemmas.List.{append_assoc}
use Rattle.clap.specs.Walk.{Held, Names, Step, Text, subcommand_or_other, Walk, answers_to, finished, nothing_held, rows_after, settled, subcommand_met, walk_from, walked, idle}
use Rattle.clap.specs.Simple.{App, Shape, built, entered, label_of, names_of, rows_at, subcommand_of}
use Rattle.clap.specs.Kinds.{Kinds, or_else}
use Rattle.clap.specs.Faults.{check_fault, defaults_fault, entered_fault, fault_of, level_fault, other_fault, settle_fault, step_fault, stray_fault, turn_fault, walk_fault, word_fault}
use Rattle.clap.proofs.FaultLemmas.{stopped_fault}
use Rattle.clap.proofs.OnLiterals.{clap_on_literals}
use Rattle.clap.specs.declared.error.kind.ErrorKind.TheVariants.{InvalidSubcommand, UnknownArgument}
use Rattle.dqsolve_words.specs.Command.{Command, asked_of}
use Rattle.dqsolve_words.specs.Parsed.{command_in, command_of, given_in, solver_app, without_fault}
use Rattle.dqsolve_words.specs.Spelling.{Usage, spelled_command, usage}
use Rattle.dqsolve_words.proofs.Tables.{Fails, IsTable, fails_as, fails_first, leaf, one_fails}
use Rattle.dqsolve_words.proofs.WordKinds.{has_steps, is_known, is_ordinary, is_separator, is_steps, is_unknown, kind_of_word}
use Rattle.dqsolve_words.proofs.Walked.{words_read}
use Rattle.dqsolve_words.proofs.Usages.{solve_usage, solve_rules, solve_table, demo_usage, demo_rules, demo_table, pec_usage, pec_rules, pec_table, encode_usage, encode_rules, encode_table, defined_usage, defined_rules, defined_table, session_usage, session_rules, session_table}
use Rattle.dqsolve_words.proofs.Ends.{solve_ends, demo_ends, pec_ends, encode_ends, defined_ends, session_ends}

abbrev app : App
app = built solver_app

abbrev names : Names
names = names_of app

abbrev begun : Walk
begun = walk_from nothing_held

abbrev end_of : Walk → List Text → Walk
end_of w words = fold (walked [] names) w words

abbrev none_usage : Usage
none_usage = usage false [] []

none_table : IsTable none_usage []
none_table = search (arith, true≢false)

-- what a parse comes to, by the faults of its walk and by where that ends
abbrev result_from : Kinds → Walk → Option Command
result_from steps end = without_fault (or_else steps (or_else (entered_fault app end.stopped)
    (or_else (settle_fault [] false end.held) (or_else (defaults_fault (settled [] end.held).rows [])
    (check_fault app.top (finished [] end.held) (is_some (entered app end.stopped)))))))
    (command_in (entered app end.stopped))

no_command : (kinds : Kinds) → without_fault kinds None ≡ None
no_command [] = refl
no_command (k ∷ ks) = refl

no_more : (kinds : Kinds) (command : Option Command) →
    without_fault (or_else kinds []) command ≡ without_fault kinds command
no_more [] command = refl
no_more (k ∷ ks) command = refl

refused : (kinds : Kinds) (command : Option Command) → Fails kinds → without_fault kinds command ≡ None
refused [] command bad = absurd (bad refl)
refused (k ∷ ks) command bad = refl

-- ---- a subcommand is met

abbrev stopped : Text → List Text → Walk
stopped name words = record begun { stopped = Some (name, words) }

stays : (name : Text) (before words : List Text) → end_of (stopped name before) words ≡ stopped name (before ++ words)
unfolding walked
stays name before [] = ap (stopped name) (sym (append-nil before))
stays name before (word ∷ words) =
    stays name (before ++ word ∷ []) words ∙ ap (stopped name) (append_assoc before (word ∷ []) words)

met : (program name : Text) (words : List Text) (sub : Shape) → turn_fault app.top names begun name ≡ [] →
    walked [] names begun name ≡ stopped name []
    → find (λ s. answers_to name (label_of s)) app.subs ≡ Some sub
    → command_of (program ∷ name ∷ words) ≡ without_fault (level_fault sub [] nothing_held words false [])
    (asked_of sub.name (given_in (rows_after sub.rules [] words)))
unfolding command_of walk_fault defaults_fault
met program name words sub fault walks found =
    ap₂ result_from
    (ap₂ (λ k v. or_else k (walk_fault app.top names v words)) fault walks
    ∙ stopped_fault app.top names begun (name, []) words)
    (ap (λ v. end_of v words) walks ∙ stays name [] words)
    ∙ ap (λ o. without_fault (or_else (option_map_or (λ s. level_fault s [] nothing_held words false []) o [])
    (check_fault app.top [] (is_some (option_map (λ s. rows_at s words) o)))) (command_in (option_map (λ s. rows_at s words) o))) found
    ∙ no_more (level_fault sub [] nothing_held words false [])
    (asked_of sub.name (given_in (rows_after sub.rules [] words)))

-- ---- no subcommand is met

not_met : (program word : Text) (words : List Text) → subcommand_met names idle word ≡ None →
    command_of (program ∷ word ∷ words) ≡ None
unfolding command_of walk_fault defaults_fault walked
not_met program word words unnamed = elim (kind_of_word none_usage (codes "dqsolve") [] none_table word) [
  | is_separator is ↦ subst (λ z. command_of (program ∷ z ∷ words) ≡ None) (sym is) (behind words)
  | is_steps takes is tests ↦ absurd (true≢false (sym takes))
  | has_steps v takes is tests ↦ absurd (true≢false (sym takes))
  | is_known f known is tests ↦ absurd (true≢false (sym known))
  | is_unknown tests minus refusal ↦ turn_fails (fails_first (word_fault app.top names false idle word nothing_held) _
      (fails_as _ (other_fault app.top None word nothing_held)
      (ap (λ o. other_fault app.top o word nothing_held) unnamed) (refusal nothing_held refl)))
  | is_ordinary tests minus taken ↦ turn_fails (fails_as (turn_fault app.top names begun word) (stray_fault app.top)
      (ap₂ (λ (k : Kinds) (m : Held × Step). or_else k (step_fault app.top 1 m.0 m.1))
      (ap (λ o. other_fault app.top o word nothing_held) unnamed ∙ taken.fault nothing_held refl)
      (ap (λ o. subcommand_or_other [] o idle 1 word nothing_held) unnamed ∙ taken.met nothing_held idle 1 refl))
      (one_fails UnknownArgument (InvalidSubcommand ∷ [])))
]
  where
    turn_fails : Fails (turn_fault app.top names begun word) → command_of (program ∷ word ∷ words) ≡ None
    turn_fails bad =
        let more = walk_fault app.top names (walked [] names begun word) words in
        refused (fault_of solver_app (program ∷ word ∷ words))
        (command_in (subcommand_of solver_app (program ∷ word ∷ words)))
        (fails_first (or_else (turn_fault app.top names begun word) more) _
        (fails_first (turn_fault app.top names begun word) more bad))

    behind : (words : List Text) → command_of (program ∷ codes "--" ∷ words) ≡ None
    behind [] = refl
    behind (name ∷ words) = refl

-- ---- all the words

known_as : (program name word : Text) (words : List Text) → bytes_eq name word ≡ true →
    command_of (program ∷ name ∷ words) ≡ spelled_command (program ∷ name ∷ words)
    → command_of (program ∷ word ∷ words) ≡ spelled_command (program ∷ word ∷ words)
known_as program name word words is h = search (arith, bytes_eq-Decides)

solve_reads : (program : Text) (words : List Text) →
    command_of (program ∷ codes "solve" ∷ words) ≡ spelled_command (program ∷ codes "solve" ∷ words)
unfolding spelled_command walked
solve_reads program words = met program (codes "solve") words (leaf (codes "solve") solve_rules) refl refl refl
    ∙ words_read solve_usage (codes "solve") solve_rules solve_table (asked_of (codes "solve")) solve_ends words

demo_reads : (program : Text) (words : List Text) →
    command_of (program ∷ codes "demo" ∷ words) ≡ spelled_command (program ∷ codes "demo" ∷ words)
unfolding spelled_command walked
demo_reads program words = met program (codes "demo") words (leaf (codes "demo") demo_rules) refl refl refl
    ∙ words_read demo_usage (codes "demo") demo_rules demo_table (asked_of (codes "demo")) demo_ends words

pec_reads : (program : Text) (words : List Text) →
    command_of (program ∷ codes "pec" ∷ words) ≡ spelled_command (program ∷ codes "pec" ∷ words)
unfolding spelled_command walked
pec_reads program words = met program (codes "pec") words (leaf (codes "pec") pec_rules) refl refl refl
    ∙ words_read pec_usage (codes "pec") pec_rules pec_table (asked_of (codes "pec")) pec_ends words

encode_reads : (program : Text) (words : List Text) →
    command_of (program ∷ codes "encode" ∷ words) ≡ spelled_command (program ∷ codes "encode" ∷ words)
unfolding spelled_command walked
encode_reads program words = met program (codes "encode") words (leaf (codes "encode") encode_rules) refl refl refl
    ∙ words_read encode_usage (codes "encode") encode_rules encode_table (asked_of (codes "encode")) encode_ends words

defined_reads : (program : Text) (words : List Text) →
    command_of (program ∷ codes "defined" ∷ words) ≡ spelled_command (program ∷ codes "defined" ∷ words)
unfolding spelled_command walked
defined_reads program words = met program (codes "defined") words (leaf (codes "defined") defined_rules) refl refl refl
    ∙ words_read defined_usage (codes "defined") defined_rules defined_table (asked_of (codes "defined")) defined_ends
    words

session_reads : (program : Text) (words : List Text) →
    command_of (program ∷ codes "session" ∷ words) ≡ spelled_command (program ∷ codes "session" ∷ words)
unfolding spelled_command walked
session_reads program words = met program (codes "session") words (leaf (codes "session") session_rules) refl refl refl
    ∙ words_read session_usage (codes "session") session_rules session_table (asked_of (codes "session")) session_ends
    words

module _ (program word : Text) (words : List Text) where
  unknown_name : bytes_eq (codes "solve") word ≡ false → bytes_eq (codes "demo") word ≡ false
      → bytes_eq (codes "pec") word ≡ false → bytes_eq (codes "encode") word ≡ false
      → bytes_eq (codes "defined") word ≡ false → bytes_eq (codes "session") word ≡ false
      → command_of (program ∷ word ∷ words) ≡ spelled_command (program ∷ word ∷ words)
  unfolding spelled_command
  unknown_name a b c d e f = search (arith, not_met, codes)

  by_session : (b : Bool) → bytes_eq (codes "solve") word ≡ false → bytes_eq (codes "demo") word ≡ false
      → bytes_eq (codes "pec") word ≡ false → bytes_eq (codes "encode") word ≡ false
      → bytes_eq (codes "defined") word ≡ false → bytes_eq (codes "session") word ≡ b
      → command_of (program ∷ word ∷ words) ≡ spelled_command (program ∷ word ∷ words)
  by_session true s d p e f is = known_as program (codes "session") word words is (session_reads program words)
  by_session false s d p e f is = unknown_name s d p e f is

  by_defined : (b : Bool) → bytes_eq (codes "solve") word ≡ false → bytes_eq (codes "demo") word ≡ false
      → bytes_eq (codes "pec") word ≡ false → bytes_eq (codes "encode") word ≡ false
      → bytes_eq (codes "defined") word ≡ b
      → command_of (program ∷ word ∷ words) ≡ spelled_command (program ∷ word ∷ words)
  by_defined true s d p e is = known_as program (codes "defined") word words is (defined_reads program words)
  by_defined false s d p e is = by_session (bytes_eq (codes "session") word) s d p e is refl

  by_encode : (b : Bool) → bytes_eq (codes "solve") word ≡ false → bytes_eq (codes "demo") word ≡ false
      → bytes_eq (codes "pec") word ≡ false → bytes_eq (codes "encode") word ≡ b
      → command_of (program ∷ word ∷ words) ≡ spelled_command (program ∷ word ∷ words)
  by_encode true s d p is = known_as program (codes "encode") word words is (encode_reads program words)
  by_encode false s d p is = by_defined (bytes_eq (codes "defined") word) s d p is refl

  by_pec : (b : Bool) → bytes_eq (codes "solve") word ≡ false → bytes_eq (codes "demo") word ≡ false
      → bytes_eq (codes "pec") word ≡ b
      → command_of (program ∷ word ∷ words) ≡ spelled_command (program ∷ word ∷ words)
  by_pec true s d is = known_as program (codes "pec") word words is (pec_reads program words)
  by_pec false s d is = by_encode (bytes_eq (codes "encode") word) s d is refl

  by_demo : (b : Bool) → bytes_eq (codes "solve") word ≡ false → bytes_eq (codes "demo") word ≡ b
      → command_of (program ∷ word ∷ words) ≡ spelled_command (program ∷ word ∷ words)
  by_demo true s is = known_as program (codes "demo") word words is (demo_reads program words)
  by_demo false s is = by_pec (bytes_eq (codes "pec") word) s is refl

  by_solve : (b : Bool) → bytes_eq (codes "solve") word ≡ b
      → command_of (program ∷ word ∷ words) ≡ spelled_command (program ∷ word ∷ words)
  by_solve true is = known_as program (codes "solve") word words is (solve_reads program words)
  by_solve false is = by_demo (bytes_eq (codes "demo") word) is refl

no_words : command_of [] ≡ spelled_command []
unfolding clap_on_literals command_of spelled_command
no_words = refl

no_name : (program : Text) → command_of (program ∷ []) ≡ spelled_command (program ∷ [])
unfolding clap_on_literals command_of spelled_command
no_name program = refl

pub command_is_spelled : (words : List Text) → command_of words ≡ spelled_command words
command_is_spelled [] = no_words
command_is_spelled (program ∷ []) = no_name program
command_is_spelled (program ∷ word ∷ words) = by_solve program word words (bytes_eq (codes "solve") word) refl
