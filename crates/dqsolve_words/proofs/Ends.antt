-- What clap makes of a subcommand's matches where its words end.
use Rattle.std.proofs.Common.{◌≡◌, ◌∙◌, ◌⊎◌, inl, inr, ◌&&◌, ◌||◌, ℕ, Bool, cond, not, true, false, refl, sym, ap, ap₂, List, [], ◌∷◌, ◌++◌, Option, Some, None, is_some, option_map, codes}
use Rattle.std.specs.Prelude.{option_and_then, slice_get, unwrap_or}
use Rattle.std.specs.List.{fold, list_any}
use Rattle.std.specs.Option.{option_map_or}
use Rattle.std.specs.Str.{bytes_eq}
use Rattle.std.proofs.lemmas.Slice.Eq.{bytes_eq-Decides}
use Rattle.clap.specs.Walk.{Row, Rule, Text, default_rows, first_of, has_row, is_empty, reading_by, with_default}
use Rattle.clap.specs.Kinds.{check_kinds, or_else}
use Rattle.clap.specs.Faults.{check_fault, default_fault, defaults_fault, given_default_fault}
use Rattle.clap.specs.Facts.{explicit_source}
use Rattle.clap.specs.Takes.{is_given}
use Rattle.clap.specs.declared.builder.value_parser.Reading.TheVariants as reading
use Rattle.clap.specs.declared.parser.matches.ValueSource.TheVariants.{DefaultValue}
use Rattle.dqsolve_words.specs.Command.{Circuits, Command, Given, Options, asked_of, default_steps, has_flag, least_size, least_steps, most_seed, most_size, most_steps, number_in, steps_in, solve, demo, pec, encode, defined, session}
use Rattle.dqsolve_words.specs.Parsed.{given_in, without_fault}
use Rattle.dqsolve_words.proofs.Matches.{comparison, conversing, defining, pair, search}
use Rattle.dqsolve_words.proofs.Rows.{Shows, first_some, first_shown, has_row_is, is_given_shown, nothing_behind, row, row_behind, row_by, row_from, value_added}
use Rattle.dqsolve_words.proofs.Tables.{flag_rule, leaf, place_rule, steps_rule}
use Rattle.dqsolve_words.proofs.Usages.{defined_rules, demo_rules, encode_rules, pec_rules, session_rules, solve_rules}

-- where the words end, the matches ask for what was given
abbrev pub Ends : Text → List Rule → Type 0
Ends name rules = (rows : List Row) (given : Given) → Shows rows given
    → without_fault (or_else (defaults_fault rows rules)
    (check_fault (leaf name rules) (fold with_default rows rules) false))
    (asked_of name (given_in (fold with_default rows rules))) ≡ asked_of name given

-- ---- defaults

abbrev AreFine : List Rule → Type 0
AreFine [] = Unit {0}
AreFine (a ∷ rest) = (given_default_fault a a.defaults ≡ []) × AreFine rest

abbrev HaveNone : List Rule → Type 0
HaveNone [] = Unit {0}
HaveNone (a ∷ rest) = (a.defaults ≡ []) × HaveNone rest

fine_default : (rows : List Row) (a : Rule) → given_default_fault a a.defaults ≡ [] → default_fault rows a ≡ []
fine_default rows a fine = go (has_row a.id rows || is_empty a.defaults)
  where
    go : (b : Bool) → cond b [] (given_default_fault a a.defaults) ≡ []
    go true = refl
    go false = fine

defaults_fine : (rows : List Row) (rules : List Rule) → AreFine rules → defaults_fault rows rules ≡ []
unfolding defaults_fault
defaults_fine rows [] fine = refl
defaults_fine rows (a ∷ rest) fine =
    ap₂ or_else (fine_default rows a fine.0) (defaults_fine (with_default rows a) rest fine.1)

no_default : (rows : List Row) (a : Rule) → a.defaults ≡ [] → with_default rows a ≡ rows
no_default rows a none = go (has_row a.id rows)
  where
    go : (b : Bool) → cond b rows (default_rows a.id (reading_by a) a.defaults rows) ≡ rows
    go true = refl
    go false = ap (λ vs. default_rows a.id (reading_by a) vs rows) none

no_defaults : (rows : List Row) (rules : List Rule) → HaveNone rules → fold with_default rows rules ≡ rows
no_defaults rows [] none = refl
no_defaults rows (a ∷ rest) none =
    ap (λ rs. fold with_default rs rest) (no_default rows a none.0) ∙ no_defaults rows rest none.1

-- ---- the last check

abbrev wants : List Row → List Rule → Bool
wants rows rules = list_any (λ a. a.required && not (is_given a.id rows)) rules

checked : (wanted : Bool) (command shown : Option Command) → (wanted ≡ true → shown ≡ None) → command ≡ shown →
    without_fault (check_kinds false false wanted) command ≡ shown
checked true command shown missing same = sym (missing refl)
checked false command shown missing same = same

plain_ends : (name : Text) (rules : List Rule) → AreFine rules → HaveNone rules →
    ((rows : List Row) (given : Given) → Shows rows given → wants rows rules ≡ true → asked_of name given ≡ None)
    → Ends name rules
plain_ends name rules fine none missing rows given shows =
    ap (λ k. without_fault (or_else k (check_fault (leaf name rules) (fold with_default rows rules) false))
    (asked_of name (given_in (fold with_default rows rules)))) (defaults_fine rows rules fine)
    ∙ ap (λ F. without_fault (check_fault (leaf name rules) F false) (asked_of name (given_in F)))
    (no_defaults rows rules none)
    ∙ checked (wants rows rules) (asked_of name (given_in rows)) (asked_of name given) (missing rows given shows)
    (ap (asked_of name) (λ i id. first_shown rows given shows id i))

one_missing : (a : Text) (rows : List Row) (given : Given) → Shows rows given →
    (not (is_given a rows) || false) ≡ true → given a ≡ None
one_missing a rows given shows wanted =
    go (given a) (sym (ap (λ b. not b || false) (is_given_shown rows given shows a)) ∙ wanted)
  where
    go : (o : Option Text) → (not (is_some o) || false) ≡ true → o ≡ None
    go None wanted = refl
    go (Some value) wanted = cc

two_missing : (a b : Text) (rows : List Row) (given : Given) → Shows rows given →
    (not (is_given a rows) || (not (is_given b rows) || false)) ≡ true → (given a ≡ None) ⊎ (given b ≡ None)
two_missing a b rows given shows wanted =
    go (given a) (given b)
    (sym (ap₂ (λ x y. not x || (not y || false)) (is_given_shown rows given shows a) (is_given_shown rows given shows b))
    ∙ wanted)
  where
    go : (o p : Option Text) → (not (is_some o) || (not (is_some p) || false)) ≡ true → (o ≡ None) ⊎ (p ≡ None)
    go None p wanted = inl refl
    go (Some x) None wanted = inr refl
    go (Some x) (Some y) wanted = cc

-- ---- subcommands without flags

demo_none : (seed size : Option Text) → (seed ≡ None) ⊎ (size ≡ None) →
    option_map demo (option_and_then (λ (s : ℕ). option_map (λ (z : ℕ). record { seed = s; size = z })
    (option_and_then (number_in least_size most_size) size)) (option_and_then (number_in 0 most_seed) seed)) ≡ None
demo_none None size missing = refl
demo_none (Some s) None missing = go (number_in 0 most_seed s)
  where
    go : (o : Option ℕ) → option_map demo (option_and_then (λ (s : ℕ). option_map (λ (z : ℕ). record { seed = s; size = z })
        None) o) ≡ None
    go None = refl
    go (Some n) = refl
demo_none (Some s) (Some z) (inl e) = cc
demo_none (Some s) (Some z) (inr e) = cc

pub demo_ends : Ends (codes "demo") demo_rules
demo_ends = plain_ends (codes "demo") demo_rules (refl, (refl, tt)) (refl, (refl, tt))
    (λ rows given shows wanted. demo_none (given (codes "SEED")) (given (codes "SIZE"))
    (two_missing (codes "SEED") (codes "SIZE") rows given shows wanted))

pec_none : (spec imp : Option Text) (steps : Option ℕ) → (spec ≡ None) ⊎ (imp ≡ None) →
    option_map pec (option_and_then (λ (two : Circuits). option_map (λ (n : ℕ). comparison n two) steps)
    (option_and_then (λ (s : Text). option_map (λ (i : Text). pair s i) imp) spec)) ≡ None
pec_none None imp steps missing = refl
pec_none (Some s) None steps missing = refl
pec_none (Some s) (Some i) steps (inl e) = cc
pec_none (Some s) (Some i) steps (inr e) = cc

pub pec_ends : Ends (codes "pec") pec_rules
pec_ends = plain_ends (codes "pec") pec_rules (refl, (refl, (refl, tt))) (refl, (refl, (refl, tt)))
    (λ rows given shows wanted. pec_none (given (codes "SPEC")) (given (codes "IMPL")) (steps_in given)
    (two_missing (codes "SPEC") (codes "IMPL") rows given shows wanted))

encode_none : (spec imp : Option Text) → (spec ≡ None) ⊎ (imp ≡ None) →
    option_map encode (option_and_then (λ (s : Text). option_map (λ (i : Text). pair s i) imp) spec) ≡ None
encode_none None imp missing = refl
encode_none (Some s) None missing = refl
encode_none (Some s) (Some i) (inl e) = cc
encode_none (Some s) (Some i) (inr e) = cc

pub encode_ends : Ends (codes "encode") encode_rules
encode_ends = plain_ends (codes "encode") encode_rules (refl, (refl, tt)) (refl, (refl, tt))
    (λ rows given shows wanted. encode_none (given (codes "SPEC")) (given (codes "IMPL"))
    (two_missing (codes "SPEC") (codes "IMPL") rows given shows wanted))

pub defined_ends : Ends (codes "defined") defined_rules
defined_ends = plain_ends (codes "defined") defined_rules (refl, (refl, tt)) (refl, (refl, tt))
    (λ rows given shows wanted. ap (λ (o : Option Text). option_map defined
    (option_and_then (λ (name : Text). option_map (λ (n : ℕ). defining n name) (steps_in given)) o))
    (one_missing (codes "FILE") rows given shows wanted))

session_none : (file script : Option Text) (steps : Option ℕ) → (file ≡ None) ⊎ (script ≡ None) →
    option_map session (option_and_then (λ (f : Text). option_and_then
    (λ (s : Text). option_map (λ (n : ℕ). conversing n f s) steps) script) file) ≡ None
session_none None script steps missing = refl
session_none (Some f) None steps missing = refl
session_none (Some f) (Some s) steps (inl e) = cc
session_none (Some f) (Some s) steps (inr e) = cc

pub session_ends : Ends (codes "session") session_rules
session_ends = plain_ends (codes "session") session_rules (refl, (refl, (refl, tt))) (refl, (refl, (refl, tt)))
    (λ rows given shows wanted. session_none (given (codes "FILE")) (given (codes "SCRIPT")) (steps_in given)
    (two_missing (codes "FILE") (codes "SCRIPT") rows given shows wanted))

-- ---- flags, which are `false` where they aren't given

abbrev unset : Text → Row
unset f = row_from DefaultValue f (codes "false")

abbrev with_flag : Text → List Row → List Row
with_flag f rows = with_default rows (flag_rule f)

unwrapped : (o : Option Row) (r : Row) → is_some o ≡ true → o ≡ Some (unwrap_or o r)
unwrapped None r there = cc
unwrapped (Some x) r there = refl

missing_row : (o : Option Row) → is_some o ≡ false → o ≡ None
missing_row None none = refl
missing_row (Some x) none = cc

flag_by : (f : Text) (rows : List Row) (b : Bool) → has_row f rows ≡ b →
    with_flag f rows ≡ cond b rows (rows ++ unset f ∷ [])
flag_by f rows true there = ap (λ b. cond b rows (default_rows f reading.AsWritten (codes "false" ∷ []) rows)) there
flag_by f rows false there = ap (λ b. cond b rows (default_rows f reading.AsWritten (codes "false" ∷ []) rows)) there
    ∙ value_added DefaultValue f (codes "false") rows (missing_row (row_by rows f) (sym (has_row_is f rows) ∙ there))

other_flag : (f id : Text) (rows : List Row) → bytes_eq f id ≡ false → row_by (with_flag f rows) id ≡ row_by rows id
other_flag f id rows other = go (has_row f rows) refl
  where
    go : (b : Bool) → has_row f rows ≡ b → row_by (with_flag f rows) id ≡ row_by rows id
    go true there = ap (λ rs. row_by rs id) (flag_by f rows true there)
    go false there = ap (λ rs. row_by rs id) (flag_by f rows false there) ∙ row_behind rows (unset f) id
        ∙ ap (λ b. first_some (row_by rows id) (cond b (Some (unset f)) None)) other ∙ nothing_behind (row_by rows id)

same_flag : (f : Text) (rows : List Row) → row_by (with_flag f rows) f ≡ Some (unwrap_or (row_by rows f) (unset f))
same_flag f rows = go (has_row f rows) refl
  where
    go : (b : Bool) → has_row f rows ≡ b
        → row_by (with_flag f rows) f ≡ Some (unwrap_or (row_by rows f) (unset f))
    go true there = ap (λ rs. row_by rs f) (flag_by f rows true there)
        ∙ unwrapped (row_by rows f) (unset f) (sym (has_row_is f rows) ∙ there)
    go false there =
        let none : row_by rows f ≡ None = missing_row (row_by rows f) (sym (has_row_is f rows) ∙ there) in
        ap (λ rs. row_by rs f) (flag_by f rows false there) ∙ row_behind rows (unset f) f
        ∙ ap₂ (λ o b. first_some o (cond b (Some (unset f)) None)) none ((bytes_eq-Decides f f).1 refl)
        ∙ ap (λ o. Some (unwrap_or o (unset f))) (sym none)

abbrev value_by : Option Row → Option Text
value_by = option_and_then (λ r. slice_get r.values 0)

flag_shown : (f : Text) (rows all : List Row) (given : Given) → Shows rows given →
    row_by all f ≡ Some (unwrap_or (row_by rows f) (unset f)) → has_flag f (given_in all) ≡ has_flag f given
flag_shown f rows all given shows found =
    ap (λ o. option_map_or (λ value. bytes_eq value (codes "true")) (value_by o) false)
    (found ∙ ap (λ o. Some (unwrap_or o (unset f))) (shows f)) ∙ go (given f)
  where
    go : (o : Option Text) → option_map_or (λ value. bytes_eq value (codes "true"))
        (value_by (Some (unwrap_or (option_map (row f) o) (unset f)))) false
        ≡ option_map_or (λ value. bytes_eq value (codes "true")) o false
    go None = refl
    go (Some value) = refl

-- ---- solve

abbrev flagged : List Row → List Row
flagged rows = with_flag (codes "binary") (with_flag (codes "prep") (with_flag (codes "v2")
    (with_flag (codes "bare") rows)))

all_flagged : (rows : List Row) → fold with_default rows solve_rules ≡ flagged rows
all_flagged rows =
    no_default (flagged (with_default rows steps_rule)) (place_rule 1 (codes "FILE")) refl
    ∙ ap flagged (no_default rows steps_rule refl)

module _ (rows : List Row) (given : Given) (shows : Shows rows given) where
  abbrev with_bare : List Row
  with_bare = with_flag (codes "bare") rows

  abbrev with_v2 : List Row
  with_v2 = with_flag (codes "v2") with_bare

  abbrev with_prep : List Row
  with_prep = with_flag (codes "prep") with_v2

  unflagged : (id : Text) → bytes_eq (codes "bare") id ≡ false → bytes_eq (codes "v2") id ≡ false
      → bytes_eq (codes "prep") id ≡ false → bytes_eq (codes "binary") id ≡ false
      → row_by (flagged rows) id ≡ row_by rows id
  unflagged id bare v2 prep binary = other_flag (codes "binary") id with_prep binary
      ∙ other_flag (codes "prep") id with_v2 prep
      ∙ other_flag (codes "v2") id with_bare v2 ∙ other_flag (codes "bare") id rows bare

  bare_shown : has_flag (codes "bare") (given_in (flagged rows)) ≡ has_flag (codes "bare") given
  bare_shown = flag_shown (codes "bare") rows (flagged rows) given shows
      (other_flag (codes "binary") (codes "bare") with_prep refl ∙ other_flag (codes "prep") (codes "bare") with_v2 refl
      ∙ other_flag (codes "v2") (codes "bare") with_bare refl ∙ same_flag (codes "bare") rows)

  v2_shown : has_flag (codes "v2") (given_in (flagged rows)) ≡ has_flag (codes "v2") given
  v2_shown = flag_shown (codes "v2") rows (flagged rows) given shows
      (other_flag (codes "binary") (codes "v2") with_prep refl ∙ other_flag (codes "prep") (codes "v2") with_v2 refl
      ∙ same_flag (codes "v2") with_bare
      ∙ ap (λ o. Some (unwrap_or o (unset (codes "v2")))) (other_flag (codes "bare") (codes "v2") rows refl))

  prep_shown : has_flag (codes "prep") (given_in (flagged rows)) ≡ has_flag (codes "prep") given
  prep_shown = flag_shown (codes "prep") rows (flagged rows) given shows
      (other_flag (codes "binary") (codes "prep") with_prep refl ∙ same_flag (codes "prep") with_v2
      ∙ ap (λ o. Some (unwrap_or o (unset (codes "prep"))))
      (other_flag (codes "v2") (codes "prep") with_bare refl ∙ other_flag (codes "bare") (codes "prep") rows refl))

  binary_shown : has_flag (codes "binary") (given_in (flagged rows)) ≡ has_flag (codes "binary") given
  binary_shown = flag_shown (codes "binary") rows (flagged rows) given shows
      (same_flag (codes "binary") with_prep
      ∙ ap (λ o. Some (unwrap_or o (unset (codes "binary"))))
      (other_flag (codes "prep") (codes "binary") with_v2 refl ∙ other_flag (codes "v2") (codes "binary") with_bare refl
      ∙ other_flag (codes "bare") (codes "binary") rows refl))

  file_shown : first_of (codes "FILE") (flagged rows) ≡ given (codes "FILE")
  file_shown = ap value_by (unflagged (codes "FILE") refl refl refl refl) ∙ first_shown rows given shows (codes "FILE")

  steps_shown : first_of (codes "steps") (flagged rows) ≡ given (codes "steps")
  steps_shown =
      ap value_by (unflagged (codes "steps") refl refl refl refl) ∙ first_shown rows given shows (codes "steps")

  abbrev options_by : Bool → Bool → Bool → Bool → Options
  options_by bare deletes prepares binary = record {
    bare = bare;
    deletes = deletes;
    prepares = prepares;
    binary = binary;
  }

  abbrev solve_by : Option Text → Option Text → Options → Option Command
  solve_by file steps options = option_map solve (option_and_then (λ (name : Text). option_map
      (λ (n : ℕ). search n options name)
      (option_map_or (number_in least_steps most_steps) steps (Some default_steps))) file)

  solve_shown : asked_of (codes "solve") (given_in (flagged rows)) ≡ asked_of (codes "solve") given
  solve_shown = λ i. solve_by (file_shown i) (steps_shown i)
      (options_by (bare_shown i) (v2_shown i) (prep_shown i) (binary_shown i))

  solve_missing : wants (flagged rows) solve_rules ≡ true → asked_of (codes "solve") given ≡ None
  solve_missing wanted =
      let there : is_given (codes "FILE") rows ≡ is_given (codes "FILE") (flagged rows) =
      ap (λ o. option_map_or (λ (r : Row). explicit_source r.source) o false)
      (sym (unflagged (codes "FILE") refl refl refl refl)) in
      ap (λ (o : Option Text). solve_by o (given (codes "steps")) (options_by (has_flag (codes "bare") given)
      (has_flag (codes "v2") given) (has_flag (codes "prep") given) (has_flag (codes "binary") given)))
      (one_missing (codes "FILE") rows given shows (ap (λ b. not b || false) there ∙ wanted))

pub solve_ends : Ends (codes "solve") solve_rules
solve_ends rows given shows =
    ap (λ k. without_fault (or_else k (check_fault (leaf (codes "solve") solve_rules)
    (fold with_default rows solve_rules) false)) (asked_of (codes "solve") (given_in (fold with_default rows solve_rules))))
    (defaults_fine rows solve_rules (refl, (refl, (refl, (refl, (refl, (refl, tt)))))))
    ∙ ap (λ F. without_fault (check_fault (leaf (codes "solve") solve_rules) F false)
    (asked_of (codes "solve") (given_in F))) (all_flagged rows)
    ∙ checked (wants (flagged rows) solve_rules) (asked_of (codes "solve") (given_in (flagged rows)))
    (asked_of (codes "solve") given) (solve_missing rows given shows) (solve_shown rows given shows)
