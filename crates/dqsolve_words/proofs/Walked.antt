-- What clap makes of the words of a subcommand: from each place of its walk, what the words still to come give.
use Rattle.std.proofs.Common.{◌≡◌, inl, inr, ◌∙◌, ◌+◌, ◌&&◌, ℕ, Bool, cond, min, true, false, true≢false, refl, sym, ap, subst, List, [], ◌∷◌, ◌++◌, Option, Some, None, is_some, codes, arith}
use Rattle.std.specs.Prelude.{option_and_then}
use Rattle.std.specs.List.{fold}
use Rattle.std.specs.Option.{option_map_or}
use Rattle.std.specs.Str.{bytes_eq}
use Rattle.clap.specs.Lexer.{long_of, usize_max}
use Rattle.clap.specs.Walk.{Held, Row, Rule, Step, Text, Waiting, Walk, after_flag, after_step, arg_by_id, arg_by_index, finished, has_row, idle, long_met, long_or_other, next, nothing_held, option, option_word, reacted, settled, subcommand_or_other, to_positional, trailing, used_by_id, value, walked, with_default, word_met}
use Rattle.clap.specs.Simple.{Shape}
use Rattle.clap.specs.Kinds.{Kinds, or_else}
use Rattle.clap.specs.Faults.{check_fault, defaults_fault, long_fault, other_fault, settle_fault, step_fault, turn_fault, use_fault, walk_fault, word_fault}
use Rattle.clap.specs.declared.error.kind.ErrorKind.TheVariants.{ArgumentConflict}
use Rattle.dqsolve_words.specs.Command.{Command, Given}
use Rattle.dqsolve_words.specs.Parsed.{given_in, without_fault}
use Rattle.dqsolve_words.specs.Spelling.{Place, Reading, Usage, among, behind_separator, behind_steps, is_flag, is_option, read_words, with_value}
use Rattle.dqsolve_words.proofs.Rows.{Shows, has_row_given, put, put_shows}
use Rattle.dqsolve_words.proofs.Tables.{ArePlaces, Fails, IsTable, fails_as, fails_first, flag_rule, leaf, one_fails, place_rule, steps_rule}
use Rattle.dqsolve_words.proofs.WordKinds.{Word, ordinary, read_is, with_word, word_of, IsPlain, has_steps, is_known, is_ordinary, is_separator, is_steps, is_unknown, kind_of_word, option_or_ordinary}

refused_by : (kinds : Kinds) (command : Option Command) → Fails kinds → without_fault kinds command ≡ None
refused_by [] command bad = absurd (bad refl)
refused_by (k ∷ ks) command bad = refl

-- a value for what has a row or hasn't
abbrev use_by : Bool → Kinds
use_by there = or_else (cond (there && true) (ArgumentConflict ∷ []) []) []

module _ (u : Usage) (name : Text) (rules : List Rule) (table : IsTable u rules) (asked : Given → Option Command)
    (ends : (rows : List Row) (given : Given) → Shows rows given → without_fault (or_else (defaults_fault rows rules)
    (check_fault (leaf name rules) (fold with_default rows rules) false)) (asked (given_in (fold with_default rows rules)))
    ≡ asked given) where
  abbrev shape : Shape
  shape = leaf name rules

  -- ---- a parse from a place of the walk on

  abbrev end_of : Walk → List Text → Walk
  end_of w words = fold (walked rules []) w words

  abbrev fault_from : Kinds → Walk → Kinds
  fault_from steps end = or_else steps (or_else [] (or_else (settle_fault rules false end.held)
      (or_else (defaults_fault (settled rules end.held).rows rules)
      (check_fault shape (finished rules end.held) false))))

  abbrev result_from : Kinds → Walk → Option Command
  result_from steps end = without_fault (fault_from steps end) (asked (given_in (finished rules end.held)))

  abbrev pub result : Walk → List Text → Option Command
  result w words = result_from (walk_fault shape [] w words) (end_of w words)

  step : (w after : Walk) (word : Text) (words : List Text) (given : Option Command)
      → turn_fault shape [] w word ≡ [] → walked rules [] w word ≡ after → result after words ≡ given
      → result w (word ∷ words) ≡ given
  unfolding walk_fault
  step w after word words given fault is rest =
      ap (λ k. result_from (or_else k (walk_fault shape [] (walked rules [] w word) words))
      (end_of (walked rules [] w word) words)) fault ∙ ap (λ v. result v words) is ∙ rest

  stop : (w : Walk) (word : Text) (words : List Text) → Fails (turn_fault shape [] w word)
      → result w (word ∷ words) ≡ None
  unfolding walk_fault
  stop w word words bad =
      let end = end_of (walked rules [] w word) words in
      let more = walk_fault shape [] (walked rules [] w word) words in
      refused_by (fault_from (or_else (turn_fault shape [] w word) more) end) (asked (given_in (finished rules end.held)))
      (fails_first (or_else (turn_fault shape [] w word) more) _ (fails_first (turn_fault shape [] w word) more bad))

  abbrev pub place : Held → Waiting → ℕ → Bool → Walk
  place h waiting position is_trailing = record {
    held = h;
    waiting = waiting;
    position = position;
    is_trailing = is_trailing;
    stopped = None;
  }

  -- ---- one word, by what clap makes of it

  turn_is : (h : Held) (waiting : Waiting) (position : ℕ) (word : Text) (k : Kinds) (m : Held × Step)
      → word_fault shape [] false waiting word h ≡ k → word_met rules [] false waiting position word h ≡ m
      → turn_fault shape [] (place h waiting position false) word ≡ or_else k (step_fault shape position m.0 m.1)
  turn_is h waiting position word k m fault met = search arith

  turn_fails : (h : Held) (waiting : Waiting) (position : ℕ) (word : Text) (words : List Text)
      → Fails (word_fault shape [] false waiting word h) → result (place h waiting position false) (word ∷ words) ≡ None
  turn_fails h waiting position word words bad = stop (place h waiting position false) word words
      (fails_first (word_fault shape [] false waiting word h) _ bad)

  walk_is : (h : Held) (waiting : Waiting) (position : ℕ) (word : Text) (m : Held × Step)
      → word_met rules [] false waiting position word h ≡ m
      → walked rules [] (place h waiting position false) word
      ≡ after_step rules word (place h waiting position false) m.0 m.1
  unfolding walked
  walk_is h waiting position word m met = search arith

  -- ---- options that are known

  module _ (h : Held) where
    abbrev rows : List Row
    rows = (settled rules h).rows

    abbrev after_settling : Kinds → Kinds
    after_settling k = or_else (settle_fault rules false h) k

    value_fault : (v : Text) → u.steps ≡ true → other_fault shape None (codes "--steps=" ++ v) h
        ≡ after_settling (use_by (has_row (codes "steps") rows))
    value_fault v takes = ap (λ o. long_fault rules false o (Some v) h) (table.steps_long takes)

    value_met : (v : Text) (waiting : Waiting) (position : ℕ) → u.steps ≡ true
        → subcommand_or_other rules None waiting position (codes "--steps=" ++ v) h
        ≡ (reacted rules steps_rule (v ∷ []) h, next idle)
    value_met v waiting position takes = search (arith, codes)

    steps_fault : u.steps ≡ true → other_fault shape None (codes "--steps") h ≡ settle_fault rules false h
    steps_fault takes = ap (λ o. long_fault rules false o None h) (table.steps_long takes)

    steps_met : (waiting : Waiting) (position : ℕ) → u.steps ≡ true
        → subcommand_or_other rules None waiting position (codes "--steps") h
        ≡ (record (settled rules h) { pending = Some (codes "steps", []) }, next (option (codes "steps")))
    steps_met waiting position takes = search (arith, codes)

    flag_dashes : (f : Text) → is_flag u f ≡ true → bytes_eq (45 ∷ 45 ∷ f) (codes "--") ≡ false
    flag_dashes [] known = absurd (true≢false (sym (ap is_some (table.flag_word [] known))))
    flag_dashes (x ∷ xs) known = refl

    flag_fault : (f : Text) → is_flag u f ≡ true → other_fault shape None (45 ∷ 45 ∷ f) h
        ≡ after_settling (use_by (has_row f rows))
    flag_fault f known = search (arith, flag_dashes)

    flag_met : (f : Text) (waiting : Waiting) (position : ℕ) → is_flag u f ≡ true
        → subcommand_or_other rules None waiting position (45 ∷ 45 ∷ f) h
        ≡ (reacted rules (flag_rule f) [] h, next idle)
    flag_met f waiting position known =
        ap (λ b. cond b (h, trailing position) (long_or_other rules waiting (45 ∷ 45 ∷ f) (long_of (45 ∷ 45 ∷ f)) h))
        (flag_dashes f known)
        ∙ ap (λ o. long_or_other rules waiting (45 ∷ 45 ∷ f) o h) (table.flag_word f known)
        ∙ ap (λ o. after_flag rules waiting (45 ∷ 45 ∷ f) (long_met rules o None h).0 (long_met rules o None h).1)
        (table.flag_long f known)

  -- ---- a value that has to be used, and can't be

  no_several : (b : Bool) (h kept : Held) → cond (b && false) h kept ≡ kept
  no_several true h kept = refl
  no_several false h kept = refl

  no_several_fault : (b : Bool) (k : Kinds) → cond (b && false) [] k ≡ k
  no_several_fault true k = refl
  no_several_fault false k = refl

  -- a name at a position fails where what was pending does, or where no place is left
  name_fails : (h : Held) (position : ℕ) (left : List Text) → Fails (settle_fault rules false h)
      → ArePlaces rules position left → Fails (step_fault shape position h value)
  name_fails h position [] bad places = search (arith, fails_as, one_fails)
  name_fails h position (id ∷ left) bad places = search (arith, fails_as, no_several_fault)

  doomed_end : (h : Held) (waiting : Waiting) (position : ℕ) (is_trailing : Bool) → Fails (settle_fault rules false h)
      → result (place h waiting position is_trailing) [] ≡ None
  unfolding walk_fault
  doomed_end h waiting position is_trailing bad = search (arith, refused_by, fails_first)

  doomed_behind : (h : Held) (waiting : Waiting) (position : ℕ) (left words : List Text)
      → Fails (settle_fault rules false h) → ArePlaces rules position left
      → result (place h waiting position true) words ≡ None
  doomed_behind h waiting position left [] bad places = doomed_end h waiting position true bad
  doomed_behind h waiting position left (word ∷ words) bad places = stop (place h waiting position true) word words
      (name_fails h position left bad places)

  -- a known option settles what is pending, and `--` leaves it
  option_fails : (h : Held) (waiting : Waiting) (word : Text) (words : List Text) (position : ℕ) (left : List Text)
      → Fails (settle_fault rules false h) → h.skip ≡ 0 → ArePlaces rules position left
      → word_fault shape [] false waiting word h ≡ other_fault shape None word h
      → ((p : ℕ) → word_met rules [] false waiting p (codes "--") h ≡ (h, trailing p))
      → word_fault shape [] false waiting (codes "--") h ≡ []
      → (IsPlain u name rules table word → is_option word ≡ false → word_of u word ≡ ordinary
      → result (place h waiting position false) (word ∷ words) ≡ None)
      → result (place h waiting position false) (word ∷ words) ≡ None
  option_fails h waiting word words position left bad unskipped places fault met none plain_fails =
      elim (kind_of_word u name rules table word) [
        | is_separator is ↦ subst (λ z. result (place h waiting position false) (z ∷ words) ≡ None) (sym is)
            (step (place h waiting position false) (place h waiting position true) (codes "--") words None
            (turn_is h waiting position (codes "--") [] (h, trailing position) none (met position))
            (walk_is h waiting position (codes "--") (h, trailing position) (met position))
            (doomed_behind h waiting position left words bad places))
        | is_steps takes is tests ↦ turn_fails h waiting position word words
            (fails_as _ (settle_fault rules false h) (fault ∙ ap (λ z. other_fault shape None z h) is ∙ steps_fault h takes)
            bad)
        | has_steps v takes is tests ↦ turn_fails h waiting position word words
            (fails_as _ (after_settling h (use_by (has_row (codes "steps") (rows h))))
            (fault ∙ ap (λ z. other_fault shape None z h) is ∙ value_fault h v takes)
            (fails_first (settle_fault rules false h) _ bad))
        | is_known f known is tests ↦ turn_fails h waiting position word words
            (fails_as _ (after_settling h (use_by (has_row f (rows h))))
            (fault ∙ ap (λ z. other_fault shape None z h) is ∙ flag_fault h f known)
            (fails_first (settle_fault rules false h) _ bad))
        | is_unknown tests minus refused ↦ turn_fails h waiting position word words
            (fails_as _ (other_fault shape None word h) fault (refused h unskipped))
        | is_ordinary tests minus taken ↦ plain_fails taken minus tests
      ]

  -- a value that is pending and can't be used
  doomed : (h : Held) (position : ℕ) (left words : List Text) → Fails (settle_fault rules false h) → h.skip ≡ 0
      → ArePlaces rules position left → result (place h idle position false) words ≡ None
  doomed h position left [] bad unskipped places = doomed_end h idle position false bad
  doomed h position left (word ∷ words) bad unskipped places =
      option_fails h idle word words position left bad unskipped places refl (λ p. refl) refl
      (λ taken minus tests. stop (place h idle position false) word words
      (fails_as _ (step_fault shape position h value)
      (turn_is h idle position word [] (h, value) (taken.fault h unskipped) (taken.met h idle position unskipped))
      (name_fails h position left bad places)))

  -- ---- what is held stands for what is given

  pub record Stands (h : Held) (given : Given) : Type 0 where
    pub skip : h.skip ≡ 0
    pub fine : settle_fault rules false h ≡ []
    pub shows : Shows (settled rules h).rows given

  -- a value that waits to be used
  abbrev waiting_value : Held → Text → Text → Held
  waiting_value h id v = record (settled rules h) { pending = Some (id, v ∷ []) }

  abbrev gives : Option Given → Option Command
  gives = option_and_then asked

  abbrev reading : Place → Given → List Text → Reading
  reading at given left = record { place = at; given = given; left = left }

  abbrev reads : List Text → Option Reading → Option Command
  reads words r = gives (option_and_then (λ next. read_words u next words) r)

  free : {X : Type 0} (o : Option X) → o ≡ None → use_by (is_some o) ≡ []
  free o none = ap (λ o. use_by (is_some o)) none

  again : {X : Type 0} (o : Option X) (x : X) → o ≡ Some x → Fails (use_by (is_some o))
  again o x is = fails_as (use_by (is_some o)) (ArgumentConflict ∷ []) (ap (λ o. use_by (is_some o)) is)
      (one_fails ArgumentConflict [])

  -- a value that waits: it is used, or something was given there before
  value_waits : (h : Held) (given : Given) (id v : Text) (a : Rule) → h.skip ≡ 0 → Shows (settled rules h).rows given
      → arg_by_id rules id ≡ Some a
      → use_fault false a (v ∷ []) (settled rules h).rows ≡ use_by (has_row id (settled rules h).rows)
      → ((given : Given) → Shows (settled rules h).rows given → given id ≡ None
      → Shows (used_by_id (Some a) (v ∷ []) (settled rules h).rows) (put id v given))
      → (position : ℕ) (left words : List Text) → ArePlaces rules position left → (is_trailing : Bool) (at : Place)
      → (Stands (waiting_value h id v) (put id v given)
      → result (place (waiting_value h id v) idle position is_trailing) words
      ≡ gives (read_words u (reading at (put id v given) left) words))
      → result (place (waiting_value h id v) idle position is_trailing) words
      ≡ reads words (with_value id v (reading at given left))
  value_waits h given id v a unskipped shows found used_fault shown position left words places is_trailing at rest =
      go (given id) refl
    where
      h' : Held
      h' = waiting_value h id v

      fault : settle_fault rules false h' ≡ use_by (is_some (given id))
      fault = ap (λ o. option_map_or (λ a. use_fault false a (v ∷ []) (settled rules h).rows) o []) found ∙ used_fault
          ∙ ap use_by (has_row_given (settled rules h).rows given shows id)

      fails : (b : Bool) → Fails (settle_fault rules false h') → result (place h' idle position b) words ≡ None
      fails true bad = doomed_behind h' idle position left words bad places
      fails false bad = doomed h' position left words bad unskipped places

      go : (o : Option Text) → given id ≡ o
          → result (place h' idle position is_trailing) words
          ≡ reads words (cond (is_some (given id)) None (Some (reading at (put id v given) left)))
      go None none = rest (record {
        skip = unskipped;
        fine = fault ∙ free (given id) none;
        shows = subst (λ o. Shows (used_by_id o (v ∷ []) (settled rules h).rows) (put id v given)) (sym found)
            (shown given shows none);
      }) ∙ ap (λ o. reads words (cond (is_some o) None (Some (reading at (put id v given) left)))) (sym none)
      go (Some there) is = fails is_trailing
          (fails_as (settle_fault rules false h') (use_by (is_some (given id))) fault (again (given id) there is))
          ∙ ap (λ o. reads words (cond (is_some o) None (Some (reading at (put id v given) left)))) (sym is)

  -- a value that is used at once
  value_used : (h : Held) (given : Given) (word id v : Text) (a : Rule) (values : List Text) → Stands h given
      → other_fault shape None word h ≡ after_settling h (use_by (has_row id (settled rules h).rows))
      → ((position : ℕ) → subcommand_or_other rules None idle position word h ≡ (reacted rules a values h, next idle))
      → (given id ≡ None → Shows (reacted rules a values h).rows (put id v given))
      → (position : ℕ) (left words : List Text)
      → (Stands (reacted rules a values h) (put id v given)
      → result (place (reacted rules a values h) idle position false) words
      ≡ gives (read_words u (reading among (put id v given) left) words))
      → result (place h idle position false) (word ∷ words) ≡ reads words (with_value id v (reading among given left))
  value_used h given word id v a values stands used_fault met shown position left words rest = go (given id) refl
    where
      h' : Held
      h' = reacted rules a values h

      fault : other_fault shape None word h ≡ use_by (is_some (given id))
      fault = used_fault ∙ ap (λ k. or_else k (use_by (has_row id (settled rules h).rows))) stands.fine
          ∙ ap use_by (has_row_given (settled rules h).rows given stands.shows id)

      go : (o : Option Text) → given id ≡ o
          → result (place h idle position false) (word ∷ words)
          ≡ reads words (cond (is_some (given id)) None (Some (reading among (put id v given) left)))
      go None none = step (place h idle position false) (place h' idle position false) word words _
          (turn_is h idle position word [] (h', next idle) (fault ∙ free (given id) none) (met position))
          (walk_is h idle position word (h', next idle) (met position))
          (rest (record { skip = stands.skip; fine = refl; shows = shown none }))
          ∙ ap (λ o. reads words (cond (is_some o) None (Some (reading among (put id v given) left)))) (sym none)
      go (Some there) is = turn_fails h idle position word words
          (fails_as (other_fault shape None word h) (use_by (is_some (given id))) fault (again (given id) there is))
          ∙ ap (λ o. reads words (cond (is_some o) None (Some (reading among (put id v given) left)))) (sym is)

  -- ---- the words to come, behind `--`

  ended : (h : Held) (given : Given) (position : ℕ) (is_trailing : Bool) → Stands h given
      → result (place h idle position is_trailing) [] ≡ asked given
  unfolding walk_fault
  ended h given position is_trailing stands =
      ap (λ k. without_fault (or_else k (or_else (defaults_fault (settled rules h).rows rules)
      (check_fault shape (finished rules h) false))) (asked (given_in (finished rules h)))) stands.fine
      ∙ ends (settled rules h).rows given stands.shows

  stray_fails : (h : Held) (position : ℕ) → arg_by_index rules position ≡ None
      → Fails (step_fault shape position h value)
  stray_fails h position none = search (arith, fails_as, one_fails)

  name_fault : (h : Held) (given : Given) (position : ℕ) (id : Text) → Stands h given
      → arg_by_index rules position ≡ Some (place_rule position id) → step_fault shape position h value ≡ []
  name_fault h given position id stands found = search (arith, no_several_fault)

  name_walk : (h : Held) (position : ℕ) (id word : Text) (is_trailing : Bool)
      → arg_by_index rules position ≡ Some (place_rule position id)
      → to_positional rules (arg_by_index rules position) word (place h idle position is_trailing) h
      ≡ place (waiting_value h id word) idle (min (position + 1) usize_max) is_trailing
  name_walk h position id word true found = search (arith, no_several)
  name_walk h position id word false found = search (arith, no_several)

  name_waits : (h : Held) (given : Given) (id word : Text) (position later : ℕ) (left words : List Text)
      → Stands h given → arg_by_id rules id ≡ Some (place_rule position id) → ArePlaces rules later left
      → (is_trailing : Bool) (at : Place)
      → (Stands (waiting_value h id word) (put id word given)
      → result (place (waiting_value h id word) idle later is_trailing) words
      ≡ gives (read_words u (reading at (put id word given) left) words))
      → result (place (waiting_value h id word) idle later is_trailing) words
      ≡ reads words (with_value id word (reading at given left))
  name_waits h given id word position later left words stands found places is_trailing at rest =
      value_waits h given id word (place_rule position id) stands.skip stands.shows found refl
      (λ given shows none. put_shows id word (settled rules h).rows given shows none) later left words places is_trailing
      at rest

  trailing_reads : (words : List Text) (h : Held) (given : Given) (position : ℕ) (left : List Text) → Stands h given
      → ArePlaces rules position left
      → result (place h idle position true) words ≡ gives (read_words u (reading behind_separator given left) words)
  unfolding read_words walked
  trailing_reads [] h given position left stands places = ended h given position true stands
  trailing_reads (word ∷ words) h given position [] stands places =
      stop (place h idle position true) word words (stray_fails h position places)
  trailing_reads (word ∷ words) h given position (id ∷ left) stands places =
      let later = min (position + 1) usize_max in
      step (place h idle position true) (place (waiting_value h id word) idle later true) word words _
      (name_fault h given position id stands places.0) (name_walk h position id word true places.0)
      (name_waits h given id word position later left words stands places.1 places.2 true behind_separator
      (λ standing. trailing_reads words (waiting_value h id word) (put id word given) later left standing places.2))

  -- ---- the words to come, among options and names

  abbrev awaited : Held → Held
  awaited h = record (settled rules h) { pending = Some (codes "steps", []) }

  abbrev AmongReads : List Text → Type 0
  AmongReads words = (h : Held) (given : Given) (position : ℕ) (left : List Text) → Stands h given
      → ArePlaces rules position left
      → result (place h idle position false) words ≡ gives (read_words u (reading among given left) words)

  abbrev BehindStepsReads : List Text → Type 0
  BehindStepsReads words = (h : Held) (given : Given) (position : ℕ) (left : List Text) → u.steps ≡ true
      → Stands h given → ArePlaces rules position left
      → result (place (awaited h) (option (codes "steps")) position false) words
      ≡ gives (read_words u (reading behind_steps given left) words)

  awaited_fails : (h : Held) → u.steps ≡ true → Fails (settle_fault rules false (awaited h))
  awaited_fails h takes = search (arith, fails_as, one_fails)

  word_among : (word : Text) (words : List Text) → AmongReads words → BehindStepsReads words → (h : Held) (given : Given)
      (position : ℕ) (left : List Text) → Stands h given → ArePlaces rules position left
      → result (place h idle position false) (word ∷ words)
      ≡ reads words (with_word (word_of u word) word (reading among given left))
  word_among word words rest behind h given position left stands places =
      elim (kind_of_word u name rules table word) [
        | is_separator is ↦ subst (λ z. result (place h idle position false) (z ∷ words)
            ≡ reads words (with_word (word_of u z) z r)) (sym is)
            (step (place h idle position false) (place h idle position true) (codes "--") words _
            (turn_is h idle position (codes "--") [] (h, trailing position) refl refl)
            (walk_is h idle position (codes "--") (h, trailing position) refl)
            (trailing_reads words h given position left stands places))
        | is_steps takes is tests ↦ step (place h idle position false)
            (place (awaited h) (option (codes "steps")) position false) word words _
            (turn_is h idle position word [] (awaited h, next (option (codes "steps")))
            (ap (λ z. other_fault shape None z h) is ∙ steps_fault h takes ∙ stands.fine)
            (ap (λ z. subcommand_or_other rules None idle position z h) is ∙ steps_met h idle position takes))
            (walk_is h idle position word (awaited h, next (option (codes "steps")))
            (ap (λ z. subcommand_or_other rules None idle position z h) is ∙ steps_met h idle position takes))
            (behind h given position left takes stands places) ∙ by_tests _ tests
        | has_steps v takes is tests ↦ value_used h given word (codes "steps") v steps_rule (v ∷ []) stands
            (ap (λ z. other_fault shape None z h) is ∙ value_fault h v takes)
            (λ p. ap (λ z. subcommand_or_other rules None idle p z h) is ∙ value_met h v idle p takes)
            (λ none. put_shows (codes "steps") v (settled rules h).rows given stands.shows none) position left words
            (λ standing. rest (reacted rules steps_rule (v ∷ []) h) (put (codes "steps") v given) position left standing
            places) ∙ by_tests _ tests
        | is_known f known is tests ↦ value_used h given word f (codes "true") (flag_rule f) [] stands
            (ap (λ z. other_fault shape None z h) is ∙ flag_fault h f known)
            (λ p. ap (λ z. subcommand_or_other rules None idle p z h) is ∙ flag_met h f idle p known)
            (λ none. put_shows f (codes "true") (settled rules h).rows given stands.shows none) position left words
            (λ standing. rest (reacted rules (flag_rule f) [] h) (put f (codes "true") given) position left standing
            places) ∙ by_tests _ tests
        | is_unknown tests minus refused ↦ turn_fails h idle position word words (refused h stands.skip)
            ∙ by_tests _ tests
        | is_ordinary tests minus taken ↦ name_read left places taken ∙ by_tests _ tests
      ]
    where
      r : Reading
      r = reading among given left

      by_tests : (k : Word) → word_of u word ≡ k → reads words (with_word k word r) ≡ reads words (with_word (word_of u word) word r)
      by_tests k tests = ap (λ k. reads words (with_word k word r)) (sym tests)

      name_read : (left : List Text) → ArePlaces rules position left → IsPlain u name rules table word
          → result (place h idle position false) (word ∷ words)
          ≡ reads words (with_word ordinary word (reading among given left))
      name_read [] places taken = stop (place h idle position false) word words
          (fails_as _ (step_fault shape position h value)
          (turn_is h idle position word [] (h, value) (taken.fault h stands.skip) (taken.met h idle position stands.skip))
          (stray_fails h position places))
      name_read (id ∷ left) places taken =
          let later = min (position + 1) usize_max in
          step (place h idle position false) (place (waiting_value h id word) idle later false) word words _
          (turn_is h idle position word [] (h, value) (taken.fault h stands.skip) (taken.met h idle position stands.skip)
          ∙ name_fault h given position id stands places.0)
          (walk_is h idle position word (h, value) (taken.met h idle position stands.skip)
          ∙ name_walk h position id word false places.0)
          (name_waits h given id word position later left words stands places.1 places.2 false among
          (λ standing. rest (waiting_value h id word) (put id word given) later left standing places.2))

  among_step : (word : Text) (words : List Text) → AmongReads words → BehindStepsReads words → AmongReads (word ∷ words)
  unfolding read_words
  among_step word words rest behind h given position left stands places = search (arith, word_among, read_is)

  steps_step : (word : Text) (words : List Text) → AmongReads words → BehindStepsReads (word ∷ words)
  unfolding read_words
  steps_step word words rest h given position left takes stands places =
      elim (option_or_ordinary u name rules table word) [
        | inl minus ↦ option_fails (awaited h) (option (codes "steps")) word words position left
            (awaited_fails h takes) stands.skip places refl (λ p. refl) refl
            (λ taken not_minus tests. absurd (true≢false (sym minus ∙ not_minus)))
            ∙ ap (λ b. reads words (cond b None (with_value (codes "steps") word (reading among given left)))) (sym minus)
        | inr (minus, tests, taken) ↦ step (place (awaited h) waiting position false)
            (place (waiting_value h (codes "steps") word) idle position false) word words _
            (turn_is (awaited h) waiting position word [] (waiting_value h (codes "steps") word, next idle)
            (taken.fault (awaited h) stands.skip) (met taken))
            (walk_is (awaited h) waiting position word (waiting_value h (codes "steps") word, next idle) (met taken))
            (value_waits h given (codes "steps") word steps_rule stands.skip stands.shows (table.steps_id takes) refl
            (λ given shows none. put_shows (codes "steps") word (settled rules h).rows given shows none)
            position left words places false among
            (λ standing. rest (waiting_value h (codes "steps") word) (put (codes "steps") word given) position left
            standing places))
            ∙ ap (λ b. reads words (cond b None (with_value (codes "steps") word (reading among given left)))) (sym minus)
      ]
    where
      waiting : Waiting
      waiting = option (codes "steps")

      met : IsPlain u name rules table word → subcommand_or_other rules None waiting position word (awaited h)
          ≡ (waiting_value h (codes "steps") word, next idle)
      met taken = taken.met (awaited h) waiting position stands.skip
          ∙ ap (λ o. (
            (option_word o (codes "steps") word (awaited h)).0,
            next (option_word o (codes "steps") word (awaited h)).1,
          )) (table.steps_id takes)

  all_read : (words : List Text) → AmongReads words × BehindStepsReads words
  unfolding read_words
  all_read [] = (
    λ h given position left stands places. ended h given position false stands,
    λ h given position left takes stands places.
        doomed_end (awaited h) (option (codes "steps")) position false (awaited_fails h takes),
  )
  all_read (word ∷ words) = search (arith, (all_read words), among_step, steps_step)

  -- a subcommand's words give what they spell
  pub words_read : (words : List Text) → result (place nothing_held idle 1 false) words
      ≡ gives (read_words u (reading among (λ _. None) u.places) words)
  words_read words = (all_read words).0 nothing_held (λ _. None) 1 u.places
      (record { skip = refl; fine = refl; shows = λ id. refl }) table.places
