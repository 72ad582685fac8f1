-- What clap makes of all the words: from each place of its walk, what the words still to come spell.
use Rattle.std.proofs.Common.{◌≡◌, ◌∙◌, ◌&&◌, ℕ, Bool, cond, true, false, refl, sym, ap, ap₂, subst, List, [], ◌∷◌, Option, Some, None, is_some, codes, option_map}
use Rattle.std.specs.Prelude.{option_and_then}
use Rattle.std.specs.List.{fold, list_all}
use Rattle.list_laws.proofs.Truths.{and-false}
use Rattle.clap.specs.Walk.{Held, Row, Step, Text, Walk, after_step, arg_by_index, finished, idle, nothing_held, settled, to_positional, value, walked, word_met}
use Rattle.clap.specs.Simple.{App, built, entered, matches_of}
use Rattle.clap.specs.Kinds.{Kinds, or_else}
use Rattle.clap.specs.Faults.{check_fault, defaults_fault, entered_fault, fault_of, settle_fault, step_fault, turn_fault, walk_fault}
use Rattle.clap.specs.Takes.{default_passes, entered_passes, is_valid, settle_passes, step_passes, takes, turn_passes, walk_passes}
use Rattle.clap.specs.declared.builder.value_parser.Reading.TheVariants as reading
use Rattle.clap.specs.declared.parser.matches.ValueSource.TheVariants.{CommandLine}
use Rattle.clap.proofs.OnLiterals.{clap_on_literals}
use Rattle.dqcheck_words.specs.Command.{Command}
use Rattle.dqcheck_words.specs.Parsed.{checker_app, command_of, named_by}
use Rattle.dqcheck_words.specs.Spelling.{command_named, is_option, is_separator, names_among, spelled_command}
use Rattle.dqcheck_words.proofs.Words.{IsPlain, IsRefused, kind_of_word, ordinary, refused, rules, separator, top, unknown}

abbrev app : App
app = built checker_app

-- ---- a parse from a place of the walk on

abbrev end_of : Walk → List Text → Walk
end_of w words = fold (walked rules []) w words

abbrev fault_from : Kinds → Walk → Kinds
fault_from steps end = or_else steps (or_else (entered_fault app end.stopped)
    (or_else (settle_fault rules false end.held) (or_else (defaults_fault (settled rules end.held).rows rules)
    (check_fault top (finished rules end.held) (is_some (entered app end.stopped))))))

abbrev passes_from : Bool → Walk → Bool
passes_from steps end = entered_passes app end.stopped && (steps && (settle_passes rules false end.held
    && (list_all default_passes rules && is_valid top (finished rules end.held) (is_some (entered app end.stopped)))))

abbrev fault_at : Walk → List Text → Kinds
fault_at w words = fault_from (walk_fault top [] w words) (end_of w words)

abbrev passes_at : Walk → List Text → Bool
passes_at w words = passes_from (walk_passes top [] w words) (end_of w words)

abbrev rows_at : Walk → List Text → List Row
rows_at w words = finished rules (end_of w words).held

-- the matches of the two names
abbrev row : Text → Text → Row
row id name = record {
  id = id;
  values = name ∷ [];
  count = None;
  source = Some CommandLine;
  reading =
      reading.AsWritten;
}

abbrev pub rows_of_names : Command → List Row
rows_of_names names = row (codes "FORMULA") names.formula ∷ row (codes "CERT") names.certificate ∷ []

-- the parse fails, or gives the names
abbrev Gives : Kinds → Bool → List Row → Option Command → Type 0
Gives fault passes rows None = (fault ≡ [] → ⊥) × (passes ≡ false)
Gives fault passes rows (Some names) = (fault ≡ []) × (passes ≡ true) × (rows ≡ rows_of_names names)

abbrev GivesAt : Walk → List Text → Option Command → Type 0
GivesAt w words given = Gives (fault_at w words) (passes_at w words) (rows_at w words) given

gives_as : (a b : Kinds) (p q : Bool) (r s : List Row) (given : Option Command) → a ≡ b → p ≡ q → r ≡ s →
    Gives b q s given → Gives a p r given
gives_as a b p q r s given e f g h = subst (λ k. Gives k p r given) (sym e)
    (subst (λ k. Gives b k r given) (sym f) (subst (λ k. Gives b q k given) (sym g) h))

-- a word that passes
step : (w after : Walk) (word : Text) (words : List Text) (given : Option Command) → turn_fault top [] w word ≡ [] →
    turn_passes top [] w word ≡ true
    → walked rules [] w word ≡ after → GivesAt after words given → GivesAt w (word ∷ words) given
unfolding walk_fault walk_passes
step w after word words given fault passes is h =
    gives_as (fault_at w (word ∷ words)) (fault_at after words) (passes_at w (word ∷ words)) (passes_at after words)
    (rows_at w (word ∷ words)) (rows_at after words) given
    (ap (λ k. fault_from (or_else k (walk_fault top [] (walked rules [] w word) words))
    (end_of (walked rules [] w word) words)) fault ∙ ap (λ v. fault_at v words) is)
    (ap (λ b. passes_from (b && walk_passes top [] (walked rules [] w word) words)
    (end_of (walked rules [] w word) words)) passes ∙ ap (λ v. passes_at v words) is)
    (ap (λ v. rows_at v words) is) h

-- a word that is refused
stop : (w : Walk) (word : Text) (words : List Text) → turn_fault top [] w word ≡ unknown →
    turn_passes top [] w word ≡ false → GivesAt w (word ∷ words) None
unfolding walk_fault walk_passes
stop w word words fault passes = (
  λ none. let is : fault_at w (word ∷ words) ≡ fault_from unknown (end_of (walked rules [] w word) words) =
      ap (λ k. fault_from (or_else k (walk_fault top [] (walked rules [] w word) words))
      (end_of (walked rules [] w word) words)) fault in cc,
  ap (λ b. passes_from (b && walk_passes top [] (walked rules [] w word) words)
      (end_of (walked rules [] w word) words)) passes
      ∙ and-false (entered_passes app (end_of (walked rules [] w word) words).stopped),
)

-- ---- the places of the walk

abbrev place : Held → ℕ → Bool → Walk
place h position is_trailing = record {
  held = h;
  waiting = idle;
  position = position;
  is_trailing = is_trailing;
  stopped = None;
}

abbrev begun : Bool → Walk
begun = place nothing_held 1

abbrev with_formula : Text → Bool → Walk
with_formula f = place (record { rows = []; pending = Some (codes "FORMULA", f ∷ []); skip = 0 }) 2

abbrev with_both : Text → Text → Bool → Walk
with_both f c = place (record {
  rows = row (codes "FORMULA") f ∷ [];
  pending = Some (codes "CERT", c ∷ []);
  skip = 0;
}) 3

-- ---- one word at a place before `--`

plain_turn : (h : Held) (position : ℕ) (word : Text) → h.skip ≡ 0 → IsPlain word →
    turn_fault top [] (place h position false) word ≡ step_fault top position h value
plain_turn h position word none plain =
    ap₂ (λ (k : Kinds) (m : Held × Step). or_else k (step_fault top position m.0 m.1)) (plain.fault h none)
    (plain.met h position none)

plain_passes : (h : Held) (position : ℕ) (word : Text) → h.skip ≡ 0 → IsPlain word →
    turn_passes top [] (place h position false) word ≡ step_passes top position h value
plain_passes h position word none plain =
    ap₂ (λ (b : Bool) (m : Held × Step). b && step_passes top position m.0 m.1) (plain.passes h none)
    (plain.met h position none)

plain_walk : (h : Held) (position : ℕ) (word : Text) → h.skip ≡ 0 → IsPlain word
    → walked rules [] (place h position false) word ≡ to_positional rules (arg_by_index rules position) word
    (place h position false) h
unfolding walked
plain_walk h position word none plain = ap (λ (m : Held × Step). after_step rules word (place h position false) m.0 m.1)
    (plain.met h position none)

refused_here : (h : Held) (position : ℕ) (word : Text) (words : List Text) → h.skip ≡ 0 → IsRefused word →
    GivesAt (place h position false) (word ∷ words) None
refused_here h position word words none bad = stop (place h position false) word words
    (ap (λ (k : Kinds). or_else k (let m = word_met rules [] false idle position word h in
    step_fault top position m.0 m.1)) (bad.fault h none))
    (ap (λ (b : Bool). b && (let m = word_met rules [] false idle position word h in step_passes top position m.0 m.1))
    (bad.passes h none))

-- ---- the words to come, behind `--`

trailing_both : (f c : Text) (words : List Text) → GivesAt (with_both f c true) words (command_named (f ∷ c ∷ words))
unfolding clap_on_literals
trailing_both f c [] = (refl, refl, refl)
trailing_both f c (word ∷ words) = stop (with_both f c true) word words refl refl

trailing_formula : (f : Text) (words : List Text) → GivesAt (with_formula f true) words (command_named (f ∷ words))
unfolding clap_on_literals
trailing_formula f [] = ((λ e. cc), refl)
trailing_formula f (c ∷ words) = step (with_formula f true) (with_both f c true) c words _ refl refl refl
    (trailing_both f c words)

trailing_begun : (words : List Text) → GivesAt (begun true) words (command_named words)
unfolding clap_on_literals
trailing_begun [] = ((λ e. cc), refl)
trailing_begun (f ∷ words) = step (begun true) (with_formula f true) f words _ refl refl refl (trailing_formula f words)

-- ---- the words to come, before any `--`

abbrev behind : Text → Option (List Text) → Option (List Text)
behind word = option_map (λ names. word ∷ names)

pub among_refused : (word : Text) (words : List Text) → is_separator word ≡ false → is_option word ≡ true →
    names_among (word ∷ words) ≡ None
among_refused word words dashes minus =
    ap (λ b. cond b (Some words) (cond (is_option word) None (behind word (names_among words)))) dashes
    ∙ ap (λ b. cond b None (behind word (names_among words))) minus

pub among_ordinary : (word : Text) (words : List Text) → is_separator word ≡ false → is_option word ≡ false →
    names_among (word ∷ words) ≡ behind word (names_among words)
among_ordinary word words dashes minus =
    ap (λ b. cond b (Some words) (cond (is_option word) None (behind word (names_among words)))) dashes
    ∙ ap (λ b. cond b None (behind word (names_among words))) minus

abbrev after_both : Text → Text → Option (List Text) → Option Command
after_both f c names = option_and_then command_named (behind f (behind c names))

abbrev after_formula : Text → Option (List Text) → Option Command
after_formula f names = option_and_then command_named (behind f names)

abbrev after_none : Option (List Text) → Option Command
after_none names = option_and_then command_named names

a_third : (f c word : Text) (names : Option (List Text)) → after_both f c (behind word names) ≡ None
a_third f c word None = refl
a_third f c word (Some names) = refl

given_as : (w : Walk) (words : List Text) (a b : Option Command) → a ≡ b → GivesAt w words b → GivesAt w words a
given_as w words a b is h = subst (λ k. GivesAt w words k) (sym is) h

at_both : (f c : Text) (words : List Text) → GivesAt (with_both f c false) words (after_both f c (names_among words))
unfolding clap_on_literals
at_both f c [] = (refl, refl, refl)
at_both f c (word ∷ words) = elim (kind_of_word word) [
  | separator is ↦ subst (λ z. GivesAt (with_both f c false) (z ∷ words) (after_both f c (names_among (z ∷ words))))
      (sym is)
      (step (with_both f c false) (with_both f c true) (45 ∷ 45 ∷ []) words _ refl refl refl (trailing_both f c words))
  | refused dashes minus bad ↦ given_as (with_both f c false) (word ∷ words) _ _
      (ap (after_both f c) (among_refused word words dashes minus))
      (refused_here (with_both f c false).held 3 word words refl bad)
  | ordinary dashes minus plain ↦ given_as (with_both f c false) (word ∷ words) _ _
      (ap (after_both f c) (among_ordinary word words dashes minus) ∙ a_third f c word (names_among words))
      (stop (with_both f c false) word words (plain_turn (with_both f c false).held 3 word refl plain)
      (plain_passes (with_both f c false).held 3 word refl plain))
]

at_formula : (f : Text) (words : List Text) → GivesAt (with_formula f false) words (after_formula f (names_among words))
unfolding clap_on_literals
at_formula f [] = ((λ e. cc), refl)
at_formula f (word ∷ words) = elim (kind_of_word word) [
  | separator is ↦ subst (λ z. GivesAt (with_formula f false) (z ∷ words) (after_formula f (names_among (z ∷ words))))
      (sym is)
      (step (with_formula f false) (with_formula f true) (45 ∷ 45 ∷ []) words _ refl refl refl
      (trailing_formula f words))
  | refused dashes minus bad ↦ given_as (with_formula f false) (word ∷ words) _ _
      (ap (after_formula f) (among_refused word words dashes minus))
      (refused_here (with_formula f false).held 2 word words refl bad)
  | ordinary dashes minus plain ↦ given_as (with_formula f false) (word ∷ words) _ _
      (ap (after_formula f) (among_ordinary word words dashes minus))
      (step (with_formula f false) (with_both f word false) word words _
      (plain_turn (with_formula f false).held 2 word refl plain)
      (plain_passes (with_formula f false).held 2 word refl plain)
      (plain_walk (with_formula f false).held 2 word refl plain) (at_both f word words))
]

at_begun : (words : List Text) → GivesAt (begun false) words (after_none (names_among words))
unfolding clap_on_literals
at_begun [] = ((λ e. cc), refl)
at_begun (word ∷ words) = elim (kind_of_word word) [
  | separator is ↦ subst (λ z. GivesAt (begun false) (z ∷ words) (after_none (names_among (z ∷ words)))) (sym is)
      (step (begun false) (begun true) (45 ∷ 45 ∷ []) words _ refl refl refl (trailing_begun words))
  | refused dashes minus bad ↦ given_as (begun false) (word ∷ words) _ _
      (ap after_none (among_refused word words dashes minus))
      (refused_here nothing_held 1 word words refl bad)
  | ordinary dashes minus plain ↦ given_as (begun false) (word ∷ words) _ _
      (ap after_none (among_ordinary word words dashes minus))
      (step (begun false) (with_formula word false) word words _
      (plain_turn nothing_held 1 word refl plain) (plain_passes nothing_held 1 word refl plain)
      (plain_walk nothing_held 1 word refl plain) (at_formula word words))
]

-- ---- all the words

words_give : (words : List Text) → Gives (fault_of checker_app words) (takes checker_app words)
    (matches_of checker_app words) (spelled_command words)
unfolding spelled_command
words_give [] = at_begun []
words_give (program ∷ words) = at_begun words

command_by : (fault : Kinds) (passes : Bool) (rows : List Row) (given : Option Command) → Gives fault passes rows given
    → cond passes (Some (named_by rows)) None ≡ given
command_by fault passes rows None h = ap (λ b. cond b (Some (named_by rows)) None) h.1
command_by fault passes rows (Some names) h = ap₂ (λ (b : Bool) (r : List Row). cond b (Some (named_by r)) None) h.1 h.2

pub command_is_spelled : (words : List Text) → command_of words ≡ spelled_command words
unfolding command_of
command_is_spelled words = command_by (fault_of checker_app words) (takes checker_app words)
    (matches_of checker_app words) (spelled_command words) (words_give words)

-- where no step of the parse fails, the command takes the words, and its matches are two names
pub record AreNames (words : List Text) : Type 0 where
  pub names : Command
  pub command : command_of words ≡ Some names
  pub matches : matches_of checker_app words ≡ rows_of_names names

pub names_without_fault : (words : List Text) → fault_of checker_app words ≡ [] → AreNames words
names_without_fault words none = go (spelled_command words) (command_is_spelled words) (words_give words)
  where
    go : (given : Option Command) → command_of words ≡ given
        → Gives (fault_of checker_app words) (takes checker_app words) (matches_of checker_app words) given →
        AreNames words
    go None is h = absurd (h.0 none)
    go (Some names) is h = record { names = names; command = is; matches = h.2 }
