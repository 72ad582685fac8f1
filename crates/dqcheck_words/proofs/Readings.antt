-- What the spelling says of words of one kind.
use Rattle.std.proofs.Common.{◌≡◌, ◌∙◌, ℕ, suc, cond, true, false, refl, sym, ap, arith, List, [], ◌∷◌, ◌++◌, length, Option, Some, None, is_some, true≢false, option_map, append-nil}
use Rattle.std.specs.Prelude.{option_and_then, slice_get}
use Rattle.std.specs.List.{All}
use Rattle.std.specs.Str.{IsUtf8, chars, encode_utf8_all}
use Rattle.std.specs.Char.{encode_utf8}
use Rattle.std.proofs.lemmas.Str.{encodes-chars}
use Rattle.clap.specs.Walk.{Text}
use Rattle.dqcheck_words.specs.Command.{Command}
use Rattle.dqcheck_words.specs.Spelling.{command_named, is_option, is_separator, names_among, spelled_command}
use Rattle.dqcheck_words.proofs.Words.{kind_of_word, ordinary, refused, separator}
use Rattle.dqcheck_words.proofs.Spelled.{among_ordinary, among_refused}

abbrev pub AreNoOptions : List Text → Type 0
AreNoOptions names = All (λ name. is_option name ≡ false) names

separator_is_option : is_option (45 ∷ 45 ∷ []) ≡ true
unfolding chars
separator_is_option = refl

-- `--` is an option too, so another word isn't it
no_separator : (word : Text) → is_option word ≡ false → is_separator word ≡ false
no_separator word not_option = elim (kind_of_word word) [
  | separator is ↦ absurd (true≢false (sym separator_is_option ∙ ap is_option (sym is) ∙ not_option))
  | refused dashes minus bad ↦ dashes
  | ordinary dashes minus plain ↦ dashes
]

later : (word : Text) (words : List Text) → AreNoOptions (word ∷ words) → AreNoOptions words
later word words all k d lt = all (suc k) d (omega arith)

-- names stand before what the words behind them give
among_names : (names words : List Text) → AreNoOptions names →
    names_among (names ++ words) ≡ option_map (λ more. names ++ more) (names_among words)
among_names [] words all = go (names_among words)
  where
    go : (o : Option (List Text)) → o ≡ option_map (λ more. more) o
    go None = refl
    go (Some more) = refl
among_names (name ∷ names) words all =
    let not_option : is_option name ≡ false = all 0 name (omega arith) in
    among_ordinary name (names ++ words) (no_separator name not_option) not_option
    ∙ ap (option_map (λ more. name ∷ more)) (among_names names words (later name names all)) ∙ go (names_among words)
  where
    go : (o : Option (List Text)) → option_map (λ more. name ∷ more) (option_map (λ more. names ++ more) o) ≡ option_map
        (λ more. name ∷ (names ++ more)) o
    go None = refl
    go (Some more) = refl

abbrev named : Option (List Text) → Option Command
named = option_and_then command_named

pub names_taken : (program : Text) (names : List Text) → AreNoOptions names →
    spelled_command (program ∷ names) ≡ command_named names
unfolding spelled_command
names_taken program names all = ap (λ words. named (names_among words)) (sym (append-nil names)) ∙ ap named (among_names names [] all)
    ∙ ap command_named (append-nil names)

pub names_behind_separator : (program word : Text) (before names : List Text) → AreNoOptions before →
    is_separator word ≡ true
    → spelled_command (program ∷ before ++ word ∷ names) ≡ command_named (before ++ names)
unfolding spelled_command
names_behind_separator program word before names all dashes = ap named (among_names before (word ∷ names) all)
    ∙ ap (λ b. named (option_map (λ more. before ++ more) (cond b (Some names)
    (cond (is_option word) None (option_map (λ more. word ∷ more) (names_among names)))))) dashes

pub option_refused : (program word : Text) (before behind : List Text) → AreNoOptions before → is_option word ≡ true →
    is_separator word ≡ false
    → spelled_command (program ∷ before ++ word ∷ behind) ≡ None
unfolding spelled_command
option_refused program word before behind all minus dashes = ap named (among_names before (word ∷ behind) all)
    ∙ ap (λ o. named (option_map (λ more. before ++ more) o)) (among_refused word behind dashes minus)

-- a text that isn't empty has a character
pub text_behind_minus : (next : ℕ) (rest : Text) → IsUtf8 (45 ∷ next ∷ rest) → is_option (45 ∷ next ∷ rest) ≡ true
unfolding chars encode_utf8
text_behind_minus next rest text = go (chars (next ∷ rest)) (encodes-chars (45 ∷ next ∷ rest) text)
  where
    go : (cs : List ℕ) → encode_utf8_all (45 ∷ cs) ≡ 45 ∷ next ∷ rest → is_some (slice_get cs 0) ≡ true
    go [] e = absurd (omega (arith, ap length e))
    go (c ∷ cs) e = refl
