-- What clap makes of one word that stands before any `--`, at a command whose arguments are known by their places.
use Rattle.std.proofs.Common.{◌≡◌, ◌∙◌, ◌&&◌, ◌||◌, ◌==◌, ℕ, zero, suc, Bool, cond, true, false, refl, sym, ap, subst, List, [], ◌∷◌, length, Option, Some, None, is_some, eqb-true}
use Rattle.std.specs.Prelude.{option_and_then, slice_get}
use Rattle.std.specs.Option.{option_map_or}
use Rattle.std.specs.Str.{bytes_eq, chars}
use Rattle.clap.specs.Lexer.{long_of, long_of_rest, short_of, short_of_rest, strip_byte}
use Rattle.clap.specs.Walk.{Held, Outcome, Rule, Text, bundle_met, bundle_step, idle, long_or_other, plain, short_or_plain, after_flag, trailing, value, word_met}
use Rattle.clap.specs.Simple.{Shape, built}
use Rattle.clap.specs.Kinds.{Kinds}
use Rattle.clap.specs.Faults.{bundle_fault, bundle_step_fault, flag_word_fault, flags_fault, word_fault}
use Rattle.clap.specs.Takes.{bundle_passes, bundle_step_passes, flag_word_passes, flags_pass, word_passes}
use Rattle.clap.specs.declared.error.kind.ErrorKind.TheVariants as kind
use Rattle.dqcheck_words.specs.Parsed.{checker_app}
use Rattle.dqcheck_words.specs.Spelling.{is_option, is_separator}

-- the command as clap builds it
abbrev pub top : Shape
top = (built checker_app).top

abbrev pub rules : List Rule
rules = top.rules

abbrev pub unknown : Kinds
unknown = kind.UnknownArgument ∷ []

-- a word that is taken as a value
pub record IsPlain (word : Text) : Type 0 where
  pub met : (h : Held) (position : ℕ) → h.skip ≡ 0 → word_met rules [] false idle position word h ≡ (h, value)
  pub fault : (h : Held) → h.skip ≡ 0 → word_fault top [] false idle word h ≡ []
  pub passes : (h : Held) → h.skip ≡ 0 → word_passes top [] false idle word h ≡ true

-- a word that is refused as a flag
pub record IsRefused (word : Text) : Type 0 where
  pub fault : (h : Held) → h.skip ≡ 0 → word_fault top [] false idle word h ≡ unknown
  pub passes : (h : Held) → h.skip ≡ 0 → word_passes top [] false idle word h ≡ false

pub data Kind (word : Text) : Type 0 where
  separator : word ≡ 45 ∷ 45 ∷ [] → Kind word
  refused : is_separator word ≡ false → is_option word ≡ true → IsRefused word → Kind word
  ordinary : is_separator word ≡ false → is_option word ≡ false → IsPlain word → Kind word

-- ---- a word that is neither `--` nor begins as a flag

no_flag : (word : Text) → is_separator word ≡ false → long_of word ≡ None → short_of word ≡ None → IsPlain word
no_flag word dashes long short = record {
  met = λ h position none.
      ap (λ b. cond b (h, trailing position) (long_or_other rules idle word (long_of word) h)) dashes
      ∙ ap (λ o. long_or_other rules idle word o h) long ∙ ap (λ o. short_or_plain rules idle word o h) short;
  fault = λ h none.
      ap (λ b. cond b [] (flag_word_fault rules false (long_of word) word h)) dashes
      ∙ ap (λ o. flag_word_fault rules false o word h) long
      ∙ ap (λ o. option_map_or (λ flags. bundle_fault rules false flags h) o []) short;
  passes = λ h none.
      ap (λ b. b || flag_word_passes rules false (long_of word) word h) dashes
      ∙ ap (λ o. flag_word_passes rules false o word h) long
      ∙ ap (λ o. option_map_or (λ flags. bundle_passes rules false flags h) o true) short;
}

-- ---- a minus and no character behind it

no_bundle : (n : ℕ) (flags : Text) (h : Held) → slice_get (chars flags) 0 ≡ None →
    bundle_met rules n flags 0 plain h ≡ (h, plain)
unfolding bundle_met
no_bundle zero flags h none = refl
no_bundle (suc n) flags h none = ap (λ o. (bundle_step rules o flags 0 plain h (bundle_met rules n))) none

no_bundle_fault : (n : ℕ) (flags : Text) (h : Held) → slice_get (chars flags) 0 ≡ None →
    flags_fault rules false n flags 0 h ≡ []
unfolding flags_fault
no_bundle_fault zero flags h none = refl
no_bundle_fault (suc n) flags h none = ap (λ o. bundle_step_fault rules false o flags 0 h
    (flags_fault rules false n)) none

no_bundle_passes : (n : ℕ) (flags : Text) (h : Held) → slice_get (chars flags) 0 ≡ None →
    flags_pass rules false n flags 0 h ≡ true
unfolding flags_pass
no_bundle_passes zero flags h none = refl
no_bundle_passes (suc n) flags h none = ap (λ o. bundle_step_passes rules false o flags 0 h
    (flags_pass rules false n)) none

-- with no flag to pass over
abbrev rested : Held → Held
rested h = record h { skip = 0 }

as_rested : (h : Held) → h.skip ≡ 0 → h ≡ rested h
as_rested h none = λ i. record h { skip = none i }

empty_flag : (word flags : Text) → is_separator word ≡ false → long_of word ≡ None → short_of word ≡ Some flags →
    slice_get (chars flags) 0 ≡ None → IsPlain word
empty_flag word flags dashes long short none = record {
  met = λ h position unskipped. subst (λ k. word_met rules [] false idle position word k ≡ (k, value))
      (sym (as_rested h unskipped))
      (ap (λ b. cond b (rested h, trailing position) (long_or_other rules idle word (long_of word) (rested h))) dashes
      ∙ ap (λ o. long_or_other rules idle word o (rested h)) long ∙ ap
      (λ o. short_or_plain rules idle word o (rested h)) short
      ∙ ap (λ (p : Held × Outcome). after_flag rules idle word p.0 p.1)
      (no_bundle (length flags) flags (rested h) none));
  fault = λ h unskipped. subst (λ k. word_fault top [] false idle word k ≡ []) (sym (as_rested h unskipped))
      (ap (λ b. cond b [] (flag_word_fault rules false (long_of word) word (rested h))) dashes
      ∙ ap (λ o. flag_word_fault rules false o word (rested h)) long
      ∙ ap (λ o. option_map_or (λ flags. bundle_fault rules false flags (rested h)) o []) short
      ∙ no_bundle_fault (length flags) flags (rested h) none);
  passes = λ h unskipped. subst (λ k. word_passes top [] false idle word k ≡ true) (sym (as_rested h unskipped))
      (ap (λ b. b || flag_word_passes rules false (long_of word) word (rested h)) dashes
      ∙ ap (λ o. flag_word_passes rules false o word (rested h)) long
      ∙ ap (λ o. option_map_or (λ flags. bundle_passes rules false flags (rested h)) o true) short
      ∙ no_bundle_passes (length flags) flags (rested h) none);
}

-- ---- a flag, of which the command has none

long_flag : (word : Text) (p : Text × Option Text) → is_separator word ≡ false → long_of word ≡ Some p → IsRefused word
long_flag word p dashes long = record {
  fault = λ h unskipped.
      ap (λ b. cond b [] (flag_word_fault rules false (long_of word) word h)) dashes
      ∙ ap (λ o. flag_word_fault rules false o word h) long;
  passes = λ h unskipped.
      ap (λ b. b || flag_word_passes rules false (long_of word) word h) dashes
      ∙ ap (λ o. flag_word_passes rules false o word h) long;
}

first_fault : (n : ℕ) (flags : Text) (first : ℕ) (h : Held) → slice_get (chars flags) 0 ≡ Some first →
    flags_fault rules false (suc n) flags 0 h ≡ unknown
unfolding flags_fault
first_fault n flags first h is = ap (λ o. bundle_step_fault rules false o flags 0 h (flags_fault rules false n)) is

first_fails : (n : ℕ) (flags : Text) (first : ℕ) (h : Held) → slice_get (chars flags) 0 ≡ Some first →
    flags_pass rules false (suc n) flags 0 h ≡ false
unfolding flags_pass
first_fails n flags first h is = ap (λ o. bundle_step_passes rules false o flags 0 h (flags_pass rules false n)) is

short_flag : (word rest : Text) (x first : ℕ) → is_separator word ≡ false → long_of word ≡ None →
    short_of word ≡ Some (x ∷ rest)
    → slice_get (chars (x ∷ rest)) 0 ≡ Some first → IsRefused word
short_flag word rest x first dashes long short is = record {
  fault = λ h unskipped. subst (λ k. word_fault top [] false idle word k ≡ unknown) (sym (as_rested h unskipped))
      (ap (λ b. cond b [] (flag_word_fault rules false (long_of word) word (rested h))) dashes
      ∙ ap (λ o. flag_word_fault rules false o word (rested h)) long
      ∙ ap (λ o. option_map_or (λ flags. bundle_fault rules false flags (rested h)) o []) short
      ∙ first_fault (length rest) (x ∷ rest) first (rested h) is);
  passes = λ h unskipped. subst (λ k. word_passes top [] false idle word k ≡ false) (sym (as_rested h unskipped))
      (ap (λ b. b || flag_word_passes rules false (long_of word) word (rested h)) dashes
      ∙ ap (λ o. flag_word_passes rules false o word (rested h)) long
      ∙ ap (λ o. option_map_or (λ flags. bundle_passes rules false flags (rested h)) o true) short
      ∙ first_fails (length rest) (x ∷ rest) first (rested h) is);
}

-- ---- which words are which

-- a word whose first byte is or isn't a minus
abbrev long_by : Bool → Text → Option (Text × Option Text)
long_by minus rest = option_and_then long_of_rest (option_and_then (strip_byte 45) (cond minus (Some rest) None))

abbrev short_by : Bool → Text → Option Text
short_by minus rest = option_and_then short_of_rest (cond minus (Some rest) None)

abbrev separator_by : Bool → Text → Bool
separator_by minus rest = minus && bytes_eq rest (45 ∷ [])

abbrev option_by : Bool → Text → Bool
option_by minus rest = minus && is_some (slice_get (chars rest) 0)

no_minus : (x : ℕ) (rest : Text) → (x == 45) ≡ false → Kind (x ∷ rest)
no_minus x rest first =
    let dashes : is_separator (x ∷ rest) ≡ false = ap (λ b. separator_by b rest) first in
    ordinary dashes (ap (λ b. option_by b rest) first)
    (no_flag (x ∷ rest) dashes (ap (λ b. long_by b rest) first) (ap (λ b. short_by b rest) first))

minus_alone : Kind (45 ∷ [])
unfolding chars
minus_alone = ordinary refl refl (no_flag (45 ∷ []) refl refl refl)

two_minus : (rest : Text) → Kind (45 ∷ 45 ∷ rest)
unfolding chars
two_minus [] = separator refl
two_minus (z ∷ zs) = refused refl refl (long_flag (45 ∷ 45 ∷ z ∷ zs) _ refl refl)

one_minus : (y : ℕ) (rest : Text) → (y == 45) ≡ false → Kind (45 ∷ y ∷ rest)
one_minus y rest second = go (slice_get (chars (y ∷ rest)) 0) refl
  where
    dashes : is_separator (45 ∷ y ∷ rest) ≡ false
    dashes = ap (λ b. b && bytes_eq rest []) second

    long : long_of (45 ∷ y ∷ rest) ≡ None
    long = ap (λ b. option_and_then long_of_rest (cond b (Some rest) None)) second

    short : short_of (45 ∷ y ∷ rest) ≡ Some (y ∷ rest)
    short = ap (λ b. cond b None (Some (y ∷ rest))) second

    go : (o : Option ℕ) → slice_get (chars (y ∷ rest)) 0 ≡ o → Kind (45 ∷ y ∷ rest)
    go None is = ordinary dashes (ap is_some is) (empty_flag (45 ∷ y ∷ rest) (y ∷ rest) dashes long short is)
    go (Some first) is = refused dashes (ap is_some is) (short_flag (45 ∷ y ∷ rest) rest y first dashes long short is)

behind_minus : (rest : Text) → Kind (45 ∷ rest)
behind_minus [] = minus_alone
behind_minus (y ∷ rest) = go (y == 45) refl
  where
    go : (b : Bool) → (y == 45) ≡ b → Kind (45 ∷ y ∷ rest)
    go true is = subst (λ z. Kind (45 ∷ z ∷ rest)) (sym (eqb-true y 45 is)) (two_minus rest)
    go false is = one_minus y rest is

-- each word is one of the three
pub kind_of_word : (word : Text) → Kind word
kind_of_word [] = ordinary refl refl (no_flag [] refl refl refl)
kind_of_word (x ∷ rest) = go (x == 45) refl
  where
    go : (b : Bool) → (x == 45) ≡ b → Kind (x ∷ rest)
    go true is = subst (λ z. Kind (z ∷ rest)) (sym (eqb-true x 45 is)) (behind_minus rest)
    go false is = no_minus x rest is
