-- What a word is among options and names, for the spelling and for clap.
use Rattle.std.proofs.Common.{◌≡◌, ◌⊎◌, ◌∙◌, ◌&&◌, ◌||◌, ◌==◌, ◌+◌, ℕ, zero, suc, Bool, cond, not, true, false, true≢false, refl, sym, ap, ap₂, subst, arith, List, [], ◌∷◌, ◌++◌, take, drop, Option, Some, None, is_some, eqb-true, codes}
use Rattle.std.specs.Prelude.{option_and_then, slice_get}
use Rattle.std.specs.List.{before_first, after_first, position_or_len}
use Rattle.std.specs.Str.{bytes_eq, chars}
use Rattle.std.proofs.lemmas.List.{take-append-drop}
use Rattle.std.proofs.lemmas.Slice.Eq.{bytes_eq-Decides}
use Rattle.list_laws.proofs.Truths.{and-false}
use Rattle.clap.specs.Lexer.{has_byte, long_of, long_of_rest, short_of, short_of_rest, strip_byte}
use Rattle.clap.specs.Walk.{Held, Rule, Text, Waiting, arg_by_long, bundle_met, bundle_step, plain, plain_word, subcommand_or_other}
use Rattle.clap.specs.Simple.{Shape}
use Rattle.clap.specs.Kinds.{Kinds}
use Rattle.clap.specs.Faults.{flags_fault, long_fault, other_fault}
use Rattle.dqsolve_words.specs.Spelling.{Reading, Usage, behind_separator, behind_steps, is_flag, is_option, read_among, with_name, with_value}
use Rattle.clap.specs.declared.error.kind.ErrorKind.TheVariants.{UnknownArgument}
use Rattle.dqsolve_words.proofs.Tables.{Fails, IsTable, fails_as, leaf, one_fails}

and_both : (a b : Bool) → (a && b) ≡ true → (a ≡ true) × (b ≡ true)
and_both true b both = (refl, both)
and_both false b both = cc

-- ---- a text that is cut at its first `=`

cut_here : (text : Text) → has_byte 61 text ≡ false → before_first (λ x. x == 61) text ≡ text
cut_here [] none = refl
cut_here (x ∷ text) none = go (x == 61) none (cut_here text)
  where
    go : (b : Bool) → (b || has_byte 61 text) ≡ false
        → (has_byte 61 text ≡ false → before_first (λ x. x == 61) text ≡ text)
        → take (cond (not b) (1 + position_or_len (λ x. x == 61) text) 0) (x ∷ text) ≡ x ∷ text
    go true no_byte rest = cc
    go false no_byte rest =
        let one : 1 + position_or_len (λ x. x == 61) text ≡ suc (position_or_len (λ x. x == 61) text) = omega arith in
        ap (λ n. take n (x ∷ text)) one ∙ ap (λ xs. x ∷ xs) (rest no_byte)

cut_at : (text : Text) → has_byte 61 text ≡ true →
    text ≡ before_first (λ x. x == 61) text ++ 61 ∷ after_first (λ x. x == 61) text
cut_at [] some = cc
cut_at (x ∷ text) some = go (x == 61) refl some (cut_at text)
  where
    go : (b : Bool) → (x == 61) ≡ b → (b || has_byte 61 text) ≡ true
        → (has_byte 61 text ≡ true → text ≡ before_first (λ x. x == 61) text ++ 61 ∷ after_first (λ x. x == 61) text)
        → x ∷ text ≡ take (cond (not b) (1 + position_or_len (λ x. x == 61) text) 0) (x ∷ text)
        ++ 61 ∷ drop (cond (not b) (1 + position_or_len (λ x. x == 61) text) 0 + 1) (x ∷ text)
    go true here has rest = ap (λ (y : ℕ). y ∷ text) (eqb-true x 61 here)
    go false here has rest =
        let one : 1 + position_or_len (λ x. x == 61) text ≡ suc (position_or_len (λ x. x == 61) text) = omega arith in
        let two : 1 + position_or_len (λ x. x == 61) text + 1 ≡ suc (position_or_len (λ x. x == 61) text + 1) = omega arith in
        ap (λ xs. x ∷ xs) (rest has)
        ∙ ap₂ (λ (n m : ℕ). take n (x ∷ text) ++ 61 ∷ drop m (x ∷ text)) (sym one) (sym two)

-- ---- the tests of the spelling

-- what a word is that stands among options and names
pub data Word : Type 0 where
  separator : Word
  steps_follow : Word
  steps_are : Text → Word
  flag_is : Text → Word
  unknown : Word
  ordinary : Word

abbrev pub word_of : Usage → Text → Word
word_of u word =
    cond (bytes_eq word (codes "--")) separator
    (cond (u.steps && bytes_eq word (codes "--steps")) steps_follow
    (cond (u.steps && bytes_eq (take 8 word) (codes "--steps=")) (steps_are (drop 8 word))
    (cond (bytes_eq (take 2 word) (codes "--") && is_flag u (drop 2 word)) (flag_is (drop 2 word))
    (cond (is_option word) unknown ordinary))))

abbrev pub with_word : Word → Text → Reading → Option Reading
with_word separator word r = Some (record r { place = behind_separator })
with_word steps_follow word r = Some (record r { place = behind_steps })
with_word (steps_are value) word r = with_value (codes "steps") value r
with_word (flag_is id) word r = with_value id (codes "true") r
with_word unknown word r = None
with_word ordinary word r = with_name r.left word r

pub read_is : (u : Usage) (word : Text) (r : Reading) → read_among u word r ≡ with_word (word_of u word) word r
read_is u word r = go (bytes_eq word (codes "--")) (u.steps && bytes_eq word (codes "--steps"))
    (u.steps && bytes_eq (take 8 word) (codes "--steps="))
    (bytes_eq (take 2 word) (codes "--") && is_flag u (drop 2 word)) (is_option word)
  where
    go : (a b c d e : Bool) → cond a (Some (record r { place = behind_separator }))
        (cond b (Some (record r { place = behind_steps })) (cond c (with_value (codes "steps") (drop 8 word) r)
        (cond d (with_value (drop 2 word) (codes "true") r) (cond e None (with_name r.left word r)))))
        ≡ with_word (cond a separator (cond b steps_follow (cond c (steps_are (drop 8 word))
        (cond d (flag_is (drop 2 word)) (cond e unknown ordinary))))) word r
    go true b c d e = refl
    go false true c d e = refl
    go false false true d e = refl
    go false false false true e = refl
    go false false false false true = refl
    go false false false false false = refl

abbrev word_by : Bool → Bool → Bool → Bool → Bool → Text → Text → Word
word_by dashes named valued known minus value f =
    cond dashes separator (cond named steps_follow (cond valued (steps_are value) (cond known (flag_is f)
    (cond minus unknown ordinary))))

-- a word that doesn't begin with two minuses
no_dashes : (u : Usage) (word : Text) → bytes_eq word (codes "--") ≡ false → bytes_eq word (codes "--steps") ≡ false →
    bytes_eq (take 8 word) (codes "--steps=") ≡ false → bytes_eq (take 2 word) (codes "--") ≡ false →
    word_of u word ≡ cond (is_option word) unknown ordinary
no_dashes u word dashes named valued begins = search (arith, codes, and-false)

-- ---- what clap makes of a word that is no flag

abbrev refused_kinds : Kinds
refused_kinds = UnknownArgument ∷ []

module _ (u : Usage) (name : Text) (rules : List Rule) (table : IsTable u rules) where
  abbrev pub shape : Shape
  shape = leaf name rules

  -- a word that is taken as a value
  pub record IsPlain (word : Text) : Type 0 where
    pub met : (h : Held) (waiting : Waiting) (position : ℕ) → h.skip ≡ 0
        → subcommand_or_other rules None waiting position word h ≡ plain_word rules waiting word h
    pub fault : (h : Held) → h.skip ≡ 0 → other_fault shape None word h ≡ []

  -- a word that is refused as a flag
  abbrev pub IsRefused : Text → Type 0
  IsRefused word = (h : Held) → h.skip ≡ 0 → Fails (other_fault shape None word h)

  pub data Kind (word : Text) : Type 0 where
    is_separator : word ≡ codes "--" → Kind word
    is_steps : u.steps ≡ true → word ≡ codes "--steps" → word_of u word ≡ steps_follow → Kind word
    has_steps : (value : Text) → u.steps ≡ true → word ≡ codes "--steps=" ++ value → word_of u word ≡ steps_are value →
        Kind word
    is_known : (f : Text) → is_flag u f ≡ true → word ≡ 45 ∷ 45 ∷ f → word_of u word ≡ flag_is f → Kind word
    is_unknown : word_of u word ≡ unknown → is_option word ≡ true → IsRefused word → Kind word
    is_ordinary : word_of u word ≡ ordinary → is_option word ≡ false → IsPlain word → Kind word

  no_flag : (word : Text) → bytes_eq word (codes "--") ≡ false → long_of word ≡ None → short_of word ≡ None → IsPlain word
  no_flag word dashes long short = search arith

  -- ---- a minus and no character behind it

  no_bundle : (n : ℕ) (flags : Text) (h : Held) → slice_get (chars flags) 0 ≡ None →
      bundle_met rules n flags 0 plain h ≡ (h, plain)
  unfolding bundle_met
  no_bundle zero flags h none = refl
  no_bundle (suc n) flags h none = ap (λ o. (bundle_step rules o flags 0 plain h (bundle_met rules n))) none

  no_bundle_fault : (n : ℕ) (flags : Text) (h : Held) → slice_get (chars flags) 0 ≡ None →
      flags_fault rules false n flags 0 h ≡ []
  unfolding flags_fault
  no_bundle_fault zero flags h none = refl
  no_bundle_fault (suc n) flags h none = search arith

  -- with no flag to pass over
  abbrev rested : Held → Held
  rested h = record h { skip = 0 }

  as_rested : (h : Held) → h.skip ≡ 0 → h ≡ rested h
  as_rested h none = λ i. record h { skip = none i }

  empty_flag : (word flags : Text) → bytes_eq word (codes "--") ≡ false → long_of word ≡ None
      → short_of word ≡ Some flags → slice_get (chars flags) 0 ≡ None → IsPlain word
  empty_flag word flags dashes long short none = search (arith, as_rested, no_bundle, no_bundle_fault)

  -- ---- a short flag, of which the command has none

  first_fault : (n : ℕ) (flags : Text) (first : ℕ) (h : Held) → slice_get (chars flags) 0 ≡ Some first →
      flags_fault rules false (suc n) flags 0 h ≡ refused_kinds
  unfolding flags_fault
  first_fault n flags first h found = search arith

  short_flag : (word rest : Text) (x first : ℕ) → bytes_eq word (codes "--") ≡ false → long_of word ≡ None
      → short_of word ≡ Some (x ∷ rest) → slice_get (chars (x ∷ rest)) 0 ≡ Some first → IsRefused word
  short_flag word rest x first dashes long short found h unskipped =
      search (arith, fails_as, as_rested, first_fault, one_fails)

  -- ---- a word behind two minuses

  -- an option that is refused, by its name and by whether a value is attached to it
  long_refused : (text : Text) → (u.steps && bytes_eq text (codes "steps")) ≡ false
      → (u.steps && bytes_eq (take 6 text) (codes "steps=")) ≡ false → is_flag u text ≡ false
      → (h : Held) → Fails (long_fault rules false (arg_by_long rules (before_first (λ x. x == 61) text))
      (cond (has_byte 61 text) (Some (after_first (λ x. x == 61) text)) None) h)
  long_refused text not_steps not_valued not_known h =
      named (u.steps && bytes_eq (codes "steps") f) refl
    where
      f : Text
      f = before_first (λ x. x == 61) text

      value : Text
      value = after_first (λ x. x == 61) text

      fault_by : Bool → Kinds
      fault_by b = long_fault rules false (arg_by_long rules f) (cond b (Some value) None) h

      cut : (b : Bool) → has_byte 61 text ≡ b → b ≡ true → text ≡ f ++ 61 ∷ value
      cut b has is = cut_at text (has ∙ is)

      whole : (b : Bool) → has_byte 61 text ≡ b → b ≡ false → f ≡ text
      whole b has is = cut_here text (has ∙ is)

      steps_found : (b : Bool) → has_byte 61 text ≡ b → (u.steps ≡ true) → f ≡ codes "steps" → Fails (fault_by b)
      steps_found true has takes same = absurd (true≢false (sym (ap₂ (λ (a b : Bool). a && b) takes
          (ap (λ t. bytes_eq (take 6 t) (codes "steps=")) (cut true has refl ∙ ap (λ t. t ++ 61 ∷ value) same)))
          ∙ not_valued))
      steps_found false has takes same = absurd (true≢false (sym (ap₂ (λ (a b : Bool). a && b) takes
          (ap (λ t. bytes_eq t (codes "steps")) (sym (whole false has refl) ∙ same))) ∙ not_steps))

      flag_found : (b : Bool) → has_byte 61 text ≡ b → is_flag u f ≡ true → Fails (fault_by b)
      flag_found true has known = search (arith, fails_as, one_fails)
      flag_found false has known = absurd (true≢false (sym known ∙ ap (is_flag u) (whole false has refl) ∙ not_known))

      none_found : (b : Bool) → (u.steps && bytes_eq (codes "steps") f) ≡ false → is_flag u f ≡ false →
          Fails (fault_by b)
      none_found b other unknown_flag = search (arith, fails_as, one_fails)

      flagged : (b : Bool) → (u.steps && bytes_eq (codes "steps") f) ≡ false → is_flag u f ≡ b → Fails (fault_by (has_byte 61 text))
      flagged true other known = flag_found (has_byte 61 text) refl known
      flagged false other known = none_found (has_byte 61 text) other known

      named : (b : Bool) → (u.steps && bytes_eq (codes "steps") f) ≡ b → Fails (fault_by (has_byte 61 text))
      named true is =
          let (takes, same) = and_both u.steps (bytes_eq (codes "steps") f) is in
          steps_found (has_byte 61 text) refl takes (sym ((bytes_eq-Decides (codes "steps") f).0 same))
      named false is = flagged (is_flag u f) is refl

  -- ---- which words are which

  dashes_kind : (z : ℕ) (zs : Text) → Kind (45 ∷ 45 ∷ z ∷ zs)
  unfolding chars
  dashes_kind z zs = by_steps (u.steps && bytes_eq text (codes "steps")) refl
    where
      text : Text
      text = z ∷ zs

      word : Text
      word = 45 ∷ 45 ∷ text

      has_steps_value : Bool
      has_steps_value = u.steps && bytes_eq (take 6 text) (codes "steps=")

      by_flag : (b : Bool) → (u.steps && bytes_eq text (codes "steps")) ≡ false → has_steps_value ≡ false
          → is_flag u text ≡ b → Kind word
      by_flag true not_steps not_valued known = is_known text known refl
          (ap (λ b. word_by false b has_steps_value (is_flag u text) true (drop 8 word) text) not_steps
          ∙ ap (λ b. word_by false false b (is_flag u text) true (drop 8 word) text) not_valued
          ∙ ap (λ b. word_by false false false b true (drop 8 word) text) known)
      by_flag false not_steps not_valued known = is_unknown
          (ap (λ b. word_by false b has_steps_value (is_flag u text) true (drop 8 word) text) not_steps
          ∙ ap (λ b. word_by false false b (is_flag u text) true (drop 8 word) text) not_valued
          ∙ ap (λ b. word_by false false false b true (drop 8 word) text) known)
          refl (λ h unskipped. long_refused text not_steps not_valued known h)

      by_value : (b : Bool) → (u.steps && bytes_eq text (codes "steps")) ≡ false → has_steps_value ≡ b → Kind word
      by_value true not_steps valued =
          let (takes, same) = and_both u.steps (bytes_eq (take 6 text) (codes "steps=")) valued in
          has_steps (drop 6 text) takes
          (ap (λ t. 45 ∷ 45 ∷ t) (sym (take-append-drop 6 text)
          ∙ ap (λ t. t ++ drop 6 text) ((bytes_eq-Decides (take 6 text) (codes "steps=")).0 same)))
          (ap (λ b. word_by false b has_steps_value (is_flag u text) true (drop 8 word) text) not_steps
          ∙ ap (λ b. word_by false false b (is_flag u text) true (drop 8 word) text) valued)
      by_value false not_steps valued = by_flag (is_flag u text) not_steps valued refl

      by_steps : (b : Bool) → (u.steps && bytes_eq text (codes "steps")) ≡ b → Kind word
      by_steps true is = search (arith, and_both, codes, is_steps, bytes_eq-Decides)
      by_steps false is = by_value has_steps_value is refl

  -- a word whose first byte is or isn't a minus
  abbrev long_by : Bool → Text → Option (Text × Option Text)
  long_by minus rest = option_and_then long_of_rest (option_and_then (strip_byte 45) (cond minus (Some rest) None))

  abbrev short_by : Bool → Text → Option Text
  short_by minus rest = option_and_then short_of_rest (cond minus (Some rest) None)

  ordinary_kind : (word : Text) → word_of u word ≡ cond (is_option word) unknown ordinary → is_option word ≡ false
      → IsPlain word → Kind word
  ordinary_kind word tests minus taken = search (arith, is_ordinary, ordinary)

  no_minus : (x : ℕ) (rest : Text) → (x == 45) ≡ false → Kind (x ∷ rest)
  no_minus x rest first = search (arith, codes, ordinary_kind, no_dashes, no_flag)

  minus_alone : Kind (45 ∷ [])
  unfolding chars
  minus_alone = search (arith, ordinary_kind, no_dashes, no_flag)

  one_minus : (y : ℕ) (rest : Text) → (y == 45) ≡ false → Kind (45 ∷ y ∷ rest)
  one_minus y rest second = go (slice_get (chars (y ∷ rest)) 0) refl
    where
      word : Text
      word = 45 ∷ y ∷ rest

      dashes : bytes_eq word (codes "--") ≡ false
      dashes = ap (λ b. b && bytes_eq rest []) second

      tests : word_of u word ≡ cond (is_option word) unknown ordinary
      tests = no_dashes u word dashes (ap (λ b. b && bytes_eq rest (codes "steps")) second)
          (ap (λ b. b && bytes_eq (take 6 rest) (codes "steps=")) second)
          (ap (λ b. b && true) second)

      long : long_of word ≡ None
      long = ap (λ b. option_and_then long_of_rest (cond b (Some rest) None)) second

      short : short_of word ≡ Some (y ∷ rest)
      short = ap (λ b. cond b None (Some (y ∷ rest))) second

      go : (o : Option ℕ) → slice_get (chars (y ∷ rest)) 0 ≡ o → Kind word
      go None is = ordinary_kind word tests (ap is_some is) (empty_flag word (y ∷ rest) dashes long short is)
      go (Some first) is = is_unknown (tests ∙ ap (λ b. cond b unknown ordinary) (ap is_some is)) (ap is_some is)
          (short_flag word rest y first dashes long short is)

  minus_kind : (rest : Text) → Kind (45 ∷ rest)
  minus_kind [] = minus_alone
  minus_kind (y ∷ rest) = go (y == 45) refl
    where
      two : (more : Text) → Kind (45 ∷ 45 ∷ more)
      two [] = is_separator refl
      two (z ∷ zs) = dashes_kind z zs

      go : (b : Bool) → (y == 45) ≡ b → Kind (45 ∷ y ∷ rest)
      go true is = subst (λ z. Kind (45 ∷ z ∷ rest)) (sym (eqb-true y 45 is)) (two rest)
      go false is = one_minus y rest is

  -- each word is one of the six
  pub kind_of_word : (word : Text) → Kind word
  unfolding chars
  kind_of_word [] = ordinary_kind [] (no_dashes u [] refl refl refl refl) refl (no_flag [] refl refl refl)
  kind_of_word (x ∷ rest) = go (x == 45) refl
    where
      go : (b : Bool) → (x == 45) ≡ b → Kind (x ∷ rest)
      go true is = subst (λ z. Kind (z ∷ rest)) (sym (eqb-true x 45 is)) (minus_kind rest)
      go false is = no_minus x rest is

  dashes_option : (f : Text) → is_option (45 ∷ 45 ∷ f) ≡ true
  unfolding chars
  dashes_option [] = refl
  dashes_option (x ∷ xs) = refl

  -- an option may not stand for the value of another one
  pub option_or_ordinary : (word : Text) → (is_option word ≡ true) ⊎ (is_option word ≡ false)
      × (word_of u word ≡ ordinary) × IsPlain word
  unfolding chars
  option_or_ordinary word = search (arith, kind_of_word, is_steps, has_steps, is_known, dashes_option, is_ordinary)
