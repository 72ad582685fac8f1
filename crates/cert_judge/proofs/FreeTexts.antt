-- Comments that are no proof, by the first bytes of their first line.
use Rattle.std.proofs.Common.{◌≡◌, ◌≢◌, ℕ, ◌<◌, ◌||◌, ◌⊎◌, Bool, true, false, cond, List, [], ◌∷◌, ◌++◌, length, refl, sym, ◌∙◌, ap, subst, arith, inl, inr, append_assoc, append-nil, length-append}
use Rattle.std.specs.Str.{bytes_eq}
use Rattle.std.proofs.lemmas.Bool.{cases_eq, false≢true, not-true}
use Rattle.std.proofs.lemmas.List.Elements.{All-append, All-nil, All-push}
use Rattle.std.proofs.lemmas.Slice.Eq.{bytes_eq-Decides}
use Rattle.dq_text.specs.Bytes.{kind_of}
use Rattle.dq_text.specs.Line.{extend_token, line_tokens}
use Rattle.dq_text.specs.Token.{goes_on, is_separator}
use Rattle.cert_text.specs.Header.{proof_word}
use Rattle.cert_text.specs.declared.versions.Version.TheVariants.{One, Two}
use Rattle.cert_judge.specs.Judgement.{begins_proof, begins_with, first_line}
use Rattle.cert_judge.specs.Phases.{HasNoEnd}
use Rattle.cert_judge.proofs.CommentLines.{fed_line_first, one_line_first}
use Rattle.list_laws.proofs.Truths.{both_false, false_unless}

-- The first word of bytes, as others come behind them: where it isn't the last one it is as it was.
pub record FirstWord (bytes more token : List ℕ) (tokens : List (List ℕ)) : Type 0 where
  pub added : List ℕ
  pub others : List (List ℕ)
  pub is : line_tokens (bytes ++ more) ≡ (token ++ added) ∷ others
  pub whole : tokens ≢ [] → added ≡ []

abbrev put : ℕ → List ℕ → List (List ℕ)
put byte bytes = cond (goes_on bytes) (extend_token byte (line_tokens bytes)) ((byte ∷ []) ∷ line_tokens bytes)

abbrev SomeWord : List ℕ → Type 0
SomeWord bytes = (token : List ℕ) × (tokens : List (List ℕ)) × (line_tokens bytes ≡ token ∷ tokens)

some_behind : (byte : ℕ) (bytes : List ℕ) (g : Bool) → is_separator (kind_of byte) ≡ false → goes_on bytes ≡ g →
    (goes_on bytes ≡ true → SomeWord bytes) → SomeWord (byte ∷ bytes)
some_behind byte bytes true visible goes some =
    let first = some goes in (
      byte ∷ first.0,
      first.1,
      ap (λ s. cond s (line_tokens bytes) (put byte bytes)) visible
          ∙ ap (λ g. cond g (extend_token byte (line_tokens bytes)) ((byte ∷ []) ∷ line_tokens bytes)) goes
          ∙ ap (extend_token byte) first.2,
    )
some_behind byte bytes false visible ends some = (
  byte ∷ [],
  line_tokens bytes,
  ap (λ s. cond s (line_tokens bytes) (put byte bytes)) visible
      ∙ ap (λ g. cond g (extend_token byte (line_tokens bytes)) ((byte ∷ []) ∷ line_tokens bytes)) ends,
)

some_word : (bytes : List ℕ) → goes_on bytes ≡ true → SomeWord bytes
some_word [] goes = cc
some_word (byte ∷ bytes) goes =
    some_behind byte bytes (goes_on bytes) (not-true (is_separator (kind_of byte)) goes) refl (some_word bytes)

goes_more : (bytes more : List ℕ) → goes_on bytes ≡ true → goes_on (bytes ++ more) ≡ true
goes_more [] more goes = cc
goes_more (byte ∷ bytes) more goes = goes

abbrev Grows : List ℕ → List ℕ → Type 0
Grows bytes more = (token : List ℕ) (tokens : List (List ℕ)) → line_tokens bytes ≡ token ∷ tokens →
    FirstWord bytes more token tokens

module _ (byte : ℕ) (more : List ℕ) (visible : is_separator (kind_of byte) ≡ false) where
  put_is : (bytes : List ℕ) → line_tokens (byte ∷ bytes) ≡ put byte bytes
  put_is bytes = ap (λ s. cond s (line_tokens bytes) (put byte bytes)) visible

  alone : (bytes : List ℕ) → goes_on bytes ≡ false → put byte bytes ≡ (byte ∷ []) ∷ line_tokens bytes
  alone bytes ends =
      ap (λ g. cond g (extend_token byte (line_tokens bytes)) ((byte ∷ []) ∷ line_tokens bytes)) ends

  in_front : (bytes : List ℕ) → goes_on bytes ≡ true → put byte bytes ≡ extend_token byte (line_tokens bytes)
  in_front bytes goes =
      ap (λ g. cond g (extend_token byte (line_tokens bytes)) ((byte ∷ []) ∷ line_tokens bytes)) goes

  longer : (bytes : List ℕ) → Grows bytes more → goes_on bytes ≡ true → Grows (byte ∷ bytes) more
  longer bytes grows goes token tokens is =
      let first = some_word bytes goes in
      let t = first.0 in
      let ts = first.1 in
      let word = grows t ts first.2 in
      let old : (byte ∷ t) ∷ ts ≡ token ∷ tokens =
      ap (extend_token byte) (sym first.2) ∙ sym (in_front bytes goes) ∙ sym (put_is bytes) ∙ is in
      let same_token : byte ∷ t ≡ token = cc in
      let same_tokens : ts ≡ tokens = cc in
      subst (λ u. FirstWord (byte ∷ bytes) more u tokens) same_token
      (subst (λ us. FirstWord (byte ∷ bytes) more (byte ∷ t) us) same_tokens (record {
        added = word.added;
        others = word.others;
        is = put_is (bytes ++ more) ∙ in_front (bytes ++ more) (goes_more bytes more goes)
            ∙ ap (extend_token byte) word.is;
        whole = word.whole;
      }))

  -- the word ends here
  ended : (bytes : List ℕ) (token : List ℕ) (tokens : List (List ℕ)) → goes_on bytes ≡ false →
      goes_on (bytes ++ more) ≡ false → line_tokens (byte ∷ bytes) ≡ token ∷ tokens →
      FirstWord (byte ∷ bytes) more token tokens
  ended bytes token tokens ends still is =
      let old : (byte ∷ []) ∷ line_tokens bytes ≡ token ∷ tokens = sym (alone bytes ends) ∙ sym (put_is bytes) ∙ is in
      let same : byte ∷ [] ≡ token = cc in
      subst (λ u. FirstWord (byte ∷ bytes) more u tokens) same (record {
        added = [];
        others = line_tokens (bytes ++ more);
        is = put_is (bytes ++ more) ∙ alone (bytes ++ more) still;
        whole = λ _. refl;
      })

  -- the word is all that there is, and goes on
  goes_behind : (token : List ℕ) (tokens : List (List ℕ)) → goes_on more ≡ true →
      line_tokens (byte ∷ []) ≡ token ∷ tokens → FirstWord (byte ∷ []) more token tokens
  goes_behind token tokens goes is = search (arith, some_word, put_is)

  last_byte : (g : Bool) → goes_on more ≡ g → Grows (byte ∷ []) more
  last_byte true goes token tokens is = goes_behind token tokens goes is
  last_byte false ends token tokens is = ended [] token tokens refl ends is

  visible_byte : (bytes : List ℕ) (g : Bool) → goes_on bytes ≡ g → Grows bytes more → Grows (byte ∷ bytes) more
  visible_byte bytes true goes grows token tokens is = longer bytes grows goes token tokens is
  visible_byte [] false ends grows token tokens is = last_byte (goes_on more) refl token tokens is
  visible_byte (next ∷ bytes) false ends grows token tokens is = ended (next ∷ bytes) token tokens ends ends is

any_byte : (byte : ℕ) (bytes more : List ℕ) (s : Bool) → is_separator (kind_of byte) ≡ s → Grows bytes more →
    Grows (byte ∷ bytes) more
any_byte byte bytes more true skipped grows token tokens is =
    let word = grows token tokens (sym (ap (λ s. cond s (line_tokens bytes) (put byte bytes)) skipped) ∙ is) in record {
      added = word.added;
      others = word.others;
      is = ap (λ s. cond s (line_tokens (bytes ++ more)) (put byte (bytes ++ more))) skipped ∙ word.is;
      whole = word.whole;
    }
any_byte byte bytes more false visible grows token tokens is = search (arith, visible_byte)

word_of : (bytes more : List ℕ) → Grows bytes more
word_of [] more token tokens is = cc
word_of (byte ∷ bytes) more token tokens is =
    any_byte byte bytes more (is_separator (kind_of byte)) refl (word_of bytes more) token tokens is

-- the first line of bytes that have no LF, as others come behind them
abbrev Cut : List ℕ → Type 0
Cut more = (line : List ℕ) × HasNoEnd line × (((behind : List ℕ) × (more ≡ line ++ (10 ∷ behind))) ⊎ (more ≡ line))

abbrev NoFeed : ℕ → Type 0
NoFeed byte = byte ≢ 10

cut_behind : (byte : ℕ) (more : List ℕ) → byte ≢ 10 → Cut more → Cut (byte ∷ more)
cut_behind byte more other (line, free, inl (behind, is)) = (
  byte ∷ line,
  All-append NoFeed (byte ∷ []) line (All-push NoFeed [] byte (All-nil NoFeed) other) free,
  inl (behind, ap (λ b. byte ∷ b) is),
)
cut_behind byte more other (line, free, inr is) = (
  byte ∷ line,
  All-append NoFeed (byte ∷ []) line (All-push NoFeed [] byte (All-nil NoFeed) other) free,
  inr (ap (λ b. byte ∷ b) is),
)

cut : (more : List ℕ) → Cut more
cut [] = ([], All-nil NoFeed, inr refl)
cut (byte ∷ more) =
    elim (cases_eq byte 10) [
      | inl same ↦ ([], All-nil NoFeed, inl (more, ap (λ b. b ∷ more) same))
      | inr other ↦ cut_behind byte more other (cut more)
    ]

first_line_of : (bytes more : List ℕ) → HasNoEnd bytes → (c : Cut more) → first_line (bytes ++ more) ≡ bytes ++ c.0
first_line_of bytes more free (line, none, inl (behind, is)) =
    ap (λ b. first_line (bytes ++ b)) is ∙ ap first_line (sym (append_assoc bytes line (10 ∷ behind)))
    ∙ fed_line_first (bytes ++ line) behind (All-append NoFeed bytes line free none)
first_line_of bytes more free (line, none, inr is) =
    ap (λ b. first_line (bytes ++ b)) is ∙ one_line_first (bytes ++ line) (All-append NoFeed bytes line free none)

-- a word that is no proof's, whatever is added to it
pub record IsNoProof (token : List ℕ) (tokens : List (List ℕ)) : Type 0 where
  pub one : (added : List ℕ) → (tokens ≢ [] → added ≡ []) → bytes_eq (token ++ added) (proof_word One) ≡ false
  pub two : (added : List ℕ) → (tokens ≢ [] → added ≡ []) → bytes_eq (token ++ added) (proof_word Two) ≡ false

pub no_proof : (bytes : List ℕ) (token : List ℕ) (tokens : List (List ℕ)) → HasNoEnd bytes →
    line_tokens bytes ≡ token ∷ tokens → IsNoProof token tokens → (more : List ℕ) → begins_proof (bytes ++ more) ≡ false
no_proof bytes token tokens free is not_one more =
    let c = cut more in
    let word = word_of bytes c.0 token tokens is in
    ap (λ line. begins_with (proof_word One) (line_tokens line) || begins_with (proof_word Two) (line_tokens line))
    (first_line_of bytes more free c)
    ∙ ap (λ ts. begins_with (proof_word One) ts || begins_with (proof_word Two) ts) word.is
    ∙ both_false (bytes_eq (token ++ word.added) (proof_word One)) (bytes_eq (token ++ word.added) (proof_word Two))
    (not_one.one word.added word.whole) (not_one.two word.added word.whole)

not_longer : (token added word : List ℕ) → length word < length token → bytes_eq (token ++ added) word ≡ false
not_longer token added word less = search (arith, false_unless, length-append, bytes_eq-Decides)

-- it is longer than those words
pub long_word : (token : List ℕ) (tokens : List (List ℕ)) → 4 < length token → IsNoProof token tokens
long_word token tokens long = record {
  one = λ added whole. not_longer token added (proof_word One) (omega (arith, long));
  two = λ added whole. not_longer token added (proof_word Two) (omega (arith, long));
}

other_word : (token added word : List ℕ) → added ≡ [] → bytes_eq token word ≡ false →
    bytes_eq (token ++ added) word ≡ false
other_word token added word none is = search (arith, false_unless, bytes_eq-Decides, append-nil, false≢true)

-- it is another one, and others follow
pub ended_word : (token next : List ℕ) (tokens : List (List ℕ)) → bytes_eq token (proof_word One) ≡ false →
    bytes_eq token (proof_word Two) ≡ false → IsNoProof token (next ∷ tokens)
ended_word token next tokens one two = record {
  one = λ added whole. other_word token added (proof_word One) (whole (λ none. cc)) one;
  two = λ added whole. other_word token added (proof_word Two) (whole (λ none. cc)) two;
}
