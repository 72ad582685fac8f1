-- The tokens of a line are its longest runs.
use Rattle.std.proofs.Common.{◌≡◌, ◌≢◌, ℕ, Bool, true, false, not, cond, List, [], ◌∷◌, ◌++◌, refl, sym, ◌∙◌, ap}
use Rattle.std.specs.List.{All}
use Rattle.std.proofs.lemmas.Bool.{true≢false}
use Rattle.std.proofs.lemmas.List.Elements.{All-nil, All-cons, All-head}
use Rattle.dq_text.specs.Bytes.{kind_of}
use Rattle.dq_text.specs.Token.{is_separator, goes_on}
use Rattle.dq_text.specs.Line.{extend_token, line_tokens}
use Rattle.dq_text.specs.LongestRuns.{IsSeparator, IsVisible, AreLongestRuns}

some_byte : (byte : ℕ) (bytes : List ℕ) → byte ∷ bytes ≢ []
some_byte byte bytes = λ none. cc

separated : (byte : ℕ) (bytes : List ℕ) (tokens : List (List ℕ)) → IsSeparator byte → AreLongestRuns bytes tokens →
    AreLongestRuns (byte ∷ bytes) tokens
separated byte bytes [] is are = All-cons IsSeparator byte bytes is are
separated byte bytes (token ∷ tokens) is are =
    let first = are.1 in (
      are.0,
      record {
        before = byte ∷ first.before;
        parts = ap (λ xs. byte ∷ xs) first.parts;
        separators = All-cons IsSeparator byte first.before is first.separators;
        some = first.some;
        visible = first.visible;
        longest = first.longest;
      },
      are.2,
    )

-- where bytes go on, no separator stands in front
none_before : (before others : List ℕ) → goes_on (before ++ others) ≡ true → All IsSeparator before → before ≡ []
none_before [] others goes are = refl
none_before (byte ∷ before) others goes are =
    absurd (true≢false (sym goes ∙ ap not (All-head IsSeparator byte before are)))

not_all : (bytes : List ℕ) → goes_on bytes ≡ true → All IsSeparator bytes → ⊥
not_all [] goes are = true≢false (sym goes)
not_all (byte ∷ bytes) goes are = true≢false (sym goes ∙ ap not (All-head IsSeparator byte bytes are))

extended : (byte : ℕ) (bytes : List ℕ) (tokens : List (List ℕ)) → IsVisible byte → goes_on bytes ≡ true →
    AreLongestRuns bytes tokens →
    AreLongestRuns (byte ∷ bytes) (extend_token byte tokens)
extended byte bytes [] is goes are = absurd (not_all bytes goes are)
extended byte bytes (token ∷ tokens) is goes are =
    let first = are.1 in
    let others = are.0 in
    let none = none_before first.before (token ++ others) (sym (ap goes_on first.parts) ∙ goes) first.separators in (
      others,
      record {
        before = [];
        parts = ap (λ xs. byte ∷ xs) (first.parts ∙ ap (λ xs. xs ++ (token ++ others)) none);
        separators = All-nil IsSeparator;
        some = some_byte byte token;
        visible = All-cons IsVisible byte token is first.visible;
        longest = first.longest;
      },
      are.2,
    )

begun : (byte : ℕ) (bytes : List ℕ) (tokens : List (List ℕ)) → IsVisible byte → goes_on bytes ≡ false →
    AreLongestRuns bytes tokens →
    AreLongestRuns (byte ∷ bytes) ((byte ∷ []) ∷ tokens)
begun byte bytes tokens is ends are = (
  bytes,
  record {
    before = [];
    parts = refl;
    separators = All-nil IsSeparator;
    some = some_byte byte [];
    visible = All-cons IsVisible byte [] is (All-nil IsVisible);
    longest = ends;
  },
  are,
)

visible_put : (byte : ℕ) (bytes : List ℕ) (goes : Bool) (tokens : List (List ℕ)) → IsVisible byte →
    goes_on bytes ≡ goes → AreLongestRuns bytes tokens →
    AreLongestRuns (byte ∷ bytes) (cond goes (extend_token byte tokens) ((byte ∷ []) ∷ tokens))
visible_put byte bytes true tokens is goes are = extended byte bytes tokens is goes are
visible_put byte bytes false tokens is ends are = begun byte bytes tokens is ends are

put : (byte : ℕ) (bytes : List ℕ) (separator : Bool) (tokens : List (List ℕ)) →
    is_separator (kind_of byte) ≡ separator → AreLongestRuns bytes tokens →
    AreLongestRuns (byte ∷ bytes) (cond separator tokens (cond (goes_on bytes) (extend_token byte tokens)
    ((byte ∷ []) ∷ tokens)))
put byte bytes true tokens is are = separated byte bytes tokens is are
put byte bytes false tokens is are = visible_put byte bytes (goes_on bytes) tokens is refl are

pub tokens_are_longest : (bytes : List ℕ) → AreLongestRuns bytes (line_tokens bytes)
tokens_are_longest [] = All-nil IsSeparator
tokens_are_longest (byte ∷ bytes) = put byte bytes (is_separator (kind_of byte)) (line_tokens bytes) refl
    (tokens_are_longest bytes)
