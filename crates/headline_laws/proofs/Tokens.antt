-- The page's lines, words and tokens are those of the reader.
use Rattle.std.proofs.Common.{◌≡◌, ℕ, ◌+◌, ◌==◌, Bool, true, false, not, ◌||◌, cond, List, [], ◌∷◌, ◌++◌, map, refl, sym, ◌∙◌, ap, arith}
use Rattle.std.specs.List.{AllByRecursion, flat_map}
use Rattle.dq_text.specs.Bytes.{kind_of}
use Rattle.dq_text.specs.Line.{TextLine, lines_from, extend_line, line_tokens, extend_token}
use Rattle.dq_text.specs.NumberedTokens.{begins_comment, numbered, numbered_tokens}
use Rattle.dq_text.specs.NumberedTokens.{is_comment as is_comment_line}
use Rattle.dq_text.specs.Token.{TextToken, is_separator, goes_on}
use Rattle.dq_text.specs.declared.bytes.ByteKind.TheVariants.{Blank, LineFeed, LetterC, Other}
use Rattle.headline.specs.Headline.{lines, words, tokens, put_front, is_space, ends_word, is_comment}

same_test : (a t r n c : Bool) → (a || (t || (r || n)))
    ≡ is_separator (cond (a || (t || r)) Blank (cond n LineFeed (cond c LetterC Other)))
same_test true t r n c = refl
same_test false true r n c = refl
same_test false false true n c = refl
same_test false false false true c = refl
same_test false false false false true = refl
same_test false false false false false = refl

pub same_space : (byte : ℕ) → is_space byte ≡ is_separator (kind_of byte)
same_space byte = same_test (byte == 32) (byte == 9) (byte == 13) (byte == 10) (byte == 99)

ends_where : (bytes : List ℕ) → ends_word bytes ≡ not (goes_on bytes)
ends_where [] = refl
ends_where (byte ∷ bytes) = search (arith, same_space)

-- some words
abbrev IsSome : List (List ℕ) → Type 0
IsSome ws = (w : List ℕ) × ((others : List (List ℕ)) × (ws ≡ w ∷ others))

some_token : (bytes : List ℕ) → goes_on bytes ≡ true → IsSome (line_tokens bytes)
some_token [] h = cc
some_token (byte ∷ bytes) h = by (is_separator (kind_of byte)) (goes_on bytes) (some_token bytes) h where
  by : (s g : Bool) → (g ≡ true → IsSome (line_tokens bytes)) → not s ≡ true →
      IsSome (cond s (line_tokens bytes) (cond g (extend_token byte (line_tokens bytes)) ((byte ∷ []) ∷ line_tokens bytes)))
  by true g some h = cc
  by false false some h = (byte ∷ [], (line_tokens bytes, refl))
  by false true some h =
      let one = some refl in
      (byte ∷ one.0, (one.1.0, ap (extend_token byte) one.1.1))

pub words_are : (bytes : List ℕ) → words bytes ≡ line_tokens bytes
words_are [] = refl
words_are (byte ∷ bytes) = search (arith, same_space, ends_where, (words_are bytes), some_token)

abbrev pub texts : List TextLine → List (List ℕ)
texts ls = map (λ l. l.text) ls

pub lines_are : (number : ℕ) (text : List ℕ) → lines text ≡ texts (lines_from number text)
lines_are number [] = refl
lines_are number (byte ∷ bytes) = step (lines_are number bytes) (lines_are (number + 1) bytes) (byte == 10) where
  front : (ls : List TextLine) → put_front byte (texts ls) ≡ texts (extend_line byte number ls)
  front [] = refl
  front (l ∷ ls) = refl

  step : lines bytes ≡ texts (lines_from number bytes) → lines bytes ≡ texts (lines_from (number + 1) bytes) →
      (feed : Bool) → cond feed ([] ∷ lines bytes) (put_front byte (lines bytes))
      ≡ texts (cond feed (record { text = []; number = number; behind = bytes } ∷ lines_from (number + 1) bytes)
      (extend_line byte number (lines_from number bytes)))
  step here behind true = ap (λ ls. [] ∷ ls) behind
  step here behind false = ap (put_front byte) here ∙ front (lines_from number bytes)

-- no line has a line feed
abbrev HasNone : List ℕ → Type 0
HasNone line = AllByRecursion (λ byte. (byte == 10) ≡ false) line

abbrev AreLines : List TextLine → Type 0
AreLines ls = AllByRecursion (λ (l : TextLine). HasNone l.text) ls

lines_have_none : (number : ℕ) (text : List ℕ) → AreLines (lines_from number text)
lines_have_none number [] = tt
lines_have_none number (byte ∷ bytes) =
    search (arith, (lines_have_none number bytes), (lines_have_none (number + 1) bytes))

-- a comment is one by its first word
first_byte : (e : Bool) (byte : ℕ) (ws : List (List ℕ)) →
    is_comment (cond e ((byte ∷ []) ∷ ws) (put_front byte ws)) ≡ (byte == 99)
first_byte true byte ws = refl
first_byte false byte [] = refl
first_byte false byte (w ∷ ws) = refl

same_comment : (a t r n c rest : Bool) → n ≡ false →
    cond (a || (t || (r || n))) rest c
    ≡ begins_comment (cond (a || (t || r)) Blank (cond n LineFeed (cond c LetterC Other))) rest
same_comment a t r true c rest other = cc
same_comment true t r false c rest other = refl
same_comment false true r false c rest other = refl
same_comment false false true false c rest other = refl
same_comment false false false false true rest other = refl
same_comment false false false false false rest other = refl

comments_are : (line : List ℕ) → HasNone line → is_comment (words line) ≡ is_comment_line line
comments_are [] none = refl
comments_are (byte ∷ bytes) none = search (arith, (comments_are bytes none.1), same_comment)

-- the tokens of a line, and none of a comment
abbrev page_tokens : List ℕ → List (List ℕ)
page_tokens line = cond (is_comment (words line)) [] (words line)

abbrev text_in : ℕ × List ℕ → List ℕ
text_in p = p.1

second : (number : ℕ) (ws : List (List ℕ)) → map text_in (map (λ t. (number, t)) ws) ≡ ws
second number [] = refl
second number (w ∷ ws) = ap (λ others. w ∷ others) (second number ws)

line_is : (l : TextLine) → HasNone l.text → map text_in (numbered_tokens l) ≡ page_tokens l.text
line_is l none =
    chosen (is_comment_line l.text)
    ∙ (ap (λ c. cond c [] (line_tokens l.text)) (sym (comments_are l.text none))
    ∙ ap (λ ws. cond (is_comment (words l.text)) [] ws) (sym (words_are l.text)))
  where
    chosen : (c : Bool) → map text_in (cond c [] (map (λ t. (l.number, t)) (line_tokens l.text)))
        ≡ cond c [] (line_tokens l.text)
    chosen true = refl
    chosen false = second l.number (line_tokens l.text)

map_append : (xs ys : List (ℕ × List ℕ)) → map text_in (xs ++ ys) ≡ map text_in xs ++ map text_in ys
map_append [] ys = refl
map_append (x ∷ xs) ys = ap (λ others. text_in x ∷ others) (map_append xs ys)

flat : (ls : List TextLine) → AreLines ls → map text_in (flat_map numbered_tokens ls) ≡ flat_map page_tokens (texts ls)
flat [] none = refl
flat (l ∷ ls) none =
    map_append (numbered_tokens l) (flat_map numbered_tokens ls)
    ∙ (ap (λ ws. ws ++ map text_in (flat_map numbered_tokens ls)) (line_is l none.0)
    ∙ ap (λ ws. page_tokens l.text ++ ws) (flat ls none.1))

in_numbered : (ts : List TextToken) → map (λ t. t.text) ts ≡ map text_in (map numbered ts)
in_numbered [] = refl
in_numbered (t ∷ ts) = ap (λ others. t.text ∷ others) (in_numbered ts)

pub tokens_are : (text : List ℕ) (ts : List TextToken) → map numbered ts ≡ flat_map numbered_tokens (lines_from 1 text) →
    map (λ t. t.text) ts ≡ tokens text
tokens_are text ts is =
    in_numbered ts
    ∙ (ap (map text_in) is
    ∙ (flat (lines_from 1 text) (lines_have_none 1 text)
    ∙ ap (flat_map page_tokens) (sym (lines_are 1 text))))
