-- The last line of a text that comes in pieces.
use Rattle.std.proofs.Common.{◌≡◌, ◌==◌, ◌||◌, ℕ, ◌+◌, Bool, cond, List, [], ◌∷◌, ◌++◌, true, false, refl, sym, ◌∙◌, ap, arith, inl, inr, if◌then◌else◌}
use Rattle.std.specs.List.{All}
use Rattle.std.proofs.lemmas.Bool.{cases_eq, ne_eqb}
use Rattle.std.proofs.lemmas.List.Elements.{All-head, All-tail}
use Rattle.std.proofs.lemmas.List.Sums.{sum_by-cons}
use Rattle.dq_text.specs.Bytes.{kind_of}
use Rattle.dq_text.specs.LongestRuns.{IsVisible}
use Rattle.dq_text.specs.Pieces.{line_behind}
use Rattle.dq_text.specs.Token.{is_separator, line_after, line_feeds, last_line_of}
use Rattle.dq_text.specs.declared.bytes.ByteKind.{ByteKind}
use Rattle.dq_text.specs.declared.bytes.ByteKind.TheVariants.{Blank, LineFeed, LetterC, Other}

pub unless_feed : (blank letter : Bool) (line : ℕ) → line_after
    (if blank then Blank else if letter then LetterC else Other) line ≡ line
unless_feed true letter line = refl
unless_feed false true line = refl
unless_feed false false line = refl

counted : (byte line : ℕ) → line_after (kind_of byte) line ≡ line + cond (byte == 10) 1 0
counted byte line =
    elim (cases_eq byte 10) [
      | inl same ↦ ap (λ b. line_after (kind_of b) line) same ∙ ap (λ b. line + cond (b == 10) 1 0) (sym same)
      | inr other ↦
          let none = ne_eqb byte 10 other in
          let zero_more : line ≡ line + 0 = omega arith in
          ap (λ b. line_after (if byte == 32 || (byte == 9 || byte == 13) then Blank else if b then LineFeed else if
          byte == 99 then LetterC else Other) line) none
          ∙ unless_feed (byte == 32 || (byte == 9 || byte == 13)) (byte == 99) line
          ∙ zero_more
          ∙ ap (λ b. line + cond b 1 0) (sym none)
    ]

by_feeds : (bytes : List ℕ) (line : ℕ) → line_behind line bytes ≡ line + line_feeds bytes
by_feeds [] line = omega arith
by_feeds (byte ∷ bytes) line =
    let step = counted byte line in
    let front = sum_by-cons (λ b. cond (b == 10) 1 0) byte bytes in
    let behind = by_feeds bytes (line_after (kind_of byte) line) in
    let sum : line + cond (byte == 10) 1 0 + line_feeds bytes ≡ line + (cond (byte == 10) 1 0 + line_feeds bytes) =
    omega arith in
    behind ∙ ap (λ n. n + line_feeds bytes) step ∙ sum ∙ ap (λ n. line + n) (sym front)

pub last_line_is : (text : List ℕ) → line_behind 1 text ≡ last_line_of text
last_line_is text = let h = by_feeds text 1 in omega (arith, h)

visible_line : (kind : ByteKind) (line : ℕ) → is_separator kind ≡ false → line_after kind line ≡ line
visible_line Blank line h = cc
visible_line LineFeed line h = cc
visible_line LetterC line h = refl
visible_line Other line h = refl

-- a token holds no LF
pub line_behind_token : (text rest : List ℕ) (line : ℕ) → All IsVisible text →
    line_behind line (text ++ rest) ≡ line_behind line rest
line_behind_token [] rest line visible = refl
line_behind_token (byte ∷ text) rest line visible =
    ap (λ l. line_behind l (text ++ rest)) (visible_line (kind_of byte) line (All-head IsVisible byte text visible))
    ∙ line_behind_token text rest line (All-tail IsVisible byte text visible)
