-- A token is cut off at the first separator.
use Rattle.std.proofs.Common.{◌≡◌, ℕ, suc, ◌+◌, ◌≤◌, ◌==◌, Bool, true, false, not, cond, List, [], ◌∷◌, take, drop, length, refl, sym, ◌∙◌, ap, arith, inl, inr, ◌≢◌}
use Rattle.std.proofs.lemmas.Bool.{cases_Bool, cases_eq, not-true, ne_eqb, true≢false}
use Rattle.std.specs.List.{position, position_or_len}
use Rattle.std.specs.Option.{unwrap_or}
use Rattle.std.proofs.lemmas.List.Sums.{sum_by-cons}
use Rattle.std.proofs.Common.{nat_lt}
use Rattle.list_laws.proofs.Sequences.{position_chosen}
use Rattle.dq_text.specs.Bytes.{kind_of}
use Rattle.dq_text.specs.Token.{TextToken, is_separator, is_in_token, place_after, line_after, goes_on, extend, put_byte, tokens_from, line_feeds}
use Rattle.dq_text.specs.Line.{extend_token, line_tokens}
use Rattle.dq_text.specs.Cursor.{begins_token}
use Rattle.dq_text.specs.declared.bytes.ByteKind.{ByteKind}
use Rattle.dq_text.specs.declared.bytes.ByteKind.TheVariants.{Blank, LineFeed, LetterC, Other}
use Rattle.dq_text.specs.declared.cursors.LinePlace.{LinePlace}
use Rattle.dq_text.specs.declared.cursors.LinePlace.TheVariants.{LineStart, InLine, InComment}

-- how many bytes stand before the first separator
abbrev pub run : List ℕ → ℕ
run bytes = position_or_len (λ byte. is_separator (kind_of byte)) bytes

pub run-none : (bytes : List ℕ) → goes_on bytes ≡ false → run bytes ≡ 0
run-none [] h = refl
run-none (byte ∷ bytes) h = ap (λ b. cond b (1 + run bytes) 0) h

pub run-le : (bytes : List ℕ) → run bytes ≤ length bytes
run-le [] = omega arith
run-le (byte ∷ bytes) =
    elim (cases_Bool (not (is_separator (kind_of byte)))) [
      | inl more ↦ rw more (omega (arith, run-le bytes))
      | inr none ↦ rw none (omega arith)
    ]

visible_step : (kind : ByteKind) (byte line at : ℕ) (bytes : List ℕ) → is_separator kind ≡ false →
    cond (is_in_token kind InLine)
    (put_byte byte line at bytes (tokens_from (place_after kind InLine) (line_after kind line) (at + 1) bytes))
    (tokens_from (place_after kind InLine) (line_after kind line) (at + 1) bytes)
    ≡ put_byte byte line at bytes (tokens_from InLine line (at + 1) bytes)
visible_step Blank byte line at bytes h = cc
visible_step LineFeed byte line at bytes h = cc
visible_step LetterC byte line at bytes h = refl
visible_step Other byte line at bytes h = refl

abbrev cut_at : ℕ → ℕ → ℕ → List ℕ → List TextToken
cut_at n line at bytes = record { text = take n bytes; line = line; at = at } ∷ tokens_from InLine line (at + n)
    (drop n bytes)

put_run : (byte line at : ℕ) (bytes : List ℕ) →
    (goes_on bytes ≡ true → tokens_from InLine line (at + 1) bytes ≡ cut_at (run bytes) line (at + 1) bytes) →
    put_byte byte line at bytes (tokens_from InLine line (at + 1) bytes) ≡ cut_at (suc (run bytes)) line at
    (byte ∷ bytes)
put_run byte line at bytes more =
    let n = run bytes in
    let tokens = tokens_from InLine line (at + 1) bytes in
    let one = record { text = byte ∷ []; line = line; at = at } ∷ tokens in
    let places : at + 1 + n ≡ at + suc n = omega arith in
    elim (cases_Bool (goes_on bytes)) [
      | inl goes ↦
          ap (λ b. cond b (extend byte line at tokens) one) goes
          ∙ ap (extend byte line at) (more goes)
          ∙ ap (λ p. record { text = byte ∷ take n bytes; line = line; at = at } ∷ tokens_from InLine line p
          (drop n bytes)) places
      | inr ends ↦
          let none = run-none bytes ends in
          let here : at + 1 ≡ at + suc 0 = omega arith in
          ap (λ b. cond b (extend byte line at tokens) one) ends
          ∙ ap (λ p. record { text = byte ∷ []; line = line; at = at } ∷ tokens_from InLine line p bytes) here
          ∙ ap (λ k. cut_at (suc k) line at (byte ∷ bytes)) (sym none)
    ]

pub run-more : (byte : ℕ) (bytes : List ℕ) → is_separator (kind_of byte) ≡ false → run (byte ∷ bytes) ≡ suc (run bytes)
run-more byte bytes h = let next : 1 + run bytes ≡ suc (run bytes) = omega arith in
    ap (λ b. cond (not b) (1 + run bytes) 0) h ∙ next

-- in a line, the bytes up to the first separator are the first token
cut_in_line : (bytes : List ℕ) (line at : ℕ) → goes_on bytes ≡ true →
    tokens_from InLine line at bytes ≡ cut_at (run bytes) line at bytes
cut_in_line [] line at h = cc
cut_in_line (byte ∷ bytes) line at h =
    let visible = not-true (is_separator (kind_of byte)) h in
    visible_step (kind_of byte) byte line at bytes visible
    ∙ put_run byte line at bytes (λ goes. cut_in_line bytes line (at + 1) goes)
    ∙ ap (λ k. cut_at k line at (byte ∷ bytes)) (sym (run-more byte bytes visible))

pub token_byte_visible : (kind : ByteKind) (place : LinePlace) → is_in_token kind place ≡ true →
    is_separator kind ≡ false
token_byte_visible Blank place h = cc
token_byte_visible LineFeed place h = cc
token_byte_visible LetterC place h = refl
token_byte_visible Other place h = refl

first_as_in_line : (kind : ByteKind) (place : LinePlace) (byte line at : ℕ) (bytes : List ℕ) →
    is_in_token kind place ≡ true →
    cond (is_in_token kind place)
    (put_byte byte line at bytes (tokens_from (place_after kind place) (line_after kind line) (at + 1) bytes))
    (tokens_from (place_after kind place) (line_after kind line) (at + 1) bytes)
    ≡ put_byte byte line at bytes (tokens_from InLine line (at + 1) bytes)
first_as_in_line Blank place byte line at bytes h = cc
first_as_in_line LineFeed place byte line at bytes h = cc
first_as_in_line LetterC LineStart byte line at bytes h = cc
first_as_in_line LetterC InLine byte line at bytes h = refl
first_as_in_line LetterC InComment byte line at bytes h = cc
first_as_in_line Other LineStart byte line at bytes h = refl
first_as_in_line Other InLine byte line at bytes h = refl
first_as_in_line Other InComment byte line at bytes h = cc

-- where a token begins, the bytes up to the first separator are that token
pub cut_token : (place : LinePlace) (line at : ℕ) (bytes : List ℕ) → begins_token place bytes → bytes ≢ [] →
    tokens_from place line at bytes ≡ cut_at (run bytes) line at bytes
cut_token place line at [] begins some = absurd (some refl)
cut_token place line at (byte ∷ bytes) begins some =
    let visible = token_byte_visible (kind_of byte) place begins in
    first_as_in_line (kind_of byte) place byte line at bytes begins
    ∙ put_run byte line at bytes (λ goes. cut_in_line bytes line (at + 1) goes)
    ∙ ap (λ k. cut_at k line at (byte ∷ bytes)) (sym (run-more byte bytes visible))

visible_no_feed : (byte : ℕ) → is_separator (kind_of byte) ≡ false → (byte == 10) ≡ false
visible_no_feed byte h =
    elim (cases_eq byte 10) [
      | inl same ↦ absurd (true≢false (ap (λ b. is_separator (kind_of b)) (sym same) ∙ h))
      | inr other ↦ ne_eqb byte 10 other
    ]

none_more : (n : ℕ) → 0 + n ≡ n
none_more n = omega arith

-- a token holds no LF
pub line_feeds-cut : (bytes : List ℕ) → line_feeds (drop (run bytes) bytes) ≡ line_feeds bytes
line_feeds-cut [] = refl
line_feeds-cut (byte ∷ bytes) =
    elim (cases_Bool (is_separator (kind_of byte))) [
      | inl separator ↦ ap (λ k. line_feeds (drop k (byte ∷ bytes))) (run-none (byte ∷ bytes) (ap not separator))
      | inr visible ↦
          ap (λ k. line_feeds (drop k (byte ∷ bytes))) (run-more byte bytes visible)
          ∙ line_feeds-cut bytes
          ∙ sym (ap (λ b. cond b 1 0 + line_feeds bytes) (visible_no_feed byte visible) ∙ none_more (line_feeds bytes))
          ∙ sym (sum_by-cons (λ b. cond (b == 10) 1 0) byte bytes)
    ]

-- the place found, or the end
pub unwrap_position : (bytes : List ℕ) → unwrap_or (position (λ byte. is_separator (kind_of byte)) bytes) (length bytes)
    ≡ run bytes
unwrap_position bytes = position_chosen (λ byte. is_separator (kind_of byte)) bytes (nat_lt (run bytes) (length bytes)) refl
    (run-le bytes)

-- the same, for the parts that a split gives
pub cut_parts : (place : LinePlace) (line at : ℕ) (bytes front back : List ℕ) (n m : ℕ) → begins_token place bytes →
    bytes ≢ [] →
    n ≡ run bytes → front ≡ take n bytes → back ≡ drop n bytes → m ≡ n →
    tokens_from place line at bytes ≡ record { text = front; line = line; at = at } ∷ tokens_from InLine line
    (at + m) back
cut_parts place line at bytes front back n m begins some is front_is back_is long =
    cut_token place line at bytes begins some
    ∙ ap (λ k. cut_at k line at bytes) (sym is)
    ∙ ap (λ text. record { text = text; line = line; at = at } ∷ tokens_from InLine line (at + n) (drop n bytes))
    (sym front_is)
    ∙ ap (λ k. record { text = front; line = line; at = at } ∷ tokens_from InLine line (at + k) (drop n bytes))
    (sym long)
    ∙ ap (λ rest. record { text = front; line = line; at = at } ∷ tokens_from InLine line (at + m) rest) (sym back_is)

pub token_step : (separator : Bool) (byte : ℕ) (bytes : List ℕ) (tokens : List (List ℕ)) → separator ≡ false →
    cond separator tokens (cond (goes_on bytes) (extend_token byte tokens) ((byte ∷ []) ∷ tokens))
    ≡ cond (goes_on bytes) (extend_token byte tokens) ((byte ∷ []) ∷ tokens)
token_step true byte bytes tokens h = cc
token_step false byte bytes tokens h = refl

abbrev line_cut_at : ℕ → List ℕ → List (List ℕ)
line_cut_at n bytes = take n bytes ∷ line_tokens (drop n bytes)

-- the same for the tokens of one line
pub cut_line_token : (bytes : List ℕ) → goes_on bytes ≡ true → line_tokens bytes ≡ line_cut_at (run bytes) bytes
cut_line_token [] h = cc
cut_line_token (byte ∷ bytes) h =
    let visible = not-true (is_separator (kind_of byte)) h in
    let tokens = line_tokens bytes in
    token_step (is_separator (kind_of byte)) byte bytes tokens visible
    ∙ elim (cases_Bool (goes_on bytes)) [
      | inl goes ↦
          ap (λ b. cond b (extend_token byte tokens) ((byte ∷ []) ∷ tokens)) goes
          ∙ ap (extend_token byte) (cut_line_token bytes goes)
      | inr ends ↦
          ap (λ b. cond b (extend_token byte tokens) ((byte ∷ []) ∷ tokens)) ends
          ∙ ap (λ k. line_cut_at (suc k) (byte ∷ bytes)) (sym (run-none bytes ends))
    ]
    ∙ ap (λ k. line_cut_at k (byte ∷ bytes)) (sym (run-more byte bytes visible))

pub line_cut_parts : (bytes front back : List ℕ) (n : ℕ) → goes_on bytes ≡ true → n ≡ run bytes → front ≡ take n bytes →
    back ≡ drop n bytes →
    line_tokens bytes ≡ front ∷ line_tokens back
line_cut_parts bytes front back n goes is front_is back_is =
    cut_line_token bytes goes
    ∙ ap (λ k. line_cut_at k bytes) (sym is)
    ∙ ap (λ token. token ∷ line_tokens (drop n bytes)) (sym front_is)
    ∙ ap (λ rest. front ∷ line_tokens rest) (sym back_is)

pub not_empty : (bytes : List ℕ) → false ≡ (length bytes == 0) → bytes ≢ []
not_empty bytes h none = true≢false (sym (h ∙ ap (λ b. length b == 0) none))
