-- The first line of bytes.
use Rattle.std.proofs.Common.{◌≡◌, ◌≢◌, ℕ, ◌+◌, cond, inl, inr, List, [], ◌∷◌, ◌++◌, refl, sym, ◌∙◌, ap}
use Rattle.std.specs.List.{All}
use Rattle.std.proofs.lemmas.Bool.{ne_eqb}
use Rattle.std.proofs.lemmas.List.Elements.{All-head, All-tail}
use Rattle.dq_text.specs.Line.{IsFirstLine, extend_line, lines_from}
use Rattle.aiger_text.specs.Steps.{line_of}

abbrev NoFeed : ℕ → Type 0
NoFeed byte = byte ≢ 10

pub before_feed : (number : ℕ) (text others : List ℕ) → All NoFeed text →
    lines_from number (text ++ (10 ∷ others)) ≡ line_of text number others ∷ lines_from (number + 1) others
before_feed number [] others free = refl
before_feed number (byte ∷ text) others free =
    let bytes = text ++ (10 ∷ others) in
    ap (λ b. cond b (line_of [] number bytes ∷ lines_from (number + 1) bytes)
    (extend_line byte number (lines_from number bytes)))
    (ne_eqb byte 10 (All-head NoFeed byte text free))
    ∙ ap (extend_line byte number) (before_feed number text others (All-tail NoFeed byte text free))

at_end : (number byte : ℕ) (text : List ℕ) → All NoFeed (byte ∷ text) →
    lines_from number (byte ∷ text) ≡ line_of (byte ∷ text) number [] ∷ []
at_end number byte [] free =
    ap (λ b. cond b (line_of [] number [] ∷ lines_from (number + 1) []) (extend_line byte number []))
    (ne_eqb byte 10 (All-head NoFeed byte [] free))
at_end number byte (next ∷ text) free =
    let bytes = next ∷ text in
    ap (λ b. cond b (line_of [] number bytes ∷ lines_from (number + 1) bytes)
    (extend_line byte number (lines_from number bytes)))
    (ne_eqb byte 10 (All-head NoFeed byte bytes free))
    ∙ ap (extend_line byte number) (at_end number next text (All-tail NoFeed byte bytes free))

pub last_line : (number : ℕ) (text : List ℕ) → All NoFeed text → text ≢ [] →
    lines_from number text ≡ line_of text number [] ∷ []
last_line number [] free some = absurd (some refl)
last_line number (byte ∷ text) free some = at_end number byte text free

pub first_of_lines : (number : ℕ) (bytes text others : List ℕ) → IsFirstLine bytes text others → bytes ≢ [] →
    lines_from number bytes ≡ line_of text number others ∷ lines_from (number + 1) others
first_of_lines number bytes text others first some =
    elim first.parts [
      | inl with_feed ↦ ap (lines_from number) with_feed ∙ before_feed number text others first.one_line
      | inr alone ↦
          ap (lines_from number) alone.0
          ∙ last_line number text first.one_line (λ none. some (alone.0 ∙ none))
          ∙ ap (λ rest. line_of text number rest ∷ lines_from (number + 1) rest) (sym alone.1)
    ]
