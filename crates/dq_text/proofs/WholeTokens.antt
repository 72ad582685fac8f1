-- A token that is cut off a piece where it ends.
use Rattle.std.proofs.Common.{◌≡◌, ℕ, ◌<◌, true, not, List, [], ◌∷◌, ◌++◌, take, drop, length, sym, ◌∙◌, ap, ap₂, subst, arith, inl, inr}
use Rattle.std.specs.List.{All}
use Rattle.std.proofs.lemmas.Bool.{cases_Bool}
use Rattle.std.proofs.lemmas.List.{take-append-drop}
use Rattle.std.proofs.lemmas.List.Elements.{All-nil, All-cons}
use Rattle.dq_text.specs.Bytes.{kind_of}
use Rattle.dq_text.specs.LongestRuns.{IsVisible}
use Rattle.dq_text.specs.Pieces.{begins_with_separator, IsAtStart, IsWholeToken}
use Rattle.dq_text.specs.Token.{is_separator}
use Rattle.dq_text.specs.declared.token_pieces.TokenPieces.{TokenPieces}
use Rattle.dq_text.proofs.TokenCuts.{run, run-none, run-more, token_byte_visible}

visible_run : (bytes : List ℕ) → All IsVisible (take (run bytes) bytes)
visible_run [] = All-nil IsVisible
visible_run (byte ∷ bytes) =
    elim (cases_Bool (is_separator (kind_of byte))) [
      | inl separator ↦ subst (λ n. All IsVisible (take n (byte ∷ bytes)))
          (sym (run-none (byte ∷ bytes) (ap not separator))) (All-nil IsVisible)
      | inr visible ↦ subst (λ n. All IsVisible (take n (byte ∷ bytes))) (sym (run-more byte bytes visible))
          (All-cons IsVisible byte (take (run bytes) bytes) visible (visible_run bytes))
    ]

separator_behind : (bytes : List ℕ) → run bytes < length bytes → begins_with_separator (drop (run bytes) bytes) ≡ true
separator_behind [] short = absurd (omega (arith, short))
separator_behind (byte ∷ bytes) short =
    elim (cases_Bool (is_separator (kind_of byte))) [
      | inl separator ↦ ap (λ n. begins_with_separator (drop n (byte ∷ bytes)))
          (run-none (byte ∷ bytes) (ap not separator)) ∙ separator
      | inr visible ↦
          let more = run-more byte bytes visible in
          ap (λ n. begins_with_separator (drop n (byte ∷ bytes))) more
          ∙ separator_behind bytes (omega (arith, short, more))
    ]

some_run : (pieces : TokenPieces) (bytes : List ℕ) → IsAtStart pieces bytes → 0 < run bytes
some_run pieces [] start = absurd (omega (arith, start.some))
some_run pieces (byte ∷ bytes) start =
    let more = run-more byte bytes (token_byte_visible (kind_of byte) pieces.place start.begins) in
    omega (arith, more)

pub cut_whole : (pieces : TokenPieces) (bytes front back : List ℕ) (n : ℕ) → IsAtStart pieces bytes → n ≡ run bytes →
    n < length bytes →
    front ≡ take n bytes → back ≡ drop n bytes → length front ≡ n → IsWholeToken pieces bytes front back
cut_whole pieces bytes front back n start is short front_is back_is long =
    let run_short : run bytes < length bytes = omega (arith, is, short) in
    let some = some_run pieces bytes start in
    record {
      start = start;
      parts = sym (ap₂ (λ xs ys. xs ++ ys) front_is back_is ∙ take-append-drop n bytes);
      some = omega (arith, long, is, some);
      visible = subst (λ xs. All IsVisible xs) (sym (front_is ∙ ap (λ k. take k bytes) is)) (visible_run bytes);
      ends = ap begins_with_separator (back_is ∙ ap (λ k. drop k bytes) is) ∙ separator_behind bytes run_short;
    }
