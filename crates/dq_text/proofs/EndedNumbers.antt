-- Numbers that end before a separator.
use Rattle.std.proofs.Common.{◌≡◌, ◌≢◌, ℕ, zero, suc, ◌≤◌, ◌<◌, ℤ, pos, negsuc, neg_ℤ, true, false, List, [], ◌∷◌, ◌++◌, length, take, drop, refl, sym, ◌∙◌, ap, subst, arith, length-append}
use Rattle.std.specs.Char.{is_ascii_digit}
use Rattle.std.specs.List.{All, list_all}
use Rattle.std.proofs.lemmas.List.{take-append-drop, take-take, length-take, length-take-le}
use Rattle.std.proofs.lemmas.List.Elements.{All-nil, All-cons}
use Rattle.dq_text.specs.Cursor.{begins_token}
use Rattle.dq_text.specs.LongestRuns.{IsVisible}
use Rattle.dq_text.specs.Number.{decimal_value}
use Rattle.dq_text.specs.Pieces.{begins_with_separator, IsWholeNumber}
use Rattle.dq_text.specs.ShortNumber.{IsLeadingValue, EndsNatural, EndsNumber}
use Rattle.dq_text.specs.Summary.{is_begun}
use Rattle.dq_text.specs.Token.{is_in_token, is_separator}
use Rattle.dq_text.specs.declared.bytes.ByteKind.TheVariants.{Other}
use Rattle.dq_text.specs.declared.cursors.LinePlace.{LinePlace}
use Rattle.dq_text.specs.declared.cursors.LinePlace.TheVariants.{LineStart, InLine, InComment}
use Rattle.dq_text.specs.declared.numbers.Number.TheVariants.{Int}
use Rattle.dq_text.specs.declared.token_pieces.TokenPieces.{TokenPieces}
use Rattle.dq_text.proofs.Numerals.{AreOther, AreDigitsOf, digits_other, digits_number, negative_value, are_some}

pub natural_ended : (bytes first behind : List ℕ) (value count : ℕ) → first ≡ take 18 bytes →
    IsLeadingValue first value count → 1 ≤ count → behind ≡ drop count bytes → begins_with_separator behind ≡ true →
    EndsNatural bytes value behind
natural_ended bytes first behind value count first_is leading some behind_is ends =
    let few : count ≤ 18 = omega (arith, leading.within, ap length first_is, length-take 18 bytes) in
    let inside : count ≤ length bytes = omega (arith, leading.within, ap length first_is, length-take 18 bytes) in
    let same : take count first ≡ take count bytes = ap (take count) first_is ∙ take-take count 18 bytes few in
    record {
      digits = take count bytes;
      parts = sym (take-append-drop count bytes) ∙ ap (λ more. take count bytes ++ more) (sym behind_is);
      some = omega (arith, length-take-le count bytes inside, some);
      are = ap (list_all is_ascii_digit) (sym same) ∙ leading.are;
      value_is = ap decimal_value (sym same) ∙ sym leading.value_is;
      small = leading.small;
      ends = ends;
    }

digits_of : (bytes behind : List ℕ) (value : ℕ) (e : EndsNatural bytes value behind) → AreDigitsOf value e.digits
digits_of bytes behind value e = record { some = e.some; are = e.are; value = e.value_is }

pub natural_number : (bytes behind : List ℕ) (value : ℕ) (n : ℤ) → EndsNatural bytes value behind → n ≡ pos value →
    EndsNumber bytes n behind
natural_number bytes behind value n e is = record {
  text = e.digits;
  parts = e.parts;
  some = e.some;
  plain = digits_other e.digits e.are;
  number = digits_number e.digits value e.small (digits_of bytes behind value e) ∙ ap Int (sym is);
  ends = e.ends;
}

negative_suc : (bytes behind : List ℕ) (value : ℕ) (n : ℤ) → EndsNatural bytes (suc value) behind → n ≡ negsuc value →
    EndsNumber (45 ∷ bytes) n behind
negative_suc bytes behind value n e is = record {
  text = 45 ∷ e.digits;
  parts = ap (λ text. 45 ∷ text) e.parts;
  some = omega arith;
  plain = (refl, digits_other e.digits e.are);
  number = negative_value e.digits value (are_some e.digits e.some e.are) e.value_is e.small ∙ ap Int (sym is);
  ends = e.ends;
}

pub negative_number : (bytes behind : List ℕ) (value : ℕ) (n : ℤ) → 1 ≤ value → EndsNatural bytes value behind →
    n ≡ neg_ℤ (pos value) → EndsNumber (45 ∷ bytes) n behind
negative_number bytes behind zero n some e is = absurd (omega (arith, some))
negative_number bytes behind (suc value) n some e is = negative_suc bytes behind value n e is

others_visible : (text : List ℕ) → AreOther text → All IsVisible text
others_visible [] are = All-nil IsVisible
others_visible (byte ∷ text) are =
    All-cons IsVisible byte text (ap is_separator are.0) (others_visible text are.1)

other_inside : (place : LinePlace) → place ≢ InComment → is_in_token Other place ≡ true
other_inside LineStart is = refl
other_inside InLine is = refl
other_inside InComment is = absurd (is refl)

others_begin : (place : LinePlace) (text behind : List ℕ) → place ≢ InComment → 0 < length text → AreOther text →
    begins_token place (text ++ behind)
others_begin place [] behind is some are = absurd (omega (arith, some))
others_begin place (byte ∷ text) behind is some are =
    ap (λ kind. is_in_token kind place) are.0 ∙ other_inside place is

pub whole_number : (pieces : TokenPieces) (bytes behind : List ℕ) (n : ℤ) → is_begun pieces.token.head ≡ false →
    pieces.place ≢ InComment → EndsNumber bytes n behind → IsWholeNumber pieces bytes n behind
whole_number pieces bytes behind n fresh is e = record {
  text = e.text;
  token = record {
    start = record {
      fresh = fresh;
      begins = subst (begins_token pieces.place) (sym e.parts)
          (others_begin pieces.place e.text behind is e.some e.plain);
      some = omega (arith, e.some, ap length e.parts, length-append e.text behind);
    };
    parts = e.parts;
    some = e.some;
    visible = others_visible e.text e.plain;
    ends = e.ends;
  };
  number = e.number;
}
