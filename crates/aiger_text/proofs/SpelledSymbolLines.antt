-- Symbol lines, as their reader takes them and as the grammar spells them.
use Rattle.std.proofs.Common.{◌≡◌, ℕ, suc, ◌+◌, ◌<◌, ◌≤◌, ◌^◌, ◌==◌, ◌⊎◌, one-add, take-append-drop, ap₂, Bool, true, false, not, cond, ◌||◌, inl, inr, pos, List, [], ◌∷◌, ◌++◌, length, take, drop, Option, Some, None, refl, sym, ◌∙◌, ap, arith, subst, option_and_then}
use Rattle.std.specs.Char.{is_ascii_digit}
use Rattle.std.specs.List.{list_all}
use Rattle.std.proofs.lemmas.Bool.{and_from, and_parts, or_left, or_right, or_cases, eq-eqb, eqb-true, cases_Bool, cond-true, cond-false}
use Rattle.dq_text.proofs.Naturals.{natural_spelled, natural_taken}
use Rattle.dq_text.specs.Number.{natural_of, number_of}
use Rattle.dq_text.specs.declared.numbers.Number.TheVariants.{Int}
use Rattle.aiger_text.specs.Grammar.{letter_of, SpellsSymbol}
use Rattle.aiger_text.specs.Lines.{SymbolLine, if_named, behind_place, digits_end, behind_kind, symbol_of, without_end_crs}

-- digits, and a byte that is none
digits_stop : (digits : List ℕ) (byte : ℕ) (rest : List ℕ) → list_all is_ascii_digit digits ≡ true →
    is_ascii_digit byte ≡ false →
    (take (digits_end (digits ++ (byte ∷ rest))) (digits ++ (byte ∷ rest)) ≡ digits) ×
    (drop (digits_end (digits ++ (byte ∷ rest))) (digits ++ (byte ∷ rest)) ≡ byte ∷ rest)
digits_stop [] byte rest are stops = search (arith, cond-false)
digits_stop (digit ∷ digits) byte rest are stops =
    let bytes = digits ++ (byte ∷ rest) in
    let parts = and_parts (is_ascii_digit digit) (list_all is_ascii_digit digits) are in
    let behind = digits_stop digits byte rest parts.1 stops in
    let more : digits_end (digit ∷ bytes) ≡ suc (digits_end bytes) =
    cond-true (not (not (is_ascii_digit digit))) (1 + digits_end bytes) 0 (ap (λ b. not (not b)) parts.0) ∙ one-add
    (digits_end bytes) in (
      ap (λ n. take n (digit ∷ bytes)) more ∙ ap (λ xs. digit ∷ xs) behind.0,
      ap (λ n. drop n (digit ∷ bytes)) more ∙ behind.1,
    )

digits_are : (bytes : List ℕ) → list_all is_ascii_digit (take (digits_end bytes) bytes) ≡ true
digits_are [] = refl
digits_are (byte ∷ bytes) =
    elim (cases_Bool (is_ascii_digit byte)) [
      | inl digit ↦
          let more : digits_end (byte ∷ bytes) ≡ suc (digits_end bytes) =
          cond-true (not (not (is_ascii_digit byte))) (1 + digits_end bytes) 0 (ap (λ b. not (not b)) digit) ∙ one-add
          (digits_end bytes) in
          ap (λ n. list_all is_ascii_digit (take n (byte ∷ bytes))) more
          ∙ and_from (is_ascii_digit byte) (list_all is_ascii_digit (take (digits_end bytes) bytes)) digit
          (digits_are bytes)
      | inr other ↦ search (arith, cond-false)
    ]

separates : (byte : ℕ) → (byte ≡ 32) ⊎ (byte ≡ 9) → ((byte == 32 || byte == 9) ≡ true) × (is_ascii_digit byte ≡ false)
separates byte (inl space) = (or_left (byte == 32) (byte == 9) (eq-eqb byte 32 space), ap is_ascii_digit space)
separates byte (inr tab) = (or_right (byte == 32) (byte == 9) (eq-eqb byte 9 tab), ap is_ascii_digit tab)

if_named_some : (b : Bool) (place : ℕ) (name : List ℕ) → 1 ≤ length name →
    if_named b place name ≡ Some (record { of_input = b; place = place; name = name })
if_named_some b place [] some = absurd (omega arith)
if_named_some b place (byte ∷ bytes) some = refl

behind_kind_from : (b : Bool) (s : SymbolLine) (digits : List ℕ) (separator : ℕ) (rest : List ℕ) →
    list_all is_ascii_digit digits ≡ true → number_of digits ≡ Int (pos s.place) →
    (separator ≡ 32) ⊎ (separator ≡ 9) → s.name ≡ without_end_crs rest → 1 ≤ length s.name →
    behind_kind b (digits ++ (separator ∷ rest)) ≡ Some (record { of_input = b; place = s.place; name = s.name })
behind_kind_from b s digits separator rest are place separated name named =
    search (arith, digits_stop, natural_taken, cond-true, if_named_some)

by_letter : (b : Bool) (bytes : List ℕ) → symbol_of (letter_of b ∷ bytes) ≡ behind_kind b bytes
by_letter true bytes = refl
by_letter false bytes = refl

pub symbol_from : (text : List ℕ) (s : SymbolLine) → SpellsSymbol text s → symbol_of text ≡ Some s
symbol_from text s spells = search (arith, by_letter, behind_kind_from)

number_parts : (o : Option ℕ) (next : ℕ → Option SymbolLine) (s : SymbolLine) → option_and_then next o ≡ Some s →
    (n : ℕ) × (o ≡ Some n) × (next n ≡ Some s)
number_parts None next s h = cc
number_parts (Some n) next s h = (n, refl, h)

named_is : (b : Bool) (place : ℕ) (name : List ℕ) (s : SymbolLine) → if_named b place name ≡ Some s →
    (b ≡ s.of_input) × (place ≡ s.place) × (s.name ≡ name) × (1 ≤ length s.name)
named_is b place [] s h = cc
named_is b place (byte ∷ bytes) s h = search arith

separator_is : (byte : ℕ) → (byte == 32 || byte == 9) ≡ true → (byte ≡ 32) ⊎ (byte ≡ 9)
separator_is byte h = search (arith, or_cases, eqb-true)

none_or : (b : Bool) (o : Option SymbolLine) (s : SymbolLine) → cond b o None ≡ Some s → (b ≡ true) × (o ≡ Some s)
none_or true o s h = (refl, h)
none_or false o s h = cc

place_parts : (b : Bool) (place : ℕ) (bytes : List ℕ) (s : SymbolLine) → behind_place b place bytes ≡ Some s →
    (separator : ℕ) × (rest : List ℕ) × (bytes ≡ separator ∷ rest) × ((separator ≡ 32) ⊎ (separator ≡ 9)) ×
    (if_named b place (without_end_crs rest) ≡ Some s)
place_parts b place [] s h = cc
place_parts b place (separator ∷ rest) s h = search (arith, separator_is)

kind_is : (b : Bool) (bytes : List ℕ) (s : SymbolLine) → behind_kind b bytes ≡ Some s → s.place < 10 ^ 18 →
    SpellsSymbol (letter_of b ∷ bytes) s
kind_is b bytes s h small =
    let end = digits_end bytes in
    let number = number_parts (natural_of (take end bytes)) (λ n. behind_place b n (drop end bytes)) s h in
    let behind = place_parts b number.0 (drop end bytes) s number.2 in
    let named = named_is b number.0 (without_end_crs behind.1) s behind.4 in
    let natural : number_of (take end bytes) ≡ Int (pos number.0) =
    natural_spelled (take end bytes) number.0 number.1 (omega arith) in
    record {
      digits = take end bytes;
      separator = behind.0;
      rest = behind.1;
      spelling = ap₂ (λ kind xs. kind ∷ xs) (ap letter_of named.0)
          (sym (take-append-drop end bytes) ∙ ap (λ xs. take end bytes ++ xs) behind.2);
      are_digits = digits_are bytes;
      place = natural ∙ ap (λ n. Int (pos n)) named.1;
      separated = behind.3;
      name = named.2;
      named = named.3;
    }

pub symbol_is : (text : List ℕ) (s : SymbolLine) → symbol_of text ≡ Some s → s.place < 10 ^ 18 → SpellsSymbol text s
symbol_is [] s h small = cc
symbol_is (kind ∷ bytes) s h small =
    elim (cases_Bool (kind == 105)) [
      | inl input ↦
          subst (λ k. SpellsSymbol (k ∷ bytes) s) (sym (eqb-true kind 105 input))
          (kind_is true bytes s (sym (cond-true (kind == 105) (behind_kind true bytes) _ input) ∙ h) small)
      | inr other ↦
          let parts = none_or (kind == 111) (behind_kind false bytes) s
          (sym (cond-false (kind == 105) (behind_kind true bytes) _ other) ∙ h) in
          subst (λ k. SpellsSymbol (k ∷ bytes) s) (sym (eqb-true kind 111 parts.0))
          (kind_is false bytes s parts.1 small)
    ]
