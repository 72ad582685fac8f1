-- What the words of a written number are to the grammar.
use Rattle.std.proofs.Common.{◌≡◌, ◌≢◌, ◌==◌, ℕ, ℤ, ◌^◌, ◌<◌, Bool, true, false, ◌&&◌, if◌then◌else◌, List, [], ◌∷◌, length, suc, pos, negsuc, nat_lt, refl, ◌∙◌, ap, arith}
use Rattle.std.specs.Fmt.{decimal}
use Rattle.std.specs.Str.{bytes_eq}
use Rattle.std.proofs.lemmas.Bool.{cases_Bool, eqb-true, ne_eqb}
use Rattle.dq_text.proofs.Numerals.{AreDigits, tells, decimal_digits, natural_is_read, negative_is_read}
use Rattle.dq_text.specs.Number.{are_digits, number_of}
use Rattle.dq_text.specs.declared.numbers.Number.TheVariants.{Int, NotANumber}
use Rattle.dqdimacs_reader.specs.Lexeme.{word_or, lexeme_of, lexeme_of_int, number_lexeme}
use Rattle.dqdimacs_reader.specs.declared.lexemes.Lexeme.{Lexeme}
use Rattle.dqdimacs_reader.specs.declared.lexemes.Lexeme.TheVariants.{P as LetterP, Cnf, A, D, E, X, Natural, Negative}

other_word : (d w : ℕ) (ds ws : List ℕ) → d ≢ w → bytes_eq (d ∷ ds) (w ∷ ws) ≡ false
other_word d w ds ws differs = ap (λ b. b && bytes_eq ds ws) (ne_eqb d w differs)

-- a word that begins with another byte than the letters is what it is as a number
abbrev pub behind_letters : Bool → Bool → Bool → Bool → Bool → Bool → Lexeme → Lexeme
behind_letters p c a d e x rest = if p then LetterP else if c then Cnf else if a then A else if d then D else if e then
    E else if x then X else rest

pub no_letter : (p c a d e x : Bool) (rest : Lexeme) → p ≡ false → c ≡ false → a ≡ false → d ≡ false → e ≡ false →
    x ≡ false → behind_letters p c a d e x rest ≡ rest
no_letter p c a d e x rest hp hc ha hd he hx = search arith

pub no_word : (d : ℕ) (ds : List ℕ) (rest : Lexeme) → d < 97 → word_or (d ∷ ds) rest ≡ rest
no_word d ds rest small =
    no_letter (bytes_eq (d ∷ ds) (112 ∷ [])) (bytes_eq (d ∷ ds) (99 ∷ 110 ∷ 102 ∷ [])) (bytes_eq (d ∷ ds) (97 ∷ []))
    (bytes_eq (d ∷ ds) (100 ∷ [])) (bytes_eq (d ∷ ds) (101 ∷ [])) (bytes_eq (d ∷ ds) (120 ∷ [])) rest
    (other_word d 112 ds [] (λ h. omega arith)) (other_word d 99 ds (110 ∷ 102 ∷ []) (λ h. omega arith))
    (other_word d 97 ds [] (λ h. omega arith)) (other_word d 100 ds [] (λ h. omega arith))
    (other_word d 101 ds [] (λ h. omega arith))
    (other_word d 120 ds [] (λ h. omega arith))

number_first : (d : ℕ) (ds : List ℕ) → d < 97 → lexeme_of (d ∷ ds) ≡ number_lexeme (d == 45) (number_of (d ∷ ds))
number_first d ds small = no_word d ds (number_lexeme (d == 45) (number_of (d ∷ ds))) small

digits_lexeme : (ds : List ℕ) (n : ℕ) → 0 < length ds → AreDigits ds → number_of ds ≡ Int (pos n) →
    lexeme_of ds ≡ Natural n
digits_lexeme [] n some are is = absurd (omega (arith, some))
digits_lexeme (d ∷ ds) n some are is = search (arith, tells, number_first, ne_eqb)

pub natural_word : (n : ℕ) → n < 10 ^ 18 → lexeme_of (decimal n) ≡ Natural n
natural_word n small = search (arith, (decimal_digits n small), digits_lexeme, (natural_is_read n small))

pub negative_word : (n : ℕ) → suc n < 10 ^ 18 → lexeme_of (45 ∷ decimal (suc n)) ≡ Negative (suc n)
negative_word n small = search (arith, number_first, negative_is_read)

int_by : (minus : Bool) (n : ℤ) → number_lexeme minus (Int n) ≡ lexeme_of_int n
int_by minus (pos n) = refl
int_by minus (negsuc n) = refl

not_digits : (d : ℕ) (ds : List ℕ) → (d == 45) ≡ false → are_digits (d ∷ ds) ≡ false →
    number_of (d ∷ ds) ≡ NotANumber
not_digits d ds plain none = search (arith, nat_lt, pos)

digits_small : (d : ℕ) (ds : List ℕ) → are_digits (d ∷ ds) ≡ true → d < 97
digits_small d ds are = let range = tells.parts d ds are in omega (arith, range.0.1)

number_small : (d : ℕ) (ds : List ℕ) (n : ℤ) → number_of (d ∷ ds) ≡ Int n → d < 97
number_small d ds n is = search (arith, cases_Bool, eqb-true, digits_small, not_digits)

pub int_word : (text : List ℕ) (n : ℤ) → number_of text ≡ Int n → lexeme_of text ≡ lexeme_of_int n
int_word [] n is = search arith
int_word (d ∷ ds) n is =
    number_first d ds (number_small d ds n is) ∙ ap (number_lexeme (d == 45)) is ∙ int_by (d == 45) n
