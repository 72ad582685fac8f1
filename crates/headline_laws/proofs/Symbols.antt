-- What a token is to the reader, and what it spells on the page.
use Rattle.std.proofs.Common.{◌≡◌, ◌≢◌, ℕ, ◌==◌, suc, zero, pos, negsuc, neg_ℤ, nat_lt, Bool, true, false, cond, List, [], ◌∷◌, ◌++◌, map, codes, refl, sym, ap, subst, arith}
use Rattle.std.specs.List.{AllZip, list_all}
use Rattle.std.specs.Char.{is_ascii_digit}
use Rattle.std.specs.Str.{bytes_eq}
use Rattle.std.proofs.lemmas.Bool.{eqb-true, ltb-true}
use Rattle.std.proofs.lemmas.Slice.Eq.{bytes_eq-Decides}
use Rattle.dq_text.specs.Number.{are_digits, begins_with_minus, negative_of, number_of, unsigned_of}
use Rattle.dq_text.specs.declared.numbers.Number.{Number}
use Rattle.dq_text.specs.declared.numbers.Number.TheVariants.{Int, NotANumber, TooBig}
use Rattle.dqdimacs_reader.specs.Lexeme.{lexeme_of, number_lexeme}
use Rattle.dqdimacs_reader.specs.declared.lexemes.Lexeme.{Lexeme}
use Rattle.dqdimacs_reader.specs.declared.lexemes.Lexeme.TheVariants.{P, Cnf, A, D, E, X, Natural, Negative, Large, NegativeLarge, Other}
use Rattle.headline.specs.Headline.{Symbol, word, natural, negative, Spells, IsNatural}

-- which word it is, from 1 on
abbrev place : Lexeme → ℕ
place P = 1
place Cnf = 2
place A = 3
place D = 4
place E = 5
place X = 6
place (Natural _) = 0
place (Negative _) = 0
place Large = 0
place NegativeLarge = 0
place Other = 0

abbrev chosen : Bool → Bool → Bool → Bool → Bool → Bool → Lexeme → Lexeme
chosen p c a d e x rest = cond p P (cond c Cnf (cond a A (cond d D (cond e E (cond x X rest)))))

no_word : (minus : Bool) (n : Number) → place (number_lexeme minus n) ≡ 0
no_word minus NotANumber = refl
no_word true TooBig = refl
no_word false TooBig = refl
no_word minus (Int (pos n)) = refl
no_word minus (Int (negsuc n)) = refl

-- the test that makes it that word
abbrev test_at : ℕ → Bool → Bool → Bool → Bool → Bool → Bool → Bool
test_at zero p c a d e x = true
test_at (suc zero) p c a d e x = p
test_at (suc (suc zero)) p c a d e x = c
test_at (suc (suc (suc zero))) p c a d e x = a
test_at (suc (suc (suc (suc zero)))) p c a d e x = d
test_at (suc (suc (suc (suc (suc zero))))) p c a d e x = e
test_at (suc (suc (suc (suc (suc (suc _)))))) p c a d e x = x

by_test : (p c a d e x : Bool) (rest : Lexeme) → place rest ≡ 0 →
    test_at (place (chosen p c a d e x rest)) p c a d e x ≡ true
by_test true c a d e x rest none = refl
by_test false true a d e x rest none = refl
by_test false false true d e x rest none = refl
by_test false false false true e x rest none = refl
by_test false false false false true x rest none = refl
by_test false false false false false true rest none = refl
by_test false false false false false false rest none = ap (λ n. test_at n false false false false false false) none

no_test : (p c a d e x : Bool) (rest : Lexeme) → place (chosen p c a d e x rest) ≡ 0 → chosen p c a d e x rest ≡ rest
no_test true c a d e x rest none = cc
no_test false true a d e x rest none = cc
no_test false false true d e x rest none = cc
no_test false false false true e x rest none = cc
no_test false false false false true x rest none = cc
no_test false false false false false true rest none = cc
no_test false false false false false false rest none = refl

abbrev is : List ℕ → List ℕ → Bool
is token text = bytes_eq token text

abbrev number_in : List ℕ → Lexeme
number_in token = number_lexeme (begins_with_minus token) (number_of token)

word_test : (token : List ℕ) (l : Lexeme) → lexeme_of token ≡ l →
    test_at (place l) (is token (codes "p")) (is token (codes "cnf")) (is token (codes "a")) (is token (codes "d"))
    (is token (codes "e")) (is token (codes "x")) ≡ true
word_test token l same = search (arith, codes, by_test)

number_there : (token : List ℕ) (l : Lexeme) → place l ≡ 0 → lexeme_of token ≡ l → number_in token ≡ l
number_there token l none same = search (arith, no_test, codes)

-- numbers
natural_is : (minus : Bool) (n : Number) (v : ℕ) → number_lexeme minus n ≡ Natural v → n ≡ Int (pos v)
natural_is minus NotANumber v h = cc
natural_is true TooBig v h = cc
natural_is false TooBig v h = cc
natural_is minus (Int (pos n)) v h = search arith
natural_is minus (Int (negsuc n)) v h = cc

negative_is : (minus : Bool) (n : Number) (v : ℕ) → number_lexeme minus n ≡ Negative v →
    (k : ℕ) × ((n ≡ Int (negsuc k)) × (v ≡ suc k))
negative_is minus NotANumber v h = cc
negative_is true TooBig v h = cc
negative_is false TooBig v h = cc
negative_is minus (Int (pos n)) v h = cc
negative_is minus (Int (negsuc n)) v h = (n, (refl, cc))

some_digits : (ds : List ℕ) → are_digits ds ≡ true → ds ≢ []
some_digits [] h = cc
some_digits (d ∷ ds) h = λ same. cc

all_digits : (ds : List ℕ) → are_digits ds ≡ true → list_all is_ascii_digit ds ≡ true
all_digits [] h = refl
all_digits (d ∷ ds) h = h

unsigned_is : (ds : List ℕ) (v : ℕ) → unsigned_of ds ≡ Int (pos v) → IsNatural ds v
unsigned_is ds v h = search (arith, nat_lt, pos, some_digits, ltb-true)

negative_digits : (ds : List ℕ) (k : ℕ) → negative_of ds ≡ Int (negsuc k) → IsNatural ds (suc k)
negative_digits ds k h = search (arith, nat_lt, neg_ℤ, pos, negsuc, some_digits, ltb-true)

-- no natural stands behind a minus
no_natural : (ds : List ℕ) (v : ℕ) → negative_of ds ≡ Int (pos v) → IsNatural (45 ∷ ds) v
no_natural ds v h = search (arith, nat_lt, neg_ℤ, pos)

no_minus : (ds : List ℕ) (k : ℕ) → unsigned_of ds ≡ Int (negsuc k) → IsNatural ds (suc k)
no_minus ds k h = search (arith, nat_lt, pos, negsuc)

pub natural_number : (token : List ℕ) (v : ℕ) → number_of token ≡ Int (pos v) → IsNatural token v
natural_number [] v h = cc
natural_number (byte ∷ bytes) v h = by (byte == 45) refl h where
  by : (minus : Bool) → (byte == 45) ≡ minus →
      cond minus (negative_of bytes) (unsigned_of (byte ∷ bytes)) ≡ Int (pos v) → IsNatural (byte ∷ bytes) v
  by true m same = subst (λ b. IsNatural (b ∷ bytes) v) (sym (eqb-true byte 45 m)) (no_natural bytes v same)
  by false m same = unsigned_is (byte ∷ bytes) v same

pub negative_number : (token : List ℕ) (k : ℕ) → number_of token ≡ Int (negsuc k) → Spells token (negative (suc k))
negative_number [] k h = cc
negative_number (byte ∷ bytes) k h = search (arith, negsuc, eqb-true, negative_digits, nat_lt, pos)

-- a lexeme, and what each token of it spells on the page
abbrev pub Stands : Lexeme → Symbol → Type 0
Stands l symbol = (token : List ℕ) → lexeme_of token ≡ l → Spells token symbol

same_text : (token text : List ℕ) → is token text ≡ true → token ≡ text
same_text token text h = (bytes_eq-Decides token text).0 h

pub stands_p : Stands P (word (codes "p"))
stands_p token same = same_text token (codes "p") (word_test token P same)

pub stands_cnf : Stands Cnf (word (codes "cnf"))
stands_cnf token same = same_text token (codes "cnf") (word_test token Cnf same)

pub stands_a : Stands A (word (codes "a"))
stands_a token same = same_text token (codes "a") (word_test token A same)

pub stands_d : Stands D (word (codes "d"))
stands_d token same = same_text token (codes "d") (word_test token D same)

pub stands_e : Stands E (word (codes "e"))
stands_e token same = same_text token (codes "e") (word_test token E same)

pub stands_x : Stands X (word (codes "x"))
stands_x token same = same_text token (codes "x") (word_test token X same)

pub stands_natural : (n : ℕ) → Stands (Natural n) (natural n)
stands_natural n token same =
    natural_number token n (natural_is (begins_with_minus token) (number_of token) n (number_there token (Natural n) refl same))

pub stands_negative : (n : ℕ) → Stands (Negative n) (negative n)
stands_negative n token same =
    let one = negative_is (begins_with_minus token) (number_of token) n (number_there token (Negative n) refl same) in
    subst (λ m. Spells token (negative m)) (sym one.1.1) (negative_number token one.0 one.1.0)

-- tokens with these lexemes spell what these stand for
pub all_spelled : (tokens : List (List ℕ)) (symbols : List Symbol) → AllZip Stands (map lexeme_of tokens) symbols →
    AllZip Spells tokens symbols
all_spelled [] [] each = tt
all_spelled [] (s ∷ symbols) each = each
all_spelled (token ∷ tokens) [] each = each
all_spelled (token ∷ tokens) (s ∷ symbols) each = (each.0 token refl, all_spelled tokens symbols each.1)

pub zip_append : (ks ls : List Lexeme) (ss ts : List Symbol) → AllZip Stands ks ss → AllZip Stands ls ts →
    AllZip Stands (ks ++ ls) (ss ++ ts)
zip_append [] ls [] ts one other = other
zip_append [] ls (s ∷ ss) ts one other = absurd one
zip_append (k ∷ ks) ls [] ts one other = absurd one
zip_append (k ∷ ks) ls (s ∷ ss) ts one other = (one.0, zip_append ks ls ss ts one.1 other)
