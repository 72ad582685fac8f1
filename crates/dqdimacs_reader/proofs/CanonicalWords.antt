-- The lexemes of a canonical text.
use Rattle.std.proofs.Common.{◌≡◌, ℕ, zero, suc, ◌==◌, ◌^◌, ◌<◌, ◌≤◌, Bool, true, false, if◌then◌else◌, List, [], ◌∷◌, ◌++◌, map, length, refl, sym, ◌∙◌, ap, arith, append_assoc, append-nil}
use Rattle.std.specs.Fmt.{decimal}
use Rattle.std.specs.List.{AllByRecursion, flat_map}
use Rattle.std.proofs.lemmas.Grind.{flat_map-append}
use Rattle.dq_lits.specs.Literal.{Literal, positive, negative, variable_of}
use Rattle.dq_lits.specs.Formula.{Existential, Dqbf}
use Rattle.dq_text.proofs.Numerals.{AreDigits, digits_other, decimal_digits}
use Rattle.dq_text.specs.Bytes.{kind_of}
use Rattle.dq_text.specs.Token.{TextToken, tokens_of}
use Rattle.dq_text.specs.declared.bytes.ByteKind.TheVariants.{Other}
use Rattle.dq_text.specs.declared.cursors.LinePlace.{LinePlace}
use Rattle.dq_text.specs.declared.cursors.LinePlace.TheVariants.{LineStart, InLine}
use Rattle.dq_text.specs.Written.{number_text, line_end}
use Rattle.dqdimacs_reader.specs.Canonical.{literal_text, numbers_line, header_text, universals_text, existential_text, clause_text, canonical}
use Rattle.dqdimacs_reader.specs.Grammar.{PrefixPart, numbers, part_lexemes, clause_lexemes, literal_lexeme, header}
use Rattle.dqdimacs_reader.specs.Lexeme.{lexeme_of}
use Rattle.dqdimacs_reader.specs.declared.lexemes.Lexeme.{Lexeme}
use Rattle.dqdimacs_reader.specs.declared.lexemes.Lexeme.TheVariants.{Natural}
use Rattle.dqdimacs_reader.proofs.NumberWords.{natural_word, negative_word}
use Rattle.dqdimacs_reader.proofs.Words.{text_of, words_from, words_are, IsOpen, word_space, word_line}

abbrev pub lexemes : LinePlace → List ℕ → List Lexeme
lexemes place bytes = map lexeme_of (words_from place bytes)

each_text : (tokens : List TextToken) → map (λ token. lexeme_of token.text) tokens ≡ map lexeme_of (map text_of tokens)
each_text [] = refl
each_text (token ∷ tokens) = ap (λ rest. lexeme_of token.text ∷ rest) (each_text tokens)

pub token_lexemes : (text : List ℕ) → map (λ token. lexeme_of token.text) (tokens_of text) ≡ lexemes LineStart text
token_lexemes text = each_text (tokens_of text) ∙ ap (map lexeme_of) (words_are LineStart 1 0 text)

digits_space : (place : LinePlace) (ds rest : List ℕ) → IsOpen place → 0 < length ds → AreDigits ds →
    words_from place (ds ++ 32 ∷ rest) ≡ ds ∷ words_from InLine rest
digits_space place [] rest start some are = absurd (omega (arith, some))
digits_space place (d ∷ ds) rest start some are =
    let others = digits_other (d ∷ ds) are in word_space place d ds rest start others.0 others.1

digits_line : (place : LinePlace) (ds rest : List ℕ) → IsOpen place → 0 < length ds → AreDigits ds →
    words_from place (ds ++ 10 ∷ rest) ≡ ds ∷ words_from LineStart rest
digits_line place [] rest start some are = absurd (omega (arith, some))
digits_line place (d ∷ ds) rest start some are =
    let others = digits_other (d ∷ ds) are in word_line place d ds rest start others.0 others.1

natural_space : (place : LinePlace) (n : ℕ) (rest : List ℕ) → IsOpen place → n < 10 ^ 18 →
    lexemes place (number_text n ++ rest) ≡ Natural n ∷ lexemes InLine rest
natural_space place n rest start small = search (arith, decimal_digits, append_assoc, digits_space, natural_word)

natural_line : (n : ℕ) (rest : List ℕ) → n < 10 ^ 18 →
    lexemes InLine ((decimal n ++ 10 ∷ []) ++ rest) ≡ Natural n ∷ lexemes LineStart rest
natural_line n rest small = search (arith, decimal_digits, append_assoc, digits_line, natural_word)

end_lexemes : (place : LinePlace) (rest : List ℕ) → IsOpen place →
    lexemes place (line_end ++ rest) ≡ Natural 0 ∷ lexemes LineStart rest
end_lexemes place rest start = ap (map lexeme_of) (word_line place 48 [] rest start refl tt)

abbrev pub AreSmall : List ℕ → Type 0
AreSmall ns = AllByRecursion (λ n. n < 10 ^ 18) ns

numbers_lexemes : (ns rest : List ℕ) → AreSmall ns →
    lexemes InLine (flat_map number_text ns ++ (line_end ++ rest)) ≡ numbers ns ++ lexemes LineStart rest
numbers_lexemes [] rest small = end_lexemes InLine rest tt
numbers_lexemes (n ∷ ns) rest small = search (arith, append_assoc, natural_space, (numbers_lexemes ns rest small.1))

line_lexemes : (letter : ℕ) (ns rest : List ℕ) → kind_of letter ≡ Other → AreSmall ns →
    lexemes LineStart (numbers_line letter ns ++ rest) ≡ lexeme_of (letter ∷ []) ∷
    (numbers ns ++ lexemes LineStart rest)
line_lexemes letter ns rest other small = search (arith, append_assoc, word_space, numbers_lexemes)

header_lexemes : (f : Dqbf) (rest : List ℕ) → f.variables < 10 ^ 18 → length f.matrix < 10 ^ 18 →
    lexemes LineStart (header_text f ++ rest) ≡ header f.variables (length f.matrix) ++ lexemes LineStart rest
header_lexemes f rest few_variables few_clauses =
    search (arith, word_space, append_assoc, natural_space, natural_line)

-- a literal's number
abbrev pub IsNumbered : Literal → Type 0
IsNumbered l = (1 ≤ variable_of l) × (variable_of l < 10 ^ 18)

literal_space : (place : LinePlace) (l : Literal) (rest : List ℕ) → IsOpen place → IsNumbered l →
    lexemes place (literal_text l ++ rest) ≡ literal_lexeme l ∷ lexemes InLine rest
literal_space place (positive v) rest start is = natural_space place v rest start is.1
literal_space place (negative zero) rest start is = absurd (omega (arith, is.0))
literal_space place (negative (suc n)) rest start is =
    search (
      arith,
      (decimal_digits (suc n) is.1),
      append_assoc,
      (word_space place 45),
      digits_other,
      (negative_word n is.1),
    )

clause_lexemes_of : (place : LinePlace) (ls : List Literal) (rest : List ℕ) → IsOpen place →
    AllByRecursion IsNumbered ls →
    lexemes place (flat_map literal_text ls ++ (line_end ++ rest)) ≡ clause_lexemes ls ++ lexemes LineStart rest
clause_lexemes_of place [] rest start are = end_lexemes place rest start
clause_lexemes_of place (l ∷ ls) rest start are =
    ap (lexemes place) (append_assoc (literal_text l) (flat_map literal_text ls) (line_end ++ rest))
    ∙ literal_space place l (flat_map literal_text ls ++ (line_end ++ rest)) start are.0
    ∙ ap (λ more. literal_lexeme l ∷ more) (clause_lexemes_of InLine ls rest tt are.1)

clauses_lexemes : (clauses : List (List Literal)) → AllByRecursion (AllByRecursion IsNumbered) clauses →
    lexemes LineStart (flat_map clause_text clauses) ≡ flat_map clause_lexemes clauses
clauses_lexemes [] are = refl
clauses_lexemes (ls ∷ clauses) are = search (arith, append_assoc, clause_lexemes_of, (clauses_lexemes clauses are.1))

-- the part of an existential
abbrev pub part_by : Bool → Existential → PrefixPart
part_by true y = PrefixPart.existentials (y.variable ∷ [])
part_by false y = PrefixPart.dependent y.variable y.sees

abbrev pub part_of : List ℕ → Existential → PrefixPart
part_of universals y = part_by (length y.sees == length universals) y

pub record IsSmall (y : Existential) : Type 0 where
  pub variable : y.variable < 10 ^ 18
  pub sees : AreSmall y.sees

existential_lexemes : (all : Bool) (y : Existential) (rest : List ℕ) → IsSmall y →
    lexemes LineStart ((if all then numbers_line 101 (y.variable ∷ []) else numbers_line 100 (y.variable ∷ y.sees))
    ++ rest)
    ≡ part_lexemes (part_by all y) ++ lexemes LineStart rest
existential_lexemes true y rest small = line_lexemes 101 (y.variable ∷ []) rest refl (small.variable, tt)
existential_lexemes false y rest small = line_lexemes 100 (y.variable ∷ y.sees) rest refl (small.variable, small.sees)

existentials_lexemes : (universals : List ℕ) (es : List Existential) (rest : List ℕ) → AllByRecursion IsSmall es →
    lexemes LineStart (flat_map (existential_text universals) es ++ rest)
    ≡ flat_map part_lexemes (map (part_of universals) es) ++ lexemes LineStart rest
existentials_lexemes universals [] rest are = refl
existentials_lexemes universals (y ∷ es) rest are =
    search (arith, append_assoc, existential_lexemes, (existentials_lexemes universals es rest are.1))

-- the parts of a formula's canonical text
abbrev pub universal_parts : List ℕ → List PrefixPart
universal_parts [] = []
universal_parts (x ∷ xs) = PrefixPart.universals (x ∷ xs) ∷ []

abbrev pub parts_of : Dqbf → List PrefixPart
parts_of f = universal_parts f.universals ++ map (part_of f.universals) f.existentials

universals_lexemes : (us rest : List ℕ) → AreSmall us →
    lexemes LineStart (universals_text us ++ rest) ≡ flat_map part_lexemes
    (universal_parts us) ++ lexemes LineStart rest
universals_lexemes [] rest small = refl
universals_lexemes (x ∷ xs) rest small = search (arith, (line_lexemes 97 (x ∷ xs) rest), append-nil)

pub record HasSmallNumbers (f : Dqbf) : Type 0 where
  pub variables : f.variables < 10 ^ 18
  pub clauses : length f.matrix < 10 ^ 18
  pub universals : AreSmall f.universals
  pub existentials : AllByRecursion IsSmall f.existentials
  pub literals : AllByRecursion (AllByRecursion IsNumbered) f.matrix

pub canonical_lexemes : (f : Dqbf) → HasSmallNumbers f →
    map (λ token. lexeme_of token.text) (tokens_of (canonical f))
    ≡ header f.variables (length f.matrix) ++ (flat_map part_lexemes (parts_of f) ++ flat_map clause_lexemes f.matrix)
canonical_lexemes f small =
    let es = flat_map (existential_text f.universals) f.existentials in
    let cs = flat_map clause_text f.matrix in
    let front = flat_map part_lexemes (universal_parts f.universals) in
    let behind = flat_map part_lexemes (map (part_of f.universals) f.existentials) in
    let matrix = flat_map clause_lexemes f.matrix in
    let head = header f.variables (length f.matrix) in
    token_lexemes (canonical f)
    ∙ header_lexemes f (universals_text f.universals ++ (es ++ cs)) small.variables small.clauses
    ∙ ap (λ more. head ++ more) (universals_lexemes f.universals (es ++ cs) small.universals)
    ∙ ap (λ more. head ++ (front ++ more)) (existentials_lexemes f.universals f.existentials cs small.existentials)
    ∙ ap (λ more. head ++ (front ++ (behind ++ more))) (clauses_lexemes f.matrix small.literals)
    ∙ ap (λ more. head ++ more) (sym (append_assoc front behind matrix))
    ∙ ap (λ more. head ++ (more ++ matrix)) (sym (flat_map-append part_lexemes (universal_parts f.universals)
    (map (part_of f.universals) f.existentials)))
