-- Tokens that are natural numbers, as a line's reader takes them and as the grammar spells them.
use Rattle.std.proofs.Common.{◌≡◌, ℕ, ◌<◌, ◌^◌, pos, true, List, [], ◌∷◌, map, Option, None, Some, refl, sym, ◌∙◌, ap, ap₂, subst, option_and_then, option_map, arith}
use Rattle.std.specs.List.{AllByRecursion}
use Rattle.dq_text.proofs.Naturals.{natural_spelled, natural_taken}
use Rattle.dq_text.specs.BlankLine.{has_no_token, is_blank_line}
use Rattle.dq_text.specs.Line.{line_tokens}
use Rattle.dq_text.specs.Number.{natural_of, number_of}
use Rattle.aiger_text.specs.Grammar.{naturals}
use Rattle.aiger_text.specs.Lines.{numbers_of}

abbrev pub IsSmallNumber : ℕ → Type 0
IsSmallNumber n = n < 10 ^ 18

numbers_parts : (o : Option ℕ) (os : Option (List ℕ)) (ns : List ℕ) →
    option_and_then (λ n. option_map (λ rest. n ∷ rest) os) o ≡ Some ns →
    (n : ℕ) × (rest : List ℕ) × (o ≡ Some n) × (os ≡ Some rest) × (ns ≡ n ∷ rest)
numbers_parts None os ns h = cc
numbers_parts (Some n) None ns h = cc
numbers_parts (Some n) (Some rest) ns h = let e : ns ≡ n ∷ rest = cc in (n, rest, refl, refl, e)

pub numbers_are : (tokens : List (List ℕ)) (ns : List ℕ) → numbers_of tokens ≡ Some ns →
    AllByRecursion IsSmallNumber ns → map number_of tokens ≡ naturals ns
numbers_are [] ns h small = let e : [] ≡ ns = cc in ap naturals e
numbers_are (token ∷ tokens) ns h small =
    let parts = numbers_parts (natural_of token) (numbers_of tokens) ns h in
    let all = subst (AllByRecursion IsSmallNumber) parts.4 small in
    ap₂ (λ x xs. x ∷ xs) (natural_spelled token parts.0 parts.2 all.0) (numbers_are tokens parts.1 parts.3 all.1)
    ∙ ap naturals (sym parts.4)

pub numbers_from : (tokens : List (List ℕ)) (ns : List ℕ) → map number_of tokens ≡ naturals ns →
    numbers_of tokens ≡ Some ns
numbers_from [] [] h = refl
numbers_from [] (n ∷ ns) h = cc
numbers_from (token ∷ tokens) [] h = cc
numbers_from (token ∷ tokens) (n ∷ ns) h = search (arith, pos, natural_taken, (numbers_from tokens ns))

no_numbers : (tokens : List (List ℕ)) → has_no_token tokens ≡ true → map number_of tokens ≡ []
no_numbers [] none = refl
no_numbers (token ∷ tokens) none = cc

pub blank_behind : (bytes : List ℕ) → is_blank_line bytes ≡ true → map number_of (line_tokens bytes) ≡ []
blank_behind bytes blank = no_numbers (line_tokens bytes) blank
