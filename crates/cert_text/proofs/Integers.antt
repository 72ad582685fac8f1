-- Tokens that are numbers, as a line's reader takes them and as the grammar spells them.
use Rattle.std.proofs.Common.{◌≡◌, ℕ, ℤ, Bool, true, false, cond, List, [], ◌∷◌, map, Result, Ok, Err, refl, ◌∙◌, ap, arith}
use Rattle.std.specs.List.{filter_map, list_any}
use Rattle.std.proofs.lemmas.Bool.{cond-false}
use Rattle.dq_text.specs.Number.{number_of}
use Rattle.dq_text.specs.declared.numbers.Number.{Number}
use Rattle.dq_text.specs.declared.numbers.Number.TheVariants.{Int, NotANumber, TooBig as TooBigNumber}
use Rattle.cert_text.specs.Grammar.{integers}
use Rattle.cert_text.specs.Numbers.{is_no_number, is_too_big, integer, integers_of, line_integers}
use Rattle.cert_text.specs.declared.faults.CertFault.{CertFault}

all_numbers : (ns : List ℤ) → list_any is_no_number (integers ns) ≡ false
all_numbers [] = refl
all_numbers (n ∷ ns) = all_numbers ns

none_too_big : (ns : List ℤ) → list_any is_too_big (integers ns) ≡ false
none_too_big [] = refl
none_too_big (n ∷ ns) = none_too_big ns

all_kept : (ns : List ℤ) → filter_map integer (integers ns) ≡ ns
all_kept [] = refl
all_kept (n ∷ ns) = ap (λ rest. n ∷ rest) (all_kept ns)

integers_kept : (ns : List ℤ) → integers_of (integers ns) ≡ Ok ns
integers_kept ns = search (arith, cond-false, all_numbers, none_too_big, all_kept)

pub integers_taken : (tokens : List (List ℕ)) (ns : List ℤ) → map number_of tokens ≡ integers ns →
    line_integers tokens ≡ Ok ns
integers_taken tokens ns spelled = ap integers_of spelled ∙ integers_kept ns

-- a check that was passed
pub passed : {A : Type 0} (b : Bool) (name : CertFault) (rest : Result A CertFault) (value : A) →
    cond b (Err name) rest ≡ Ok value →
    (b ≡ false) × (rest ≡ Ok value)
passed true name rest value h = cc
passed false name rest value h = (refl, h)

are_integers : (xs : List Number) → list_any is_no_number xs ≡ false → list_any is_too_big xs ≡ false →
    xs ≡ integers (filter_map integer xs)
are_integers [] numbers small = refl
are_integers (NotANumber ∷ xs) numbers small = cc
are_integers (TooBigNumber ∷ xs) numbers small = cc
are_integers (Int n ∷ xs) numbers small = ap (λ rest. Int n ∷ rest) (are_integers xs numbers small)

pub integers_spelled : (tokens : List (List ℕ)) (ns : List ℤ) → line_integers tokens ≡ Ok ns →
    map number_of tokens ≡ integers ns
integers_spelled tokens ns taken = search (arith, passed, are_integers)
