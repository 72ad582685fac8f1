-- Row lines, as their reader takes them and as the grammar spells them.
use Rattle.std.proofs.Common.{◌≡◌, ℕ, zero, suc, ◌≤◌, ℤ, pos, negsuc, neg_ℤ, nat_abs, Bool, true, false, cond, List, [], ◌∷◌, ◌++◌, map, take, length, Result, Ok, Err, codes, refl, sym, ◌∙◌, ap, ap₂, arith, subst}
use Rattle.std.specs.Int.{is_positive}
use Rattle.std.specs.List.{AllByRecursion}
use Rattle.std.specs.Str.{bytes_eq}
use Rattle.std.proofs.lemmas.Bool.{lt-ltb}
use Rattle.std.proofs.lemmas.Slice.Eq.{bytes_eq-Decides}
use Rattle.cert_text.specs.Grammar.{Tokens, integers, signed, row_numbers, SpellsRow}
use Rattle.cert_text.specs.LineStop.{and_then}
use Rattle.cert_text.specs.Numbers.{line_integers}
use Rattle.cert_text.specs.RowLine.{row_of, row_line}
use Rattle.cert_text.specs.declared.faults.CertFault.{CertFault}
use Rattle.cert_text.specs.declared.faults.CertFault.TheVariants.{BadLine, RowIncomplete}
use Rattle.cert_text.proofs.Integers.{integers_taken, integers_spelled}

magnitude : (b : Bool) (x : ℕ) → nat_abs (signed b x) ≡ x
magnitude true x = refl
magnitude false zero = refl
magnitude false (suc x) = refl

magnitudes : (us : List ℕ) (row : List Bool) → length row ≡ length us → map nat_abs (row_numbers us row) ≡ us ++ 0 ∷ []
magnitudes [] [] whole = refl
magnitudes [] (b ∷ row) whole = absurd (omega (arith, whole))
magnitudes (x ∷ us) [] whole = absurd (omega (arith, whole))
magnitudes (x ∷ us) (b ∷ row) whole = ap₂ (λ n ns. n ∷ ns) (magnitude b x) (magnitudes us row (omega (arith, whole)))

abbrev pub ArePositive : List ℕ → Type 0
ArePositive us = AllByRecursion (λ x. 1 ≤ x) us

pub positive_is : (n : ℕ) → is_positive (pos (suc n)) ≡ true
positive_is n = lt-ltb 0 (suc n) (omega arith)

sign : (b : Bool) (x : ℕ) → 1 ≤ x → is_positive (signed b x) ≡ b
sign b zero some = absurd (omega (arith, some))
sign true (suc x) some = positive_is x
sign false (suc x) some = refl

signs : (us : List ℕ) (row : List Bool) → ArePositive us → length row ≡ length us →
    map is_positive (take (length us) (row_numbers us row)) ≡ row
signs [] [] some whole = refl
signs [] (b ∷ row) some whole = absurd (omega (arith, whole))
signs (x ∷ us) [] some whole = absurd (omega (arith, whole))
signs (x ∷ us) (b ∷ row) some whole = search (arith, sign, (signs us row some.1))

pub chosen : (b : Bool) (row : List Bool) → b ≡ true → cond b (Ok row) (Err RowIncomplete) ≡ Ok row
chosen true row h = refl
chosen false row h = cc

row_kept : (us : List ℕ) (row : List Bool) → ArePositive us → length row ≡ length us →
    row_of us (row_numbers us row) ≡ Ok row
row_kept us row some whole = search (arith, chosen, nat_abs, bytes_eq-Decides, magnitudes, signs)

pub row_taken : (us : List ℕ) (tokens : Tokens) (row : List Bool) → SpellsRow us tokens row → ArePositive us →
    length row ≡ length us →
    row_line us tokens ≡ Ok row
row_taken us tokens row spelled some whole = search (arith, integers_taken, row_kept)

-- the numbers are those of a row
pub record IsRow (us : List ℕ) (ns : List ℤ) (row : List Bool) : Type 0 where
  pub numbers : ns ≡ row_numbers us row
  pub whole : length row ≡ length us

pub zero_is : (n : ℤ) → nat_abs n ≡ 0 → n ≡ pos 0
zero_is (pos n) h = ap pos h
zero_is (negsuc n) h = absurd (omega (arith, h))

signed_is : (n : ℤ) (x : ℕ) → nat_abs n ≡ x → n ≡ signed (is_positive n) x
signed_is (pos zero) zero h = refl
signed_is (pos zero) (suc x) h = absurd (omega (arith, h))
signed_is (pos (suc n)) x h = ap pos h ∙ ap (λ b. signed b x) (sym (positive_is n))
signed_is (negsuc n) x h = ap (λ k. neg_ℤ (pos k)) h

row_named : (us : List ℕ) (ns : List ℤ) → map nat_abs ns ≡ us ++ 0 ∷ [] →
    IsRow us ns (map is_positive (take (length us) ns))
row_named [] [] h = cc
row_named [] (n ∷ []) h = search (arith, nat_abs, zero_is)
row_named [] (n ∷ m ∷ ns) h = cc
row_named (x ∷ us) [] h = cc
row_named (x ∷ us) (n ∷ ns) h = search (arith, nat_abs, signed_is, (row_named us ns))

named : (b : Bool) (row made : List Bool) → cond b (Ok made) (Err RowIncomplete) ≡ Ok row → (b ≡ true) × (made ≡ row)
named true row made h = let is : made ≡ row = cc in (refl, is)
named false row made h = cc

pub row_read : (us : List ℕ) (ns : List ℤ) (row : List Bool) → row_of us ns ≡ Ok row → IsRow us ns row
row_read us ns row h =
    let parts = named (bytes_eq (map nat_abs ns) (us ++ 0 ∷ [])) row (map is_positive (take (length us) ns)) h in
    subst (IsRow us ns) parts.1 (row_named us ns ((bytes_eq-Decides (map nat_abs ns) (us ++ 0 ∷ [])).0 parts.0))

pub record IsRowLine (us : List ℕ) (tokens : Tokens) (row : List Bool) : Type 0 where
  pub spelled : SpellsRow us tokens row
  pub whole : length row ≡ length us

behind_letter : (us : List ℕ) (tokens : Tokens) (taken : Result (List ℤ) CertFault) (row : List Bool) →
    line_integers tokens ≡ taken →
    and_then (row_of us) taken ≡ Ok row → IsRowLine us (codes "u" ∷ tokens) row
behind_letter us tokens (Err name) row is h = cc
behind_letter us tokens (Ok ns) row is h =
    let r = row_read us ns row h in
    record {
      spelled = record {
        rest = tokens;
        letter = refl;
        numbers =
            integers_spelled tokens ns is ∙ ap integers r.numbers;
      };
      whole = r.whole;
    }

pub lettered : (b : Bool) (r : Result (List Bool) CertFault) (row : List Bool) → cond b r (Err BadLine) ≡ Ok row →
    (b ≡ true) × (r ≡ Ok row)
lettered true r row h = (refl, h)
lettered false r row h = cc

pub row_spelled : (us : List ℕ) (tokens : Tokens) (row : List Bool) → row_line us tokens ≡ Ok row →
    IsRowLine us tokens row
row_spelled us [] row h = cc
row_spelled us (letter ∷ tokens) row h =
    let parts = lettered (bytes_eq letter (codes "u")) (and_then (row_of us) (line_integers tokens)) row h in
    let is = (bytes_eq-Decides letter (codes "u")).0 parts.0 in
    subst (λ l. IsRowLine us (l ∷ tokens) row) (sym is) (behind_letter us tokens
    (line_integers tokens) row refl parts.1)
