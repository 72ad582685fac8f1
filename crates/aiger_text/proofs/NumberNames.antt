-- A number is a name.
use Rattle.std.proofs.Common.{◌≡◌, ◌≤◌, ◌<◌, ◌^◌, ◌==◌, ℕ, List, [], ◌∷◌, refl, arith}
use Rattle.std.specs.Fmt.{decimal}
use Rattle.std.proofs.lemmas.Bool.{ne_eqb, cond-false}
use Rattle.std.proofs.lemmas.List.Elements.{All-from_recursion}
use Rattle.dq_text.proofs.LineWords.{natural_is_word, word_no_feed}
use Rattle.dq_text.proofs.Numerals.{AreDigits, tells, decimal_digits}
use Rattle.aiger_text.specs.Lines.{keep_byte, without_end_crs}
use Rattle.aiger_text.specs.Spellable.{IsName}

digit_kept : (d : ℕ) (ds : List ℕ) → 48 ≤ d → keep_byte d ds ≡ d ∷ ds
digit_kept d [] digit = cond-false (d == 13) [] (d ∷ []) (ne_eqb d 13 (λ same. omega (arith, same, digit)))
digit_kept d (next ∷ ds) digit = refl

digits_kept : (ds : List ℕ) → AreDigits ds → without_end_crs ds ≡ ds
digits_kept [] are = refl
digits_kept (d ∷ ds) are = search (arith, tells, (digits_kept ds), digit_kept)

pub number_is_name : (n : ℕ) → n < 10 ^ 18 → IsName (decimal n)
number_is_name n small =
    search (arith, (decimal_digits n small), All-from_recursion, word_no_feed, (natural_is_word n small), digits_kept)
