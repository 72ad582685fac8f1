-- A row line of a refutation: `u`, each universal once in the formula's order with its sign, and 0.
use Rattle.std.specs.Prelude.{ℕ, ℤ, nat_abs, Bool, List, [], ◌∷◌, ◌++◌, map, take, length, Result, Ok, Err, codes, if◌then◌else◌}
use Rattle.std.specs.Int.{is_positive}
use Rattle.std.specs.Str.{bytes_eq, bytes_eq as same_numbers}
use Rattle.cert_text.specs.LineStop.{and_then}
use Rattle.cert_text.specs.Numbers.{line_integers}
use Rattle.cert_text.specs.declared.faults.CertFault.{CertFault}
use Rattle.cert_text.specs.declared.faults.CertFault.TheVariants.{BadLine, RowIncomplete}

-- the numbers are the universals with signs, and 0 behind them; the bit of a universal is its sign
abbrev pub row_of : List ℕ → List ℤ → Result (List Bool) CertFault
row_of universals ns =
    if same_numbers (map nat_abs ns) (universals ++ 0 ∷ [])
    then Ok (map is_positive (take (length universals) ns)) else Err RowIncomplete

abbrev pub row_line : List ℕ → List (List ℕ) → Result (List Bool) CertFault
row_line universals [] = Err BadLine
row_line universals (letter ∷ tokens) =
    if bytes_eq letter (codes "u") then and_then (row_of universals) (line_integers tokens)
    else Err BadLine
