-- The numbers of a certificate's line.
use Rattle.std.specs.Prelude.{ℕ, ℤ, Bool, true, false, List, map, Option, None, Some, Result, Ok, Err, if◌then◌else◌}
use Rattle.std.specs.List.{filter_map, list_any}
use Rattle.dq_text.specs.Number.{number_of}
use Rattle.dq_text.specs.declared.numbers.Number.{Number}
use Rattle.dq_text.specs.declared.numbers.Number.TheVariants.{Int, NotANumber, TooBig as TooBigNumber}
use Rattle.cert_text.specs.declared.faults.CertFault.{CertFault}
use Rattle.cert_text.specs.declared.faults.CertFault.TheVariants.{BadLine, TooBig}

abbrev pub is_no_number : Number → Bool
is_no_number NotANumber = true
is_no_number TooBigNumber = false
is_no_number (Int _) = false

abbrev pub is_too_big : Number → Bool
is_too_big NotANumber = false
is_too_big TooBigNumber = true
is_too_big (Int _) = false

abbrev pub integer : Number → Option ℤ
integer NotANumber = None
integer TooBigNumber = None
integer (Int n) = Some n

-- all of them, if each is a number below 10^18
abbrev pub integers_of : List Number → Result (List ℤ) CertFault
integers_of ns =
    if list_any is_no_number ns then Err BadLine else
    if list_any is_too_big ns then Err TooBig else
    Ok (filter_map integer ns)

abbrev pub line_integers : List (List ℕ) → Result (List ℤ) CertFault
line_integers tokens = integers_of (map number_of tokens)
