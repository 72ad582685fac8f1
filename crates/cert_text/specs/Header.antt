-- The header lines of refutations and of circuits' proofs, in this project's own formats: `p dqr`
-- and two counts, `dqp` and one. In version 2, whose words end with a 2, lines may be deleted.
use Rattle.std.specs.Prelude.{ℕ, nat_lt, ◌||◌, List, [], ◌∷◌, Option, None, Some, Result, Ok, Err, codes, if◌then◌else◌}
use Rattle.std.specs.Str.{bytes_eq}
use Rattle.dq_text.specs.Number.{natural_of}
use Rattle.cert_text.specs.declared.faults.CertFault.{CertFault}
use Rattle.cert_text.specs.declared.faults.CertFault.TheVariants.{BadHeader, TooBig}
use Rattle.cert_text.specs.declared.headers.RowsAndItems.{RowsAndItems}
use Rattle.cert_text.specs.declared.headers.ItemCount.{ItemCount}
use Rattle.cert_text.specs.declared.versions.Version.{Version}
use Rattle.cert_text.specs.declared.versions.Version.TheVariants.{One, Two}

abbrev pub max_count : ℕ
max_count = 1000000000

abbrev pub refutation_word : Version → List ℕ
refutation_word One = codes "dqr"
refutation_word Two = codes "dqr2"

abbrev pub proof_word : Version → List ℕ
proof_word One = codes "dqp"
proof_word Two = codes "dqp2"

-- the version whose word it is
abbrev pub version_of : (Version → List ℕ) → List ℕ → Option Version
version_of word_of word =
    if bytes_eq word (word_of One) then Some One else
    if bytes_eq word (word_of Two) then Some Two else None

abbrev pub counts_of : Option Version → Option ℕ → Option ℕ → Result RowsAndItems CertFault
counts_of None _ _ = Err BadHeader
counts_of (Some _) None _ = Err BadHeader
counts_of (Some _) (Some _) None = Err BadHeader
counts_of (Some version) (Some rows) (Some items) =
    if nat_lt max_count rows || nat_lt max_count items then Err TooBig
    else Ok (record { version = version; rows = rows; items = items })

-- `p`, `dqr` or `dqr2`, how many rows, how many lines of a proof
abbrev pub header_of : List (List ℕ) → Result RowsAndItems CertFault
header_of (letter ∷ word ∷ rows ∷ items ∷ []) =
    if bytes_eq letter (codes "p")
    then counts_of (version_of refutation_word word) (natural_of rows) (natural_of items)
    else Err BadHeader
header_of _ = Err BadHeader

abbrev pub count_of : Option Version → Option ℕ → Result ItemCount CertFault
count_of None _ = Err BadHeader
count_of (Some _) None = Err BadHeader
count_of (Some version) (Some items) =
    if nat_lt max_count items then Err TooBig
    else Ok (record { version = version; items = items })

-- `dqp` or `dqp2`, how many lines of a proof
abbrev pub proof_header : List (List ℕ) → Result ItemCount CertFault
proof_header (word ∷ items ∷ []) = count_of (version_of proof_word word) (natural_of items)
proof_header _ = Err BadHeader
