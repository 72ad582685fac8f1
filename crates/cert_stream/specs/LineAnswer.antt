-- What a reader answers to a line, and what becomes of it.
use Rattle.std.specs.Prelude.{◌≡◌, ℕ, Result, Ok, Err}
use Rattle.cert_text.specs.declared.faults.CertFault.{CertFault}
use Rattle.cert_text.specs.declared.faults.CertStop.{CertStop}
use Rattle.cert_text.specs.declared.faults.CertStop.TheVariants.{Refused, Memory}

-- the reader behind the line, or the fault of the line with this number, or want of memory
abbrev pub IsLineAnswer : {R : Type 0} → Result R CertFault → ℕ → Result (Unit {0}) CertStop → R
    → Type 0
IsLineAnswer read number (Ok _) new = read ≡ Ok new
IsLineAnswer read number (Err (Refused fault)) new =
    (read ≡ Err fault.name) × (fault.line ≡ number)
IsLineAnswer read number (Err Memory) new = Unit {0}
