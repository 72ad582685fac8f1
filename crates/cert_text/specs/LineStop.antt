-- What a function that reads a line answers.
use Rattle.std.specs.Prelude.{◌≡◌, ℕ, Result, Ok, Err}
use Rattle.cert_text.specs.Kind.{refusal}
use Rattle.cert_text.specs.declared.faults.CertFault.{CertFault}
use Rattle.cert_text.specs.declared.faults.CertStop.{CertStop}
use Rattle.cert_text.specs.declared.faults.CertStop.TheVariants.{Refused, Memory as NoMemory}
use Rattle.cert_text.specs.declared.faults.LineStop.{LineStop}
use Rattle.cert_text.specs.declared.faults.LineStop.TheVariants.{Fault, Memory}

-- the value of the line, or its fault, or want of memory
abbrev pub IsLineOf : {T : Type 0} → Result T CertFault → Result T LineStop → Type 0
IsLineOf line (Ok value) = line ≡ Ok value
IsLineOf line (Err (Fault name)) = line ≡ Err name
IsLineOf line (Err Memory) = Unit {0}

-- the same where the value is left in `made`
abbrev pub IsMadeOf : {T : Type 0} → Result T CertFault → Result (Unit {0}) LineStop → T → Type 0
IsMadeOf line (Ok _) made = line ≡ Ok made
IsMadeOf line (Err (Fault name)) made = line ≡ Err name
IsMadeOf line (Err Memory) made = Unit {0}

-- what is made of a value, if there is one
abbrev pub and_then : {A B : Type 0} → (A → Result B CertFault) → Result A CertFault
    → Result B CertFault
and_then make (Ok value) = make value
and_then make (Err name) = Err name

-- the line's stop as one of the text
abbrev pub StopsAt : ℕ → LineStop → CertStop → Type 0
StopsAt line (Fault name) stop = stop ≡ Refused (refusal line name)
StopsAt line Memory stop = stop ≡ NoMemory
