-- Reading a text line by line, to its value or its first fault.
use Rattle.std.specs.Prelude.{◌≡◌, ℕ, zero, suc, ◌+◌, List, [], ◌∷◌, ◌++◌, Result, Ok, Err}
use Rattle.dq_text.specs.Line.{TextLine, LineCursor, line_tokens, lines_from}
use Rattle.cert_text.specs.Kind.{refusal}
use Rattle.cert_text.specs.declared.faults.CertFault.{CertFault}
use Rattle.cert_text.specs.declared.faults.CertFault.TheVariants.{Truncated}
use Rattle.cert_text.specs.declared.faults.CertRefusal.{CertRefusal}
use Rattle.cert_text.specs.declared.faults.CertStop.{CertStop}
use Rattle.cert_text.specs.declared.faults.CertStop.TheVariants.{Refused, Memory}

-- what is read behind something, unless that is at fault
abbrev pub and_read : {A B : Type 0} → Result A CertRefusal → (A → Result B CertRefusal)
    → Result B CertRefusal
and_read (Ok value) next = next value
and_read (Err fault) next = Err fault

-- what is read of a line with this number
abbrev pub at_line : {A : Type 0} → ℕ → Result A CertFault → Result A CertRefusal
at_line number (Ok value) = Ok value
at_line number (Err name) = Err (refusal number name)

-- what several lines have, and the lines behind them, of which the first has this number
pub record LinesRead (A : Type 0) : Type 0 where
  pub items : List A
  pub rest : List TextLine
  pub number : ℕ

abbrev pub with_item : {A : Type 0} → A → LinesRead A → Result (LinesRead A) CertRefusal
with_item item read = Ok (record read { items = item ∷ read.items })

-- what lines are read as: what a line has, by what stands before it, and what stands before the
-- next one
pub record Format (S A : Type 0) : Type 0 where
  pub line : S → List (List ℕ) → Result A CertFault
  pub behind : S → A → S

-- so many lines, where `at` stands before the first one; a missing one would have the number
abbrev pub read_some : {S A : Type 0} → Format S A → S → ℕ → List TextLine → ℕ
    → Result (LinesRead A) CertRefusal
read_some F at zero lines number = Ok (record { items = []; rest = lines; number = number })
read_some F at (suc count) [] number = Err (refusal number Truncated)
read_some F at (suc count) (line ∷ lines) number =
    and_read (at_line line.number (F.line at (line_tokens line.text)))
    (λ item.
    and_read (read_some F (F.behind at item) count lines (line.number + 1)) (with_item item))

-- the lines of the bytes that are left
abbrev pub read_from : {S A : Type 0} → Format S A → S → ℕ → LineCursor
    → Result (LinesRead A) CertRefusal
read_from F at count left = read_some F at count (lines_from left.number left.rest) left.number

-- this was read, and these bytes are left
abbrev pub read_up_to : {A : Type 0} → List A → LineCursor → LinesRead A
read_up_to items left =
    record { items = items; rest = lines_from left.number left.rest; number = left.number }

-- the same behind what was read before
abbrev pub put_behind : {A : Type 0} → List A → Result (LinesRead A) CertRefusal
    → Result (LinesRead A) CertRefusal
put_behind before read = and_read read (λ r. Ok (record r { items = before ++ r.items }))

-- the value, or the first fault, or want of memory
abbrev pub IsReading : {A : Type 0} → Result A CertRefusal → Result A CertStop → Type 0
IsReading read (Ok value) = read ≡ Ok value
IsReading read (Err (Refused fault)) = read ≡ Err fault
IsReading read (Err Memory) = Unit {0}

-- the same, where these bytes are left
abbrev pub IsReadingUpTo : {A : Type 0} → Result (LinesRead A) CertRefusal
    → Result (List A) CertStop → LineCursor → Type 0
IsReadingUpTo read (Ok items) left = read ≡ Ok (read_up_to items left)
IsReadingUpTo read (Err (Refused fault)) left = read ≡ Err fault
IsReadingUpTo read (Err Memory) left = Unit {0}

-- the same, where the items are left in `made`
abbrev pub IsReadInto : {A : Type 0} → Result (LinesRead A) CertRefusal → Result (Unit {0}) CertStop
    → List A → LineCursor → Type 0
IsReadInto read (Ok _) made left = read ≡ Ok (read_up_to made left)
IsReadInto read (Err (Refused fault)) made left = read ≡ Err fault
IsReadInto read (Err Memory) made left = Unit {0}
