-- The comment's mark, where the file names only what it defines and has no cycle.
use Rattle.std.proofs.Common.{◌≡◌, ℕ, List, Option, None, Some, Ok, arith}
use Rattle.aiger_text.specs.Scan.{Body, IsAagReading, checked_file, finish, undefined_line, unless_undefined}
use Rattle.aiger_text.specs.Steps.{EndsAtMark}
use Rattle.aiger_text.specs.declared.files.AagFile.{AagFile}
use Rattle.aiger_text.specs.declared.reader.Taken.TheVariants.{CommentMark}
use Rattle.aiger_text.specs.AagLinesInside.{TakesBehind}
use Rattle.aiger_text.specs.CircuitLines.{IsWhole}

abbrev file_of : Body → AagFile
file_of b = record { circuit = b.netlist; symbols = b.symbols; comment = None }

whole : (h : ℕ) (b : Body) (u : Option ℕ) → undefined_line b ≡ u →
    IsAagReading h (unless_undefined u (file_of b)) (Ok (file_of b)) → IsWhole b
whole h b None is read = record { defined = is; grounded = read.1 }
whole h b (Some line) is read = absurd read

pub mark_taken : (old new : Body) (number : ℕ) (text : List ℕ) → EndsAtMark old text new →
    IsAagReading new.header_line (finish new None) (checked_file new None (Ok tt)) →
    TakesBehind old number text (Ok CommentMark) new
mark_taken old new number text mark checked = search arith
