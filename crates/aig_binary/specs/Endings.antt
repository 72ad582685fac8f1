-- What the reading of the lines behind the gates answers, words of private contracts.
use Rattle.std.specs.Prelude.{◌≡◌, Option, None, Some, Result, Ok, Err}
use Rattle.aiger_text.specs.Scan.{LineFault}
use Rattle.aiger_text.specs.Symbol.{SymbolTable}
use Rattle.aiger_text.specs.declared.faults.AagStop.{AagStop}
use Rattle.aiger_text.specs.declared.faults.AagStop.TheVariants.{Refused, Memory}
use Rattle.aig_binary.specs.Scan.{Ending}
use Rattle.aig_binary.specs.declared.endings.Comment.{Comment}

-- the symbols, and the comment that was found
abbrev pub ending_of : SymbolTable → Option Comment → Ending
ending_of table None = record { symbols = table; comment = None; comment_line = None }
ending_of table (Some found) =
    record { symbols = table; comment = Some found.bytes.now; comment_line = Some found.line }

-- the ending, or its fault, or want of memory
abbrev pub IsEndingOf : Result Ending LineFault → Result (Option Comment) AagStop → SymbolTable
    → Type 0
IsEndingOf read (Ok found) table = read ≡ Ok (ending_of table found)
IsEndingOf read (Err (Refused line name)) table = read ≡ Err (record { line = line; name = name })
IsEndingOf read (Err Memory) table = Unit {0}
