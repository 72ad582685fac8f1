-- The first fault of a refutation's text, line by line, or the refutation: this project's own
-- format.
use Rattle.std.specs.Prelude.{ℕ, ◌+◌, ◌*◌, Bool, List, [], ◌∷◌, length, Result, Ok, Err, if◌then◌else◌}
use Rattle.dq_lits.specs.Formula.{Dqbf}
use Rattle.dq_text.specs.BlankLine.{is_blank_line}
use Rattle.dq_text.specs.Line.{TextLine, line_tokens, lines_from}
use Rattle.cert_text.specs.Header.{header_of}
use Rattle.cert_text.specs.ItemLine.{item_lines}
use Rattle.cert_text.specs.Kind.{refusal}
use Rattle.cert_text.specs.Lines.{Format, and_read, at_line, read_some}
use Rattle.cert_text.specs.Numbering.{numbered_from}
use Rattle.cert_text.specs.Pairs.{is_pair_number}
use Rattle.cert_text.specs.RowLine.{row_line}
use Rattle.cert_text.specs.declared.faults.CertFault.TheVariants.{BadHeader, BadLine}
use Rattle.cert_text.specs.declared.faults.CertRefusal.{CertRefusal}
use Rattle.cert_text.specs.declared.headers.RowsAndItems.{RowsAndItems}
use Rattle.cert_text.specs.declared.refutations.Dqr.{Dqr}

-- the instances of the clauses have the ids before the first line's
abbrev pub first_id : Dqbf → ℕ → ℕ
first_id f rows = rows * length f.matrix + 1

-- only lines of blanks
abbrev pub blank_lines : List TextLine → Result (Unit {0}) CertRefusal
blank_lines [] = Ok tt
blank_lines (line ∷ lines) =
    if is_blank_line line.text then blank_lines lines else Err (refusal line.number BadLine)

-- row lines over these universals
abbrev pub row_lines : List ℕ → Format (Unit {0}) (List Bool)
row_lines universals = record { line = λ _. row_line universals; behind = λ at _. at }

-- the rows, the items of the proof, and nothing behind them
abbrev pub read_body : Dqbf → RowsAndItems → List TextLine → ℕ → Result Dqr CertRefusal
read_body f counts lines number =
    and_read (read_some (row_lines f.universals) tt counts.rows lines number) (λ rows.
    and_read
    (read_some (item_lines counts.version (is_pair_number f counts.rows))
    (numbered_from (first_id f counts.rows)) counts.items rows.rest rows.number) (λ items.
    and_read (blank_lines items.rest)
    (λ _. Ok (record { rows = rows.items; items = items.items }))))

abbrev pub read_lines : Dqbf → List TextLine → ℕ → Result Dqr CertRefusal
read_lines f [] number = Err (refusal number BadHeader)
read_lines f (line ∷ lines) number =
    and_read (at_line line.number (header_of (line_tokens line.text)))
    (λ counts. read_body f counts lines (line.number + 1))

-- a refutation for a formula, or the first fault of its text, whose first line has this number
abbrev pub refutation_of : Dqbf → List ℕ → ℕ → Result Dqr CertRefusal
refutation_of f bytes first = read_lines f (lines_from first bytes) first
