-- The first fault of the text of a circuit's proof, line by line, or the proof: this project's own
-- format.
use Rattle.std.specs.Prelude.{ℕ, ◌+◌, Bool, List, [], ◌∷◌, length, Result, Ok, Err}
use Rattle.dq_lits.specs.Formula.{Dqbf}
use Rattle.dq_text.specs.Line.{TextLine, line_tokens, lines_from}
use Rattle.circuit_plain.specs.Netlist.{Netlist}
use Rattle.cert_text.specs.Header.{proof_header}
use Rattle.cert_text.specs.ItemLine.{item_lines}
use Rattle.cert_text.specs.Kind.{refusal}
use Rattle.cert_text.specs.Lines.{and_read, at_line, read_some}
use Rattle.cert_text.specs.NegatedMatrix.{negated_clause_count}
use Rattle.cert_text.specs.Numbering.{numbered_from}
use Rattle.cert_text.specs.Variables.{is_up_to}
use Rattle.cert_text.specs.declared.circuit_proofs.Dqp.{Dqp}
use Rattle.cert_text.specs.declared.faults.CertFault.TheVariants.{BadHeader}
use Rattle.cert_text.specs.declared.faults.CertRefusal.{CertRefusal}
use Rattle.cert_text.specs.declared.headers.ItemCount.{ItemCount}

-- the circuit's variables, and one for each clause
abbrev pub is_proof_variable : Dqbf → Netlist → ℕ → Bool
is_proof_variable f net = is_up_to (net.max_var + length f.matrix)

-- the negated matrix has the ids before the first line's
abbrev pub first_proof_id : Dqbf → Netlist → ℕ
first_proof_id f net = negated_clause_count f net + 1

-- the items behind the header
abbrev pub read_proof_lines : Dqbf → Netlist → ItemCount → List TextLine → ℕ
    → Result Dqp CertRefusal
read_proof_lines f net count lines number =
    and_read
    (read_some (item_lines count.version (is_proof_variable f net))
    (numbered_from (first_proof_id f net)) count.items lines number) (λ items.
    Ok (record { items = items.items }))

abbrev pub read_proof : Dqbf → Netlist → List TextLine → ℕ → Result Dqp CertRefusal
read_proof f net [] number = Err (refusal number BadHeader)
read_proof f net (line ∷ lines) number =
    and_read (at_line line.number (proof_header (line_tokens line.text)))
    (λ count. read_proof_lines f net count lines (line.number + 1))

-- a proof over a formula and a circuit, or the first fault of its text, whose first line has this
-- number; what stands behind the last item is free text
abbrev pub circuit_proof_of : Dqbf → Netlist → List ℕ → ℕ → Result Dqp CertRefusal
circuit_proof_of f net bytes first = read_proof f net (lines_from first bytes) first
