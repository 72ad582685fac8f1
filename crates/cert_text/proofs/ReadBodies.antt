-- Reading what stands behind a header.
use Rattle.std.proofs.Common.{◌≡◌, ℕ, ◌+◌, Bool, List, length, Result, Ok, Err, sym, ◌∙◌, ap, subst, arith}
use Rattle.dq_lits.specs.Formula.{Dqbf}
use Rattle.dq_text.specs.Line.{LineCursor, lines_from}
use Rattle.circuit_plain.specs.Netlist.{Netlist}
use Rattle.cert_text.specs.CircuitProof.{first_proof_id, read_proof_lines}
use Rattle.rup_core.specs.Items.{ProofItem}
use Rattle.cert_text.specs.ItemLine.{item_lines}
use Rattle.cert_text.specs.Lines.{Format, IsReading, IsReadingUpTo, LinesRead, and_read, read_from, read_some, read_up_to}
use Rattle.cert_text.specs.Numbering.{Numbering, numbered_from}
use Rattle.cert_text.specs.Pairs.{is_pair_number}
use Rattle.cert_text.specs.Scan.{first_id, blank_lines, read_body, row_lines}
use Rattle.cert_text.specs.Variables.{is_up_to}
use Rattle.cert_text.specs.declared.circuit_proofs.Dqp.{Dqp}
use Rattle.cert_text.specs.declared.faults.CertRefusal.{CertRefusal}
use Rattle.cert_text.specs.declared.faults.CertStop.{CertStop}
use Rattle.cert_text.specs.declared.faults.CertStop.TheVariants.{Refused, Memory}
use Rattle.cert_text.specs.declared.headers.RowsAndItems.{RowsAndItems}
use Rattle.cert_text.specs.declared.headers.ItemCount.{ItemCount}
use Rattle.cert_text.specs.declared.refutations.Dqr.{Dqr}

-- a stop of a part is one of the whole
stop_of : {A B : Type 0} (part : Result (LinesRead A) CertRefusal) (whole : Result B CertRefusal) (stop : CertStop)
    (left : LineCursor) →
    IsReadingUpTo part (Err stop) left → ((fault : CertRefusal) → part ≡ Err fault → whole ≡ Err fault) →
    IsReading whole (Err stop)
stop_of part whole (Refused fault) left is goes = goes fault is
stop_of part whole Memory left is goes = tt

-- the stop is handed on
pub handed_on : {B : Type 0} (whole : Result B CertRefusal) (stop : CertStop) (made : Result B CertStop) →
    IsReading whole (Err stop) → made ≡ Err stop →
    IsReading whole made
handed_on whole stop made is same = subst (IsReading whole) (sym same) is

module _ (f : Dqbf) (c : RowsAndItems) (at : LineCursor) (us : List ℕ) (us_are : us ≡ f.universals) where
  abbrev all : Result Dqr CertRefusal
  all = read_body f c (lines_from at.number at.rest) at.number

  abbrev lines_of : Format Numbering ProofItem
  lines_of = item_lines c.version (is_pair_number f c.rows)

  abbrev behind_items : List (List Bool) → LinesRead ProofItem → Result Dqr CertRefusal
  behind_items rows items = and_read (blank_lines items.rest) (λ _. Ok (record { rows = rows; items = items.items }))

  abbrev behind_rows : LinesRead (List Bool) → Result Dqr CertRefusal
  behind_rows rows = and_read (read_some lines_of (numbered_from (first_id f c.rows)) c.items rows.rest rows.number)
      (behind_items rows.items)

  rows_to_read : all ≡ and_read (read_from (row_lines us) tt c.rows at) behind_rows
  rows_to_read = ap (λ xs. and_read (read_from (row_lines xs) tt c.rows at) behind_rows) (sym us_are)

  pub rows_stop : (stop : CertStop) (left : LineCursor) → IsReadingUpTo (read_from (row_lines us) tt c.rows at)
      (Err stop) left → IsReading all (Err stop)
  rows_stop stop left is = search (arith, stop_of, rows_to_read)

  module _ (rows : List (List Bool)) (mid : LineCursor) (rows_are : read_from (row_lines us) tt c.rows at ≡ Ok
      (read_up_to rows mid)) (id : ℕ)
      (id_is : id ≡ first_id f c.rows) where
    items_to_read : all ≡ and_read (read_from lines_of (numbered_from id) c.items mid) (behind_items rows)
    items_to_read = search (arith, rows_to_read)

    pub items_stop : (stop : CertStop) (left : LineCursor) →
        IsReadingUpTo (read_from lines_of (numbered_from id) c.items mid) (Err stop) left → IsReading all (Err stop)
    items_stop stop left is = search (arith, stop_of, items_to_read)

    pub whole : (items : List ProofItem) (end : LineCursor) →
        read_from lines_of (numbered_from id) c.items mid ≡ Ok (read_up_to items end) →
        Ok tt ≡ blank_lines (lines_from end.number end.rest) → all ≡ Ok (record { rows = rows; items = items })
    whole items end is blank = search (arith, items_to_read)

-- the same of a circuit's proof
module _ (f : Dqbf) (net : Netlist) (count : ItemCount) (at : LineCursor) (last : ℕ)
    (last_is : last ≡ net.max_var + length f.matrix) (id : ℕ)
    (id_is : id ≡ first_proof_id f net) where
  abbrev proof : Result Dqp CertRefusal
  proof = read_proof_lines f net count (lines_from at.number at.rest) at.number

  abbrev made : LinesRead ProofItem → Result Dqp CertRefusal
  made items = Ok (record { items = items.items })

  proof_to_read : proof ≡ and_read (read_from (item_lines count.version (is_up_to last))
      (numbered_from id) count.items at) made
  proof_to_read = search arith

  pub proof_stop : (stop : CertStop) (left : LineCursor) →
      IsReadingUpTo (read_from (item_lines count.version (is_up_to last)) (numbered_from id) count.items at)
      (Err stop) left → IsReading proof (Err stop)
  proof_stop stop left is = stop_of _ proof stop left is (λ fault part. proof_to_read ∙ ap (λ r. and_read r made) part)

  pub whole_proof : (items : List ProofItem) (end : LineCursor) →
      read_from (item_lines count.version (is_up_to last)) (numbered_from id) count.items at ≡ Ok
      (read_up_to items end) →
      proof ≡ Ok (record { items = items })
  whole_proof items end is = proof_to_read ∙ ap (λ r. and_read r made) is
