-- A circuit's proof that is judged as its items come.
use Rattle.std.specs.Prelude.{◌≡◌, ℕ, ◌<◌, ◌≤◌, true}
use Rattle.std.specs.List.{All}
use Rattle.dq_lits.specs.Formula.{Dqbf}
use Rattle.circuit_plain.specs.Netlist.{Netlist}
use Rattle.rup_core.specs.Items.{ProofItem}
use Rattle.rup_core.specs.Proving.{run_over}
use Rattle.rup_core.specs.Runs.{Run}
use Rattle.cert_text.specs.CircuitProof.{first_proof_id, is_proof_variable}
use Rattle.cert_text.specs.Grammar.{IsItem}
use Rattle.cert_text.specs.Numbering.{Numbering}
use Rattle.skolem_checker.specs.Checks.{Candidate}
use Rattle.proof_checker.specs.CircuitProof.{negated_candidate}
use Rattle.proof_checker.specs.ClauseLiterals.{AreClauseLiterals}
use Rattle.proof_checker.specs.Tables.{candidate_by}
use Rattle.proof_checker.specs.declared.judging.CircuitProving.{CircuitProving}

-- the formula and the circuit, with the mapping that was kept
abbrev pub judged_candidate : Dqbf → Netlist → CircuitProving → Candidate
judged_candidate f net p = candidate_by f net p.tables

-- the run of the items so far
abbrev pub run_of : Dqbf → Netlist → CircuitProving → Run
run_of f net p = run_over (negated_candidate (judged_candidate f net p)) p.proving

-- items were judged, and these ids come next
pub record IsJudging (f : Dqbf) (net : Netlist) (p : CircuitProving) (at : Numbering) : Type 0 where
  pub literals : AreClauseLiterals f net p.tables.literals.items
  pub first : first_proof_id f net ≤ at.next
  pub ids : (id : ℕ) → at.live id ≡ true → first_proof_id f net ≤ id
  pub above : All (λ line. line.0 < at.next) p.proving.lines

-- an item that may come next
pub record MayJudge (f : Dqbf) (net : Netlist) (p : CircuitProving) (item : ProofItem) : Type 0 where
  pub at : Numbering
  pub judging : IsJudging f net p at
  pub lawful : IsItem (is_proof_variable f net) at item
