use Rattle.std.proofs.Common.{◌≡◌, map, subst, sym, None}
use Rattle.rup_core.specs.Items.{derived}
use Rattle.proof_checker.specs.CircuitProof.{circuit_proof_fault}
use Rattle.proof_checker.specs.ProvedCircuit.{IsProvedCircuit}
use Rattle.skolem_checker.specs.Checks.{Candidate}
use Rattle.cert_export.specs.CircuitPart.{exported_candidate, exported_netlist}
use Rattle.cert_export.specs.ExportedCircuit.{number_symbols, proof_steps}
use Rattle.cert_export.proofs.ExportedAnswers.{exported_answer_is_accepted}
use Rattle.cert_export.proofs.ExportedCircuits.{exported_circuit_is_complete, exported_circuit_is_netlist, exported_circuit_reads_seen}
use Rattle.cert_export.proofs.SpellableCircuits.{written_symbols_are_numbers}
use Rattle.cert_export.proofs.MappedSymbols.{same_candidate}
use Rattle.cert_export.proofs.laws.exported_answer_is_proved.Goals as goal

pub returns : goal.returns
returns c f entries id e ids r file proof well lawful given rests lemmas x are names small variables circuit
    symbols lines =
    let mapped = c.exported_symbols_map.ensures f entries e (number_symbols f) well.prefix variables
    (written_symbols_are_numbers f) in
    let net = exported_netlist f entries e in
    let items = map derived (proof_steps f entries e ids r) in
    let accepted = exported_answer_is_accepted f entries id e ids r well lawful given rests lemmas x are names in
    let reads = exported_circuit_reads_seen f entries e well lawful given x.part x.reads in
    let skolem = c.proved_circuit_is_skolem.ensures (exported_candidate f entries e) (number_symbols f) items well
    (exported_circuit_is_netlist f entries e lawful given x.part small)
    (exported_circuit_is_complete f entries e lawful given x.part) mapped reads accepted in
    let made : IsProvedCircuit f (record { circuit = net; symbols = number_symbols f; comment = file.comment })
    (record { items = items }) = record {
      netlist = exported_circuit_is_netlist f entries e lawful given x.part small;
      complete = exported_circuit_is_complete f entries e lawful given x.part;
      skolem = skolem;
      derives = subst (λ (k : Candidate). circuit_proof_fault k items ≡ None)
          (same_candidate f net (number_symbols f) skolem.mapping (exported_candidate f entries e) skolem.maps mapped)
          accepted;
    } in
    let with_circuit = subst (λ n. IsProvedCircuit f (record
    { circuit = n; symbols = number_symbols f; comment = file.comment }) (record { items = items }))
    (sym circuit) made in
    let with_symbols = subst (λ s. IsProvedCircuit f (record
    { circuit = file.circuit; symbols = s; comment = file.comment }) (record { items = items }))
    (sym symbols) with_circuit in
    subst (λ xs. IsProvedCircuit f (record { circuit = file.circuit; symbols = file.symbols; comment = file.comment })
    (record { items = xs })) (sym lines) with_symbols
