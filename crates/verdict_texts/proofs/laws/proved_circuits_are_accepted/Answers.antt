use Rattle.verdict_texts.proofs.AcceptedCircuits.{circuits_accepted}
use Rattle.verdict_texts.proofs.laws.proved_circuits_are_accepted.Goals as goal

pub returns : goal.returns
returns c = circuits_accepted c.canonical_text_spells.ensures.spells c.binary_text_spells.ensures.spells
    (λ text first read. (c.binary_circuit_or_first_fault.ensures text first read).0)
    c.canonical_proof_spells.ensures.reads_back
    c.deletions_change_no_fault.ensures c.deletions_are_allowed.ensures c.ordered_proofs_stand.ensures
    c.ordered_lines_are_numbered.ensures c.ordered_files_are_binary.ensures
