use Rattle.std.proofs.Common.{◌≡◌, ◌⊎◌, inl, inr, ℕ, List, Result, Ok, Err, refl, sym, ◌∙◌}
use Rattle.dq_lits.specs.Formula.{Dqbf}
use Rattle.circuit_plain.specs.Netlist.{Netlist}
use Rattle.cert_text.specs.CircuitProof.{circuit_proof_of}
use Rattle.cert_text.specs.ProofGrammar.{SpellsProof}
use Rattle.cert_text.specs.declared.circuit_proofs.Dqp.{Dqp}
use Rattle.cert_text.specs.declared.faults.CertRefusal.{CertRefusal}
use Rattle.cert_text.proofs.SpelledProofs.{spelled_is_read, read_is_spelled}
use Rattle.cert_text.proofs.laws.proof_or_first_fault.Goals as goal

pub returns-clause-exact : goal.returns-clause-exact
returns-clause-exact c text first f net d = (spelled_is_read text first f net d, read_is_spelled text first f net d)

pub returns-clause-unique : goal.returns-clause-unique
returns-clause-unique c text f net d e one other =
    let same : Ok d ≡ Ok e = sym (spelled_is_read text 1 f net d one) ∙ spelled_is_read text 1 f net e other in
    cc

by_result : (text : List ℕ) (first : ℕ) (f : Dqbf) (net : Netlist) (r : Result Dqp CertRefusal) →
    circuit_proof_of f net text first ≡ r →
    ((d : Dqp) × SpellsProof text f net d) ⊎ ((fault : CertRefusal) × (circuit_proof_of f net text first ≡ Err fault))
by_result text first f net (Ok d) h = inl (d, read_is_spelled text first f net d h)
by_result text first f net (Err fault) h = inr (fault, h)

pub returns-clause-either : goal.returns-clause-either
returns-clause-either c text first f net = by_result text first f net (circuit_proof_of f net text first) refl

pub returns-clause-allowed : goal.returns-clause-allowed
returns-clause-allowed c text first f net d read = (read_is_spelled text first f net d read).allowed
