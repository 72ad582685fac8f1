use Rattle.std.proofs.Common.{◌≡◌, arith, sym, subst, List, ℕ, Ok}
use Rattle.std.proofs.lemmas.Grind.{common_steps}
use Rattle.cert_text.specs.Canonical.{canonical_proof}
use Rattle.cert_text.specs.CircuitProof.{circuit_proof_of}
use Rattle.cert_text.proofs.CanonicalProof.{canonical_spells}
use Rattle.cert_text.proofs.SpelledProofs.{spelled_is_read}
use Rattle.cert_text.proofs.writer.write_dqp.Goals as goal

pub returns-clause-reads_back : goal.returns-clause-reads_back
returns-clause-reads_back c f net first allowed =
    let d = c.args.d.now in
    let is : c.write_items.new.text.items ≡ canonical_proof d = grind (arith, common_steps) in
    subst (λ (text : List ℕ). circuit_proof_of f net text first ≡ Ok d) (sym is)
    (spelled_is_read (canonical_proof d) first f net d (canonical_spells f net d allowed))
