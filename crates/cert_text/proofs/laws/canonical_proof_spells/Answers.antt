use Rattle.std.proofs.Common.{arith}
use Rattle.cert_text.proofs.CanonicalProof.{canonical_spells}
use Rattle.cert_text.proofs.SpelledProofs.{spelled_is_read}
use Rattle.cert_text.proofs.laws.canonical_proof_spells.Goals as goal

pub returns-clause-spells : goal.returns-clause-spells
returns-clause-spells c f net d is = canonical_spells f net d is

pub returns-clause-reads_back : goal.returns-clause-reads_back
returns-clause-reads_back c f net d first is = search (arith, spelled_is_read, canonical_spells)
