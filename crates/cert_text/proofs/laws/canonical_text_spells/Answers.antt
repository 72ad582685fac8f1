use Rattle.std.proofs.Common.{arith}
use Rattle.cert_text.proofs.CanonicalLines.{canonical_spells}
use Rattle.cert_text.proofs.SpelledRefutations.{spelled_is_read}
use Rattle.cert_text.proofs.laws.canonical_text_spells.Goals as goal

pub returns-clause-spells : goal.returns-clause-spells
returns-clause-spells c f d lawful is = canonical_spells f d lawful is

pub returns-clause-reads_back : goal.returns-clause-reads_back
returns-clause-reads_back c f d first lawful is = search (arith, spelled_is_read, canonical_spells)
