use Rattle.dqdimacs_reader.specs.Canonical.{canonical}
use Rattle.dqdimacs_reader.proofs.CanonicalFormula.{canonical_spells}
use Rattle.dqdimacs_reader.proofs.SpelledIsRead.{spelled_is_read}
use Rattle.dqdimacs_reader.proofs.laws.canonical_text_spells.Goals as goal

pub returns-clause-spells : goal.returns-clause-spells
returns-clause-spells c f is = canonical_spells f is

pub returns-clause-reads_back : goal.returns-clause-reads_back
returns-clause-reads_back c f is = spelled_is_read (canonical f) f (canonical_spells f is)
