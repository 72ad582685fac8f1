use Rattle.std.proofs.Common.{arith}
use Rattle.cert_text.proofs.TakenDefinitions.{spelled_is_read}
use Rattle.cert_text.proofs.WrittenDefinitions.{written_definitions_spell}
use Rattle.cert_text.proofs.laws.written_definitions_are_read.Goals as goal

pub returns-clause-spells : goal.returns-clause-spells
returns-clause-spells c f blocks lawful are few = written_definitions_spell f blocks lawful are few

pub returns-clause-reads_back : goal.returns-clause-reads_back
returns-clause-reads_back c f blocks first lawful are few = search (arith, spelled_is_read, written_definitions_spell)
