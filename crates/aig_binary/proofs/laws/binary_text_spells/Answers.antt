use Rattle.std.proofs.Common.{arith}
use Rattle.aig_binary.specs.Deltas.{most_groups}
use Rattle.aig_binary.proofs.Exactness.{spelled_is_scanned}
use Rattle.aig_binary.proofs.WrittenFiles.{written_spells}
use Rattle.aig_binary.proofs.WrittenDeltas.{fewest}
use Rattle.aig_binary.proofs.laws.binary_text_spells.Goals as goal

pub returns-clause-spells : goal.returns-clause-spells
returns-clause-spells c = written_spells

pub returns-clause-reads_back : goal.returns-clause-reads_back
returns-clause-reads_back c file first is = search (arith, (written_spells file first is), spelled_is_scanned)

pub returns-clause-fewest : goal.returns-clause-fewest
returns-clause-fewest c code n bytes_are are = fewest code most_groups n bytes_are are
