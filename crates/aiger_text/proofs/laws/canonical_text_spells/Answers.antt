use Rattle.aiger_text.specs.Canonical.{canonical_circuit}
use Rattle.aiger_text.proofs.CanonicalCircuit.{canonical_spells}
use Rattle.aiger_text.proofs.FirstFaults.{read_from}
use Rattle.aiger_text.proofs.SpelledNames.{spelled_is_spellable}
use Rattle.aiger_text.proofs.laws.canonical_text_spells.Goals as goal

pub returns-clause-spells : goal.returns-clause-spells
returns-clause-spells c = canonical_spells

pub returns-clause-reads_back : goal.returns-clause-reads_back
returns-clause-reads_back c file first is = read_from (canonical_circuit file) first file (canonical_spells file is)

pub returns-clause-spellable : goal.returns-clause-spellable
returns-clause-spellable c = spelled_is_spellable
