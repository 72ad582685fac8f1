use Rattle.lifted_proofs.proofs.SettledFiles.{settled-files}
use Rattle.lifted_proofs.proofs.laws.settled_files_are_spellable.Goals as goal

pub returns : goal.returns
returns c = settled-files
