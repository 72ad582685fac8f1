use Rattle.pec_front.proofs.CyclicBox.{cyclic-unordered, cyclic-fits}
use Rattle.pec_front.proofs.examples.box_that_reads_itself.Goals as goal

pub returns : goal.returns
returns c = record { unordered = cyclic-unordered; fits = cyclic-fits }
