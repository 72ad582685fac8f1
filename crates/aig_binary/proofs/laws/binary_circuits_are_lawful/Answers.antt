use Rattle.aig_binary.proofs.Complete.{is_netlist, all_grounded, outputs_mean}
use Rattle.aig_binary.proofs.laws.binary_circuits_are_lawful.Goals as goal

pub returns-clause-lawful : goal.returns-clause-lawful
returns-clause-lawful c = is_netlist

pub returns-clause-acyclic : goal.returns-clause-acyclic
returns-clause-acyclic c = all_grounded

pub returns-clause-outputs_mean : goal.returns-clause-outputs_mean
returns-clause-outputs_mean c = outputs_mean
