use Rattle.cert_export.proofs.Instances.{instances_are_expansion}
use Rattle.cert_export.proofs.laws.instances_are_expansion.Goals as goal

pub returns : goal.returns
returns c = instances_are_expansion
