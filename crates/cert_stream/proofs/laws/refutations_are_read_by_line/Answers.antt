use Rattle.std.proofs.Common.{refl}
use Rattle.cert_stream.proofs.RefutationSteps.{one_by_one}
use Rattle.cert_stream.proofs.laws.refutations_are_read_by_line.Goals as goal

pub returns-clause-whole : goal.returns-clause-whole
returns-clause-whole c f text first = refl

pub returns-clause-line : goal.returns-clause-line
returns-clause-line c r line lines same = one_by_one r line lines same
