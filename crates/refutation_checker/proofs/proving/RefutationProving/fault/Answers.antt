use Rattle.std.proofs.Common.{◌∙◌}
use Rattle.refutation_checker.proofs.JudgedItems.{fault_says}
use Rattle.refutation_checker.proofs.proving.RefutationProving.fault.Goals as goal

pub returns : goal.returns
returns c f rows at run judging = c.fault.ensures ∙ fault_says f rows c.args.self.now at run judging
