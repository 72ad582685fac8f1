use Rattle.std.proofs.Common.{◌+◌, length, ap, ◌∙◌}
use Rattle.std.proofs.lemmas.List.{length-replicate}
use Rattle.refutation_checker.specs.declared.bindings.Binding.TheVariants.{Free}
use Rattle.refutation_checker.proofs.BoundVariables.{none_bound}
use Rattle.refutation_checker.proofs.bindings.bind_universals.Goals as goal

pub loop-x-init : goal.loop-x-init
loop-x-init c = (
  ap length c.requires ∙ length-replicate (c.args.f.now.variables + 1) Free,
  none_bound c.args.f.now (c.args.f.now.variables + 1) c.args.of.now.items c.requires,
)
