use Rattle.std.proofs.Common.{refl}
use Rattle.refutation_checker.proofs.BoundVariables.{set_pushed}
use Rattle.refutation_checker.proofs.bindings.Bindings.add_set.Goals as goal

pub returns-clause-bindings : goal.returns-clause-bindings
returns-clause-bindings c =
    set_pushed c.args.f.now c.args.self.now.sets.items c.args.self.now.sets.items c.push.new.self.items
    c.args.self.now.of.items c.args.self.now.of.items
    c.args.place c.existentials.result.now c.every_formula_is_lawful.ensures c.requires.place c.requires.bindings refl
    refl c.existentials.ensures
    c.in_ok-push.ensures.items
