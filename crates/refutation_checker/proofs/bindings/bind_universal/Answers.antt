use Rattle.std.proofs.Common.{sym, arith}
use Rattle.refutation_checker.proofs.BoundVariables.{universal_bound}
use Rattle.refutation_checker.proofs.bindings.bind_universal.Goals as goal

pub returns-in-Some-clause-bindings : goal.returns-in-Some-clause-bindings
returns-in-Some-clause-bindings c =
    search (
      arith,
      (universal_bound c.args.f.now c.args.of.now.items c.put_universal.new.of.items c.args.x c.in-Some.place c.requires (sym c.in-Some.ensures) c.put_universal.ensures.others c.put_universal.ensures.here),
    )
