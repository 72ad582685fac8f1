use Rattle.std.proofs.Common.{◌≡◌, ◌+◌, length, get_or, ap, ◌∙◌, arith}
use Rattle.refutation_checker.specs.Bindings.{variable_at}
use Rattle.refutation_checker.proofs.BoundVariables.{variable_small, bind_done}
use Rattle.dq_formula.proofs.Lawful.{few_places}
use Rattle.refutation_checker.proofs.bindings.Bindings.bind.Goals as goal

pub join-requires : goal.join-requires
join-requires c =
    let few = few_places c.args.f.now c.every_formula_is_lawful.ensures in
    let place = c.requires.place in
    let sets = c.in_ok-set.ensures.bindings.few_sets in
    let size = c.in_ok-set.ensures.set.few in
    let small = variable_small c.args.f.now c.args.place c.every_formula_is_lawful.ensures c.requires.place in
    let y : get_or c.existentials.result.now c.args.place 0 ≡ variable_at c.args.f.now c.args.place =
    ap (λ ys. get_or ys c.args.place 0) c.existentials.ensures in
    let long : length c.set_for.new.self.of.items ≡ c.args.f.now.variables + 1 =
    ap length c.set_for.ensures.same ∙ c.requires.count in
    record {
      set = c.in_ok-set.ensures.set.within;
      variable = omega (arith, small, y, long);
      few_sets = omega (arith, sets, place, few);
      few = omega (arith, size, place, few);
    }

pub returns : goal.returns
returns c =
    let done = bind_done c.args.f.now c.set_for.new.self.sets.items c.join.new.self.sets.items
    c.set_for.new.self.of.items c.join.new.self.of.items c.args.self.now.of.items
    c.existentials.result.now c.args.place c.in_ok-set.set c.every_formula_is_lawful.ensures c.requires.place
    c.requires.count c.set_for.ensures.same
    c.in_ok-set.ensures.bindings c.in_ok-set.ensures.set c.existentials.ensures c.join.ensures.of c.join.ensures.sets in
    record { bindings = done.0; written = done.1 }
