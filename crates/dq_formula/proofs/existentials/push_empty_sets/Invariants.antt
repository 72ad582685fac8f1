use Rattle.std.proofs.Common.{◌≡◌, ◌++◌, ◌+◌, length, replicate, vec_capacity, ◌≤◌}
use Rattle.dq_formula.specs.declared.dependencies.Deps.TheVariants.{FirstOf}
use Rattle.dq_formula.proofs.existentials.push_empty_sets.Given as goal

abbrev pub invariant-loop : goal.invariant-loop
invariant-loop l = record {
  room : length l.initial.sets.items + l.count ≤ vec_capacity l.sets;
  pushed : l.sets.items ≡ l.initial.sets.items ++ replicate l.counter (FirstOf 0);
}
