use Rattle.std.proofs.Common.{rules}
use Rattle.std.proofs.lemmas.List.Sorted.{IsNonDecreasingBy-from_sort_by_key}
use Rattle.lifted_proofs.proofs.NamedGoals.{turns-moved}
use Rattle.lifted_proofs.proofs.turns.turns.Goals as goal

pub returns : goal.returns
returns c = record {
  all = turns-moved c.args.goals.now c.in_ok-turns.turns.items c.sort_unstable_by_key.new.self.items
      c.in_ok-turns.ensures c.sort_unstable_by_key.ensures.permutation;
  sorted = IsNonDecreasingBy-from_sort_by_key (λ t. t.taken) _ c.sort_unstable_by_key.ensures.sorted
      (λ a r q k. search rules);
}
