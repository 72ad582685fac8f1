use Rattle.std.proofs.Common.{◌-◌, ◌≤◌}
use Rattle.cdcl_core.specs.Waking.{HoldsPut}
use Rattle.cdcl_core.proofs.waking.store_of.Given as goal

abbrev pub invariant-loop-id : goal.invariant-loop-id
invariant-loop-id l = record {
  from_one : 1 ≤ l.id;
  put : HoldsPut l.flags l.log.entries l.store.clauses (l.id - 1);
}
