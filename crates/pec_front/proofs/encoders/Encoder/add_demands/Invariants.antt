use Rattle.std.proofs.Common.{◌≡◌, ◌≤◌, map, drop, length}
use Rattle.std.specs.List.{range_with_len}
use Rattle.pec_front.specs.Encoder.{demand_clause, AreAdded}
use Rattle.pec_front.specs.Encoding.{demand}
use Rattle.pec_front.proofs.encoders.Encoder.add_demands.Given as goal

abbrev pub invariant-loop-o : goal.invariant-loop-o
invariant-loop-o l = record {
  added : AreAdded l.initial.f l.f (map (demand l.self.design.now) (range_with_len 0 l.o)) l.o;
  some : 1 ≤ length l.clause.items;
  flags : drop 1 l.clause.items ≡ drop 1 (demand_clause l.self.design.now 0);
}
