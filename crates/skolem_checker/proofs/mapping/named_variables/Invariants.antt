use Rattle.std.proofs.Common.{◌≡◌, ◌-◌, ◌+◌, length, []}
use Rattle.skolem_checker.specs.Mapping.{named_from}
use Rattle.skolem_checker.specs.MappingReading.{IsSeen}
use Rattle.skolem_checker.proofs.mapping.named_variables.Given as goal

abbrev pub invariant-loop-place : goal.invariant-loop-place
invariant-loop-place l = record {
  room : length l.seen ≡ l.f.variables + 1;
  seen : IsSeen l.seen l.variables.items;
  named : named_from l.f l.kind l.symbols l.count 0 [] ≡ named_from l.f l.kind l.symbols
      (l.count - l.place) l.place l.variables.items;
}
