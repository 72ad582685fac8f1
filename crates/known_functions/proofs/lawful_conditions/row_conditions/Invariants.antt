use Rattle.std.proofs.Common.{◌≡◌, map, take}
use Rattle.dq_lits.specs.Literal.{variable_of}
use Rattle.known_functions.specs.Guessing.{AreConditions}
use Rattle.known_functions.proofs.lawful_conditions.row_conditions.Given as goal

abbrev pub invariant-loop-place : goal.invariant-loop-place
invariant-loop-place l = record {
  conditions : AreConditions l.f l.y l.lits.items;
  variables : map variable_of l.lits.items ≡ take l.place l.f.universals;
}
