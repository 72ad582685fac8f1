use Rattle.std.proofs.Common.{◌≤◌, length}
use Rattle.cert_text.specs.DefinitionsRead.{definition_seen}
use Rattle.defined_checker.specs.Walking.{IsWalked}
use Rattle.defined_checker.proofs.leaves.walk.Given as goal

-- what the gates from this place on read is noted
abbrev pub invariant-loop-place : goal.invariant-loop-place
invariant-loop-place l = record {
  within : l.place ≤ length l.d.gates.items;
  walked : IsWalked l.f (definition_seen l.d) l.place l.cone;
}

abbrev pub decreases-loop-place : goal.decreases-loop-place
decreases-loop-place l = l.place
