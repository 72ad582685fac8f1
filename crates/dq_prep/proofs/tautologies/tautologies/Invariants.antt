use Rattle.std.proofs.Common.{◌≡◌, map, take}
use Rattle.dq_lits.specs.Derivation.{is_tautology}
use Rattle.dq_prep.proofs.tautologies.tautologies.Given as goal

abbrev pub invariant-loop-j : goal.invariant-loop-j
invariant-loop-j l = l.found.items ≡ map is_tautology (take l.j l.f.matrix)
