use Rattle.std.proofs.Common.{take}
use Rattle.refutation_checker.specs.PairNames.{frame, names_in, AreNames}
use Rattle.refutation_checker.specs.Namings.{Extends}
use Rattle.refutation_checker.specs.Judging.{AreNamed, normal_literals}
use Rattle.refutation_checker.proofs.judging.name_line.Given as goal

abbrev pub invariant-loop-l : goal.invariant-loop-l
invariant-loop-l l = record {
  names : AreNames (frame l.e) l.names;
  extends : Extends (frame l.e) (names_in l.fn.names) (names_in l.names);
  named : AreNamed (frame l.e) (names_in l.names) (normal_literals (frame l.e) (take l.l-index l.lits)) l.line.items;
}
