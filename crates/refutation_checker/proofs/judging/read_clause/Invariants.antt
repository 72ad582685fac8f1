use Rattle.refutation_checker.specs.PairNames.{frame, names_in, AreNames}
use Rattle.refutation_checker.specs.Namings.{Extends}
use Rattle.refutation_checker.specs.Rows.{row_of}
use Rattle.refutation_checker.proofs.ReadClauses.{AreRead}
use Rattle.refutation_checker.proofs.judging.read_clause.Given as goal

abbrev pub invariant-loop-l : goal.invariant-loop-l
invariant-loop-l l = record {
  names : AreNames (frame l.e) l.names;
  extends : Extends (frame l.e) (names_in l.fn.names) (names_in l.names);
  read : AreRead (frame l.e) (names_in l.names) (row_of (frame l.e).rows l.k) l.l-items l.clause.items l.l-index;
}
