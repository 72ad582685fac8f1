use Rattle.definability.proofs.SelectedPlaces.{AreBitsSoFar}
use Rattle.definability.proofs.reading.row_of_copies.Given as goal

abbrev pub invariant-loop-place : goal.invariant-loop-place
invariant-loop-place g l = AreBitsSoFar (g.O.Oracle.values l.oracle) l.flags l.others l.lits l.place l.row
