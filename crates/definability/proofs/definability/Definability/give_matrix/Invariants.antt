use Rattle.definability.specs.Making.{AreGivenBefore, HasMoreGiven}
use Rattle.definability.specs.Store.{store_of}
use Rattle.definability.proofs.definability.Definability.give_matrix.Given as goal

abbrev pub invariant-loop-place : goal.invariant-loop-place
invariant-loop-place g l = (g.O.Oracle.Fits l.oracle l.log) × HasMoreGiven l.f l.fn.self l.fn.log l.self l.log
    × AreGivenBefore (store_of l.self) l.place
