use Rattle.std.proofs.Common.{◌≡◌, ℕ, List}
use Rattle.dq_lits.specs.Formula.{Dqbf}
use Rattle.definability.specs.Following.{AreGiven, IsFollowing, IsLiveFormula}
use Rattle.definability.specs.Store.{IsCopyStore, store_of}
use Rattle.definability.proofs.FollowedClauses.{AreGivenSoFar}
use Rattle.definability.proofs.definability.Definability.give_live.Given as goal

abbrev pub invariant-loop-i : goal.invariant-loop-i
invariant-loop-i g l = (g.O.Oracle.Fits l.oracle l.log)
    × ((all : Dqbf) (numbered : List ℕ) → IsCopyStore all numbered l.fn.self l.fn.log.entries →
    IsLiveFormula all numbered l.f l.live l.frames →
    IsFollowing all numbered (store_of l.fn.self) l.fn.log (store_of l.self) l.log)
    × AreGivenSoFar (store_of l.self) l.live l.i
    × (AreGiven (store_of l.fn.self) l.live → l.log ≡ l.fn.log)
