use Rattle.std.proofs.Common.{take}
use Rattle.dq_prep.specs.Sights.{AreWithin}
use Rattle.dq_prep.proofs.sights.Sight.add_clause.Given as goal

abbrev pub invariant-loop-l : goal.invariant-loop-l
invariant-loop-l l = AreWithin l.f l.self (take l.l-index l.clause) l.universals
