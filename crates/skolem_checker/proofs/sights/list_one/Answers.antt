use Rattle.std.proofs.Common.{sym}
use Rattle.skolem_checker.proofs.SightsLaws.{listed_more}
use Rattle.skolem_checker.proofs.sights.list_one.Goals as goal

pub returns-in-Some-clause-lists : goal.returns-in-Some-clause-lists
returns-in-Some-clause-lists c q on =
    listed_more c.args.f.now.universals c.args.listed.now c.set_bit.new.words c.args.i c.in-Some.place c.args.x q
    (sym c.in-Some.ensures) c.set_bit.ensures.set on
