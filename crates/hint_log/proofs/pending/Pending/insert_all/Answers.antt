use Rattle.std.proofs.Common.{take, get_or, sym, subst, arith}
use Rattle.std.proofs.lemmas.List.{take_all, take_more}
use Rattle.hint_log.proofs.ReachedIds.{IsWith, with_none, with_one_more}
use Rattle.hint_log.proofs.pending.Pending.insert_all.Goals as goal

pub loop-number-init : goal.loop-number-init
loop-number-init c = with_none c.args.self.now

pub loop-number-preserved : goal.loop-number-preserved
loop-number-preserved c =
    let ids = c.args.numbers.now in
    let i = c.loop-number.number-index in
    subst (IsWith c.args.self.now c.insert.new.self) (sym (take_more ids i 0 c.loop-number-test.true))
    (with_one_more c.args.self.now c.loop-number.self c.insert.new.self (take i ids)
    (get_or ids i 0) c.loop-number.invariant c.in_ok-insert.ensures.ok)

pub returns-clause-kept : goal.returns-clause-kept
returns-clause-kept c = c.loop-number.invariant.kept

pub returns-clause-added : goal.returns-clause-added
returns-clause-added c = search (arith, take_all)

pub returns-clause-only : goal.returns-clause-only
returns-clause-only c = search (arith, take_all)
