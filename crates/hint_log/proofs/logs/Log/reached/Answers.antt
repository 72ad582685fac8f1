use Rattle.std.proofs.Common.{reverse, ap, sym, ◌∙◌, subst, arith}
use Rattle.hint_log.proofs.KeptEntries.{newest}
use Rattle.hint_log.proofs.Lawful.{reached_are_ids_lem}
use Rattle.hint_log.proofs.ReachedIds.{AreReachedSoFar, first_pending, one_more_reached, all_reached}
use Rattle.hint_log.proofs.logs.Log.reached.Goals as goal

pub loop-at-init : goal.loop-at-init
loop-at-init c =
    search (
      arith,
      (first_pending c.args.self.now.entries c.args.id c.new-pending.result c.insert.new.self c.new-pending.ensures c.in_ok-insert.ensures.ok),
    )

pub hints-requires : goal.hints-requires
hints-requires c = search (arith, reached_are_ids_lem)

pub loop-at-preserved : goal.loop-at-preserved
loop-at-preserved c =
    subst (AreReachedSoFar c.args.self.now.entries c.args.id c.insert_all.new.self)
    (sym (ap reverse c.in_ok-push.ensures.items ∙ newest c.loop-at.reached.items c.in-Some.at))
    (one_more_reached c.args.self.now.entries c.args.id c.in-Some.at c.loop-at.pending c.pop.new.self
    c.insert_all.new.self (reverse c.loop-at.reached.items) c.hints.result.now
    c.loop-at.invariant c.in-Some.ensures.some c.hints.ensures.value c.hints.ensures.earlier
    c.in_ok-insert_all.ensures.kept c.in_ok-insert_all.ensures.added c.in_ok-insert_all.ensures.only)

pub returns : goal.returns
returns c =
    all_reached c.args.self.now.entries c.args.id c.loop-at.pending
    (reverse c.loop-at.reached.items) c.loop-at.invariant c.in_default.ensures.none
