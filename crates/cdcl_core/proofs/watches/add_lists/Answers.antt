use Rattle.std.proofs.Common.{sym, arith, length}
use Rattle.std.proofs.lemmas.List.{take_all}
use Rattle.cdcl_core.proofs.LinkedLists.{added_both, listed_more}
use Rattle.cdcl_core.proofs.watches.add_lists.Goals as goal

pub loop-l-preserved : goal.loop-l-preserved
loop-l-preserved c = record {
  added = added_both c.args.heads.now c.loop-l.heads c.extend.new.heads c.loop-l.invariant.added
      c.extend.ensures.added;
  lists = listed_more (length c.loop-l.heads.items) (length c.extend.new.heads.items) c.args.lits.now c.l-item.result
      c.loop-l.l-index c.loop-l-test.true (sym c.l-item.is)
      (let wide = c.in_ok-extend.ensures.lists in omega (arith, wide, c.var.ensures.value)) c.extend.ensures.added.more
      c.loop-l.invariant.lists;
}

pub returns-clause-lists : goal.returns-clause-lists
returns-clause-lists c = search (arith, take_all)
