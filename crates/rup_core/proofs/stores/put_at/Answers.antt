use Rattle.std.proofs.Common.{Some, ◌/◌}
use Rattle.std.proofs.lemmas.Result.{on_ok_weaker, on_err_weaker}
use Rattle.rup_core.specs.declared.stores.TheConstants.{PAGE}
use Rattle.rup_core.proofs.StoredLines.{put_in_page, same_in_page}
use Rattle.rup_core.proofs.stores.put_at.Goals as goal

pub returns-clause-ok : goal.returns-clause-ok
returns-clause-ok c =
    on_ok_weaker c.put.result
    (put_in_page c.args.pages.now.items c.reach_page.new.pages.items c.index_mut.result.now c.put.new.self _
    c.args.place (Some c.args.lits.now) c.in_ok-reach_page.ensures.same
    c.in_ok-reach_page.ensures.within c.index_mut.ensures.value)
    c.put.ensures.ok

pub returns-clause-err : goal.returns-clause-err
returns-clause-err c =
    on_err_weaker c.put.result
    (same_in_page c.args.pages.now.items c.reach_page.new.pages.items c.index_mut.result.now c.put.new.self _
    (c.args.place / PAGE) c.in_ok-reach_page.ensures.same
    c.in_ok-reach_page.ensures.within c.index_mut.ensures.value)
    c.put.ensures.err
