use Rattle.std.proofs.Common.{subst, length, replicate, arith}
use Rattle.definability.specs.Store.{IsCopyStore}
use Rattle.repair_loop.proofs.PrefixCopies.{added_there, prefix_formed, store_there}
use Rattle.list_laws.proofs.Results.{if_ok}
use Rattle.repair_loop.proofs.first_copies.first_copies.Goals as goal

pub new-requires-clause-formula : goal.new-requires-clause-formula
new-requires-clause-formula g c = search (arith, (prefix_formed c.args.f.now c.requires.formula))

pub returns-clause-grew : goal.returns-clause-grew
returns-clause-grew g c group = search (arith, added_there)

pub returns-clause-store : goal.returns-clause-store
returns-clause-store g c =
    let f = c.args.f.now in
    let es = c.new.new.log.entries in
    if_ok c.new.result (λ p store. store_there f c.added_clauses_leave_stores.ensures p es
    (subst (λ h. IsCopyStore h (replicate (length h.matrix) 0) p es) c.in_ok-prefix.ensures store)) c.new.ensures.store
