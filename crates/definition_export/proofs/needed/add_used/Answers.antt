use Rattle.std.proofs.Common.{sym, subst, take, get_or, arith}
use Rattle.std.proofs.lemmas.List.{take_all, take_more}
use Rattle.definition_export.proofs.ClosedPlaces.{AreUsedSoFar, one_used}
use Rattle.definition_export.proofs.needed.add_used.Goals as goal

pub loop-id-preserved : goal.loop-id-preserved
loop-id-preserved c =
    let ids = c.args.ids.now in
    let i = c.loop-id.id-index in
    subst (λ xs. AreUsedSoFar c.args.log.now.entries c.args.terms.now xs c.args.waiting.now c.add_used_gate.new.waiting)
    (sym (take_more ids i 0 c.loop-id-test.true))
    (one_used c.args.log.now.entries c.args.terms.now (take i ids) (get_or ids i 0) c.args.waiting.now
    c.loop-id.waiting c.add_used_gate.new.waiting c.loop-id.invariant c.in_ok-add_used_gate.ensures.within
    c.in_ok-add_used_gate.ensures.kept c.in_ok-add_used_gate.ensures.there)

pub returns-clause-within : goal.returns-clause-within
returns-clause-within c = c.loop-id.invariant.within

pub returns-clause-kept : goal.returns-clause-kept
returns-clause-kept c = c.loop-id.invariant.kept

pub returns-clause-there : goal.returns-clause-there
returns-clause-there c = search (arith, take_all)
