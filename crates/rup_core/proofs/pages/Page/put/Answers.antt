use Rattle.std.proofs.Common.{map, Some, ◌∙◌}
use Rattle.rup_core.specs.Paging.{clause_at, AreSameClauses}
use Rattle.rup_core.specs.Spans.{clause_in}
use Rattle.rup_core.proofs.PagedClauses.{kept_same, same_spans, same_along, same_unwritten, kept_unwritten, kept_put, sets_put, set_along, on_err}
use Rattle.rup_core.proofs.pages.Page.put.Goals as goal

pub invariant_of-self : goal.invariant_of-self
invariant_of-self c =
    let i = c.self.inside in
    let kept = kept_same i.literals.items i.spans.items c.reach.new.spans.items i.live c.reach.ensures.same
    (record { within = c.self.invariant.within; counted = c.self.invariant.counted }) in
    record { within = kept.within; counted = kept.counted }

pub returns-in_err-reach-clause-err : goal.returns-in_err-reach-clause-err
returns-in_err-reach-clause-err c =
    let i = c.self.inside in
    on_err c.from_residual.result (AreSameClauses (clause_at c.args.self.now)
    (clause_at (map (clause_in i.literals.items) c.reach.new.spans.items)))
    (same_along c.args.self.now (map (clause_in i.literals.items) i.spans.items)
    (map (clause_in i.literals.items) c.reach.new.spans.items) c.self.view_is
    (same_spans i.literals.items i.spans.items c.reach.new.spans.items c.reach.ensures.same))

pub invariant_of-self-in_err-write : goal.invariant_of-self-in_err-write
invariant_of-self-in_err-write c =
    let i = c.self.inside in
    let reached = kept_same i.literals.items i.spans.items c.reach.new.spans.items i.live c.reach.ensures.same
    (record { within = c.self.invariant.within; counted = c.self.invariant.counted }) in
    let kept = kept_unwritten i.literals.items c.write.new.literals.items c.reach.new.spans.items
    c.write.new.spans.items i.live c.in_err-write.ensures.err reached in
    record { within = kept.within; counted = kept.counted }

pub returns-in_err-write-clause-err : goal.returns-in_err-write-clause-err
returns-in_err-write-clause-err c =
    let i = c.self.inside in
    let new = map (clause_in c.write.new.literals.items) c.write.new.spans.items in
    on_err c.from_residual-in_err-write.result (AreSameClauses (clause_at c.args.self.now) (clause_at new))
    (same_along c.args.self.now (map (clause_in i.literals.items) i.spans.items) new c.self.view_is
    (same_unwritten i.literals.items c.write.new.literals.items i.spans.items c.reach.new.spans.items
    c.write.new.spans.items c.reach.ensures.same c.in_err-write.ensures.err))

pub invariant_of-self-2 : goal.invariant_of-self-2
invariant_of-self-2 c =
    let i = c.self.inside in
    let reached = kept_same i.literals.items i.spans.items c.reach.new.spans.items i.live c.reach.ensures.same
    (record { within = c.self.invariant.within; counted = c.self.invariant.counted }) in
    let before = same_along c.args.self.now (map (clause_in i.literals.items) i.spans.items)
    (map (clause_in i.literals.items) c.reach.new.spans.items) c.self.view_is
    (same_spans i.literals.items i.spans.items c.reach.new.spans.items c.reach.ensures.same) in
    let kept = kept_put i.literals.items c.write.new.literals.items c.args.lits.now c.reach.new.spans.items
    c.write.new.spans.items c.args.place i.live c.in_ok-reach.ensures.within reached
    c.in_ok-write.ensures.literals c.in_ok-write.ensures.span (before c.args.place ∙ c.requires.free) in
    record { within = kept.within; counted = kept.counted }

pub returns-clause-ok : goal.returns-clause-ok
returns-clause-ok c =
    let i = c.self.inside in
    let reached = kept_same i.literals.items i.spans.items c.reach.new.spans.items i.live c.reach.ensures.same
    (record { within = c.self.invariant.within; counted = c.self.invariant.counted }) in
    let old = map (clause_in i.literals.items) i.spans.items in
    let between = map (clause_in i.literals.items) c.reach.new.spans.items in
    let new = map (clause_in c.write.new.literals.items) c.write.new.spans.items in
    let same = same_spans i.literals.items i.spans.items c.reach.new.spans.items c.reach.ensures.same in
    set_along c.args.self.now old between c.args.place (Some c.args.lits.now) c.self.view_is same new
    (sets_put i.literals.items c.write.new.literals.items c.args.lits.now c.reach.new.spans.items
    c.write.new.spans.items c.args.place i.live c.in_ok-reach.ensures.within reached
    c.in_ok-write.ensures.literals c.in_ok-write.ensures.span
    (same_along c.args.self.now old between c.self.view_is same c.args.place ∙ c.requires.free))
