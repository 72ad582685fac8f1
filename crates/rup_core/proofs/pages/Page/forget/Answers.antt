use Rattle.std.proofs.Common.{map}
use Rattle.rup_core.specs.Spans.{clause_in}
use Rattle.rup_core.proofs.PagedClauses.{kept_erased, sets_erased, some_counted, span_of_some, some_along}
use Rattle.rup_core.proofs.pages.Page.forget.Goals as goal

pub overflow_sub-self : goal.overflow_sub-self
overflow_sub-self c =
    let i = c.self.inside in
    let some = some_along c.args.self.now (map (clause_in i.literals.items) i.spans.items) c.args.place c.self.view_is
    c.requires in
    some_counted i.literals.items i.spans.items c.args.place i.live
    (span_of_some i.literals.items i.spans.items c.args.place some)
    (record { within = c.self.invariant.within; counted = c.self.invariant.counted }) some

pub invariant_of-self : goal.invariant_of-self
invariant_of-self c =
    let i = c.self.inside in
    let some = some_along c.args.self.now (map (clause_in i.literals.items) i.spans.items) c.args.place c.self.view_is
    c.requires in
    let kept = kept_erased i.literals.items i.spans.items c.erase-size.new.spans.items c.args.place i.live
    c.erase-size.ensures
    (record { within = c.self.invariant.within; counted = c.self.invariant.counted }) some in
    record { within = kept.within; counted = kept.counted }

pub returns : goal.returns
returns c =
    let i = c.self.inside in
    let some = some_along c.args.self.now (map (clause_in i.literals.items) i.spans.items) c.args.place c.self.view_is
    c.requires in
    sets_erased c.args.self.now i.literals.items i.spans.items c.erase-size.new.spans.items c.args.place c.self.view_is
    c.erase-size.ensures some
