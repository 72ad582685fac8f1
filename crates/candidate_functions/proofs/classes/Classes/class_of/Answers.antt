use Rattle.std.proofs.Common.{sym, ◌∙◌, subst, All}
use Rattle.candidate_functions.specs.Pairs.{IsClass, HasClass, HasClassLike}
use Rattle.candidate_functions.proofs.DependencyClasses.{class_like, class_added, new_at_end}
use Rattle.candidate_functions.proofs.classes.Classes.class_of.Goals as goal

pub returns-then-is_class_of-clause-place : goal.returns-then-is_class_of-clause-place
returns-then-is_class_of-clause-place c = λ graph are.
    let f = c.args.f.now in
    class_like f c.args.table.now.rows graph c.args.self.now.classes.items c.in_ok-first.first c.args.y are
    (subst (λ cs. HasClassLike f cs c.in_ok-first.first c.args.y) c.deref.ensures.value
    (c.is_class_of.ensures c.if-is_class_of.true))

pub returns-clause-classes : goal.returns-clause-classes
returns-clause-classes c = λ graph are.
    let f = c.args.f.now in
    let rows = c.args.table.now.rows in
    subst (All (IsClass f rows graph)) (sym c.in_ok-push.ensures.items)
    (class_added f rows graph c.args.self.now.classes.items c.in_ok-new_class.field-0 are
    (c.in_ok-new_class.ensures.class graph))

pub returns-clause-place : goal.returns-clause-place
returns-clause-place c = λ graph are.
    let f = c.args.f.now in
    subst (λ cs. HasClass f c.args.table.now.rows graph cs c.len-next.result c.args.y) (sym c.in_ok-push.ensures.items)
    (new_at_end f c.args.table.now.rows graph c.args.self.now.classes.items c.in_ok-new_class.field-0 c.len-next.result
    c.args.y (c.len-next.ensures ∙ c.args.self.now.classes.ok.0)
    c.in_ok-new_class.ensures.own (c.in_ok-new_class.ensures.class graph))
