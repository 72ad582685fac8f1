use Rattle.std.proofs.Common.{◌≡◌, ◌∙◌, ◌++◌, ◌∷◌, [], eqb, false, ap, refl, sym, subst, arith}
use Rattle.std.specs.List.{AllByRecursion}
use Rattle.hint_log.proofs.OrderedNames.{in_order, out_of_order, none_there}
use Rattle.hint_log.proofs.kept_names.Names.insert.Goals as goal

pub returns-in_ok-push-clause-ok : goal.returns-in_ok-push-clause-ok
returns-in_ok-push-clause-ok c =
    let xs = c.self.inside.ordered.items in
    let ys = c.self.inside.others.entries in
    let here = c.if-var-len.true in
    let many = c.len.ensures in
    let empty = c.if-is_empty.ensures.0 refl in
    in_order xs c.push.new.self.items ys c.args.var c.args.name c.in_ok-push.ensures.items
    (none_there ys (omega (arith, empty))) (omega (arith, here, many))
    ∙ ap (λ ns. ns ++ (c.args.var, c.args.name) ∷ []) c.self.view_is

pub returns-in_ok-insert-clause-ok : goal.returns-in_ok-insert-clause-ok
returns-in_ok-insert-clause-ok c =
    let xs = c.self.inside.ordered.items in
    let ys = c.self.inside.others.entries in
    out_of_order xs ys c.insert.new.self.entries c.args.var c.args.name
    (subst (AllByRecursion (λ e. eqb c.args.var e.0 ≡ false)) (sym c.self.view_is) c.requires)
    c.in_ok-insert.ensures.entries
    ∙ ap (λ ns. ns ++ (c.args.var, c.args.name) ∷ []) c.self.view_is
