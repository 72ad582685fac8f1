use Rattle.std.proofs.Common.{sym, ap, ◌∙◌}
use Rattle.number_tables.specs.Numbers.{place_of}
use Rattle.std.specs.Map.{keys_of}
use Rattle.dq_formula.proofs.ExistentialColumns.{keys}
use Rattle.dq_formula.proofs.existentials.Existentials.place.Goals as goal

pub returns : goal.returns
returns c =
    let e = c.self.inside in
    c.place.ensures.place ∙ ap (λ ks. place_of ks c.args.y) (sym
    (ap keys_of (sym c.self.view_is) ∙ keys e.variables e.sets.items c.self.invariant))
