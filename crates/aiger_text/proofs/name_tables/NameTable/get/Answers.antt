use Rattle.std.proofs.Common.{ℕ, List, Some, sym, ◌∙◌, ap, arith}
use Rattle.aiger_text.specs.Symbol.{name_at}
use Rattle.aiger_text.proofs.NamedPlaces.{named_none, named_some, same_place}
use Rattle.aiger_text.proofs.name_tables.NameTable.get.Goals as goal

pub returns-in_err-index : goal.returns-in_err-index
returns-in_err-index c = search (arith, named_none, same_place)

pub returns : goal.returns
returns c =
    ap (λ (n : List ℕ). Some n) c.get.ensures
    ∙ sym (named_some c.self.inside.places c.self.inside.names c.args.place c.in_ok-index.index c.self.invariant
    (sym (same_place c.args.place c.self.inside.places) ∙ sym c.in_ok-index.ensures.place))
    ∙ ap (λ (es : List (ℕ × List ℕ)). name_at es c.args.place) c.self.view_is
