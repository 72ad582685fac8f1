use Rattle.std.proofs.Common.{ℕ, List, [], get_or, sym, ◌∙◌, ap, arith}
use Rattle.aiger_text.proofs.NamedPlaces.{zip_long, zip_at}
use Rattle.aiger_text.proofs.name_tables.NameTable.place.Goals as goal

pub place_at-requires : goal.place_at-requires
place_at-requires c = search (arith, zip_long)

pub returns : goal.returns
returns c =
    c.place_at.ensures
    ∙ ap (λ (places : List ℕ). get_or places c.args.index 0) c.items.ensures
    ∙ sym (ap (λ (e : ℕ × List ℕ). e.0)
    (zip_at c.self.inside.places c.self.inside.names c.args.index c.self.invariant))
    ∙ ap (λ (es : List (ℕ × List ℕ)). (get_or es c.args.index (0, [])).0) c.self.view_is
