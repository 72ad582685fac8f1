use Rattle.std.proofs.Common.{ℕ, List, [], get_or, sym, ◌∙◌, ap, arith}
use Rattle.aiger_text.proofs.NamedPlaces.{zip_long, zip_at}
use Rattle.aiger_text.proofs.name_tables.NameTable.name.Goals as goal

pub get-requires : goal.get-requires
get-requires c = search (arith, zip_long)

pub returns : goal.returns
returns c =
    c.get.ensures
    ∙ sym (ap (λ (e : ℕ × List ℕ). e.1)
    (zip_at c.self.inside.places c.self.inside.names c.args.index c.self.invariant))
    ∙ ap (λ (es : List (ℕ × List ℕ)). (get_or es c.args.index (0, [])).1) c.self.view_is
