use Rattle.std.proofs.Common.{length, sym, ◌∙◌, ap}
use Rattle.aiger_text.proofs.NamedPlaces.{zip_long}
use Rattle.aiger_text.proofs.name_tables.NameTable.len.Goals as goal

pub returns : goal.returns
returns c =
    c.len.ensures ∙ sym (zip_long c.self.inside.places c.self.inside.names c.self.invariant)
    ∙ ap length c.self.view_is
