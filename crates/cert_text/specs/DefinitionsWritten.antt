-- Words of private contracts: blocks that can be written.
use Rattle.std.specs.Prelude.{◌<◌, ◌^◌}
use Rattle.std.specs.List.{All}
use Rattle.cert_text.specs.DefinitionBlocks.{DefinitionBlock, defined, free}

-- the variables of the gates can be doubled
abbrev pub IsSmallBlock : DefinitionBlock → Type 0
IsSmallBlock (defined d) = All (λ g. g.variable < 2 ^ 63) d.gates
IsSmallBlock (free p) = Unit {0}
