-- What a design is to the reader and on the page.
use Rattle.std.specs.Prelude.{ℕ, List}
use Rattle.headline.specs.BlackBoxes.{Contents, Design, Fit, IsDesign, SpellsBoxes}
use Rattle.headline.specs.Headline.{Named, SpellsAscii}
use Rattle.pec_front.specs.Boxes.{BoxesFit, PartialDesign}

-- the page's design of two texts is lawful, and contents fit it where they fit the reader's
pub record IsOnPage (specification implementation : List ℕ) (d : PartialDesign)
    (page : Design) : Type 0 where
  pub names : List Named
  pub specified : SpellsAscii specification page.specification names
  pub implemented : SpellsBoxes implementation page.implementation page.boxes
  pub design : IsDesign page
  pub fit : (value : Contents) → BoxesFit d value → Fit page value
  pub fit_there : (value : Contents) → Fit page value → BoxesFit d value
