use Rattle.std.proofs.Common.{refl, ◌∙◌, ap}
use Rattle.cert_text.specs.DefinitionText.{definitions_of}
use Rattle.definition_search.proofs.laws.texts_of_definitions_are_accepted.Goals as goal

pub returns : goal.returns
returns c f text first lawful is = (
  is.blocks,
  (
    ap (λ t. definitions_of f t first) is.written
        ∙ c.written_definitions_are_read.ensures.reads_back f is.blocks first lawful is.right.each is.right.few,
    (is.right.judged, refl),
  ),
)
