use Rattle.definition_search.proofs.KeptSearches.{on_then}
use Rattle.definition_search.proofs.texts.write_definitions.Goals as goal

pub returns-clause-goes_on : goal.returns-clause-goes_on
returns-clause-goes_on g c =
    on_then c.args.f.now c.args.log.now c.new.new.log c.text_by.new.log c.new.ensures.goes_on c.text_by.ensures.goes_on
