use Rattle.headline.proofs.DefinedCopies.{copy_is_defined, copy_is_held, loose_is_free}
use Rattle.headline.proofs.copies_are_defined.Goals as goal

pub returns-clause-copy : goal.returns-clause-copy
returns-clause-copy c = copy_is_defined

pub returns-clause-block : goal.returns-clause-block
returns-clause-block c = copy_is_held

pub returns-clause-loose : goal.returns-clause-loose
returns-clause-loose c = loose_is_free
