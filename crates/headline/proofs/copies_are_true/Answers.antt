use Rattle.headline.proofs.Copies.{is_true, is_false}
use Rattle.headline.proofs.copies_are_true.Goals as goal

pub returns-clause-seen : goal.returns-clause-seen
returns-clause-seen c = is_true

pub returns-clause-unseen : goal.returns-clause-unseen
returns-clause-unseen c = is_false
