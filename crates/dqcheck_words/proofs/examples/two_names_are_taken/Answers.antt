use Rattle.std.proofs.Common.{refl}
use Rattle.std.specs.Str.{chars}
use Rattle.dqcheck_words.specs.Spelling.{spelled_command}
use Rattle.dqcheck_words.proofs.examples.two_names_are_taken.Goals as goal

pub returns-clause-two : goal.returns-clause-two
unfolding chars spelled_command
returns-clause-two c = refl

pub returns-clause-minus : goal.returns-clause-minus
unfolding chars spelled_command
returns-clause-minus c = refl

pub returns-clause-empty : goal.returns-clause-empty
unfolding chars spelled_command
returns-clause-empty c = refl
