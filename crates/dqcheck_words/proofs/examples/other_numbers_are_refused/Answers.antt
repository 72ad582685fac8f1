use Rattle.std.proofs.Common.{refl}
use Rattle.std.specs.Str.{chars}
use Rattle.dqcheck_words.specs.Spelling.{spelled_command}
use Rattle.dqcheck_words.proofs.examples.other_numbers_are_refused.Goals as goal

pub returns-clause-one : goal.returns-clause-one
unfolding chars spelled_command
returns-clause-one c = refl

pub returns-clause-three : goal.returns-clause-three
unfolding chars spelled_command
returns-clause-three c = refl

pub returns-clause-no_words : goal.returns-clause-no_words
unfolding chars spelled_command
returns-clause-no_words c = refl

pub returns-clause-no_name : goal.returns-clause-no_name
unfolding chars spelled_command
returns-clause-no_name c = refl
