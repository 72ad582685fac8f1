use Rattle.std.proofs.Common.{refl}
use Rattle.std.specs.Str.{chars}
use Rattle.dqcheck_words.specs.Spelling.{spelled_command}
use Rattle.dqcheck_words.proofs.examples.flags_are_refused.Goals as goal

pub returns-clause-help : goal.returns-clause-help
unfolding chars spelled_command
returns-clause-help c = refl

pub returns-clause-short_help : goal.returns-clause-short_help
unfolding chars spelled_command
returns-clause-short_help c = refl

pub returns-clause-version : goal.returns-clause-version
unfolding chars spelled_command
returns-clause-version c = refl

pub returns-clause-by_name : goal.returns-clause-by_name
unfolding chars spelled_command
returns-clause-by_name c = refl
