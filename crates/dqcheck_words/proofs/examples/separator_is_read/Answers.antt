use Rattle.std.proofs.Common.{refl}
use Rattle.std.specs.Str.{chars}
use Rattle.dqcheck_words.specs.Spelling.{spelled_command}
use Rattle.dqcheck_words.proofs.examples.separator_is_read.Goals as goal

pub returns-clause-first : goal.returns-clause-first
unfolding chars spelled_command
returns-clause-first c = refl

pub returns-clause-between : goal.returns-clause-between
unfolding chars spelled_command
returns-clause-between c = refl

pub returns-clause-last : goal.returns-clause-last
unfolding chars spelled_command
returns-clause-last c = refl

pub returns-clause-twice : goal.returns-clause-twice
unfolding chars spelled_command
returns-clause-twice c = refl

pub returns-clause-three : goal.returns-clause-three
unfolding chars spelled_command
returns-clause-three c = refl
