use Rattle.std.proofs.Common.{refl}
use Rattle.std.specs.Str.{chars}
use Rattle.dqsolve_words.specs.Spelling.{read_words, spelled_command}
use Rattle.dqsolve_words.proofs.examples.other_steps_are_refused.Goals as goal

pub returns-clause-most : goal.returns-clause-most
unfolding chars read_words spelled_command
returns-clause-most c = refl

pub returns-clause-none : goal.returns-clause-none
unfolding chars read_words spelled_command
returns-clause-none c = refl

pub returns-clause-more : goal.returns-clause-more
unfolding chars read_words spelled_command
returns-clause-more c = refl

pub returns-clause-word : goal.returns-clause-word
unfolding chars read_words spelled_command
returns-clause-word c = refl

pub returns-clause-missing : goal.returns-clause-missing
unfolding chars read_words spelled_command
returns-clause-missing c = refl

pub returns-clause-twice : goal.returns-clause-twice
unfolding chars read_words spelled_command
returns-clause-twice c = refl
