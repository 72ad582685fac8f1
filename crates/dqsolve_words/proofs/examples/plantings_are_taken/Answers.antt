use Rattle.std.proofs.Common.{refl}
use Rattle.std.specs.Str.{chars}
use Rattle.dqsolve_words.specs.Spelling.{read_words, spelled_command}
use Rattle.dqsolve_words.proofs.examples.plantings_are_taken.Goals as goal

pub returns-clause-taken : goal.returns-clause-taken
unfolding chars read_words spelled_command
returns-clause-taken c = refl

pub returns-clause-ends : goal.returns-clause-ends
unfolding chars read_words spelled_command
returns-clause-ends c = refl

pub returns-clause-seed : goal.returns-clause-seed
unfolding chars read_words spelled_command
returns-clause-seed c = refl

pub returns-clause-least : goal.returns-clause-least
unfolding chars read_words spelled_command
returns-clause-least c = refl

pub returns-clause-most : goal.returns-clause-most
unfolding chars read_words spelled_command
returns-clause-most c = refl

pub returns-clause-sign : goal.returns-clause-sign
unfolding chars read_words spelled_command
returns-clause-sign c = refl

pub returns-clause-missing : goal.returns-clause-missing
unfolding chars read_words spelled_command
returns-clause-missing c = refl

pub returns-clause-option : goal.returns-clause-option
unfolding chars read_words spelled_command
returns-clause-option c = refl
