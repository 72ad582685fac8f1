use Rattle.std.proofs.Common.{refl}
use Rattle.std.specs.Str.{chars}
use Rattle.dqsolve_words.specs.Spelling.{read_words, spelled_command}
use Rattle.dqsolve_words.proofs.examples.options_are_taken.Goals as goal

pub returns-clause-none : goal.returns-clause-none
unfolding chars read_words spelled_command
returns-clause-none c = refl

pub returns-clause-steps : goal.returns-clause-steps
unfolding chars read_words spelled_command
returns-clause-steps c = refl

pub returns-clause-behind : goal.returns-clause-behind
unfolding chars read_words spelled_command
returns-clause-behind c = refl

pub returns-clause-plus : goal.returns-clause-plus
unfolding chars read_words spelled_command
returns-clause-plus c = refl

pub returns-clause-separator : goal.returns-clause-separator
unfolding chars read_words spelled_command
returns-clause-separator c = refl

pub returns-clause-deletions : goal.returns-clause-deletions
unfolding chars read_words spelled_command
returns-clause-deletions c = refl

pub returns-clause-both : goal.returns-clause-both
unfolding chars read_words spelled_command
returns-clause-both c = refl

pub returns-clause-preparation : goal.returns-clause-preparation
unfolding chars read_words spelled_command
returns-clause-preparation c = refl

pub returns-clause-binary : goal.returns-clause-binary
unfolding chars read_words spelled_command
returns-clause-binary c = refl
