use Rattle.std.proofs.Common.{refl}
use Rattle.std.specs.Str.{chars}
use Rattle.dqsolve_words.specs.Spelling.{read_words, spelled_command}
use Rattle.dqsolve_words.proofs.examples.definitions_are_taken.Goals as goal

pub returns-clause-none : goal.returns-clause-none
unfolding chars read_words spelled_command
returns-clause-none c = refl

pub returns-clause-steps : goal.returns-clause-steps
unfolding chars read_words spelled_command
returns-clause-steps c = refl

pub returns-clause-behind : goal.returns-clause-behind
unfolding chars read_words spelled_command
returns-clause-behind c = refl

pub returns-clause-no_name : goal.returns-clause-no_name
unfolding chars read_words spelled_command
returns-clause-no_name c = refl

pub returns-clause-two_names : goal.returns-clause-two_names
unfolding chars read_words spelled_command
returns-clause-two_names c = refl

pub returns-clause-bare : goal.returns-clause-bare
unfolding chars read_words spelled_command
returns-clause-bare c = refl

pub returns-clause-deletions : goal.returns-clause-deletions
unfolding chars read_words spelled_command
returns-clause-deletions c = refl

pub returns-clause-preparation : goal.returns-clause-preparation
unfolding chars read_words spelled_command
returns-clause-preparation c = refl

pub returns-clause-binary : goal.returns-clause-binary
unfolding chars read_words spelled_command
returns-clause-binary c = refl

pub returns-clause-least : goal.returns-clause-least
unfolding chars read_words spelled_command
returns-clause-least c = refl

pub returns-clause-most : goal.returns-clause-most
unfolding chars read_words spelled_command
returns-clause-most c = refl
