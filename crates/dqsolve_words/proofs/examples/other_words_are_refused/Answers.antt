use Rattle.std.proofs.Common.{refl}
use Rattle.std.specs.Str.{chars}
use Rattle.dqsolve_words.specs.Spelling.{read_words, spelled_command}
use Rattle.dqsolve_words.proofs.examples.other_words_are_refused.Goals as goal

pub returns-clause-no_words : goal.returns-clause-no_words
unfolding chars read_words spelled_command
returns-clause-no_words c = refl

pub returns-clause-nothing : goal.returns-clause-nothing
unfolding chars read_words spelled_command
returns-clause-nothing c = refl

pub returns-clause-no_name : goal.returns-clause-no_name
unfolding chars read_words spelled_command
returns-clause-no_name c = refl

pub returns-clause-two_names : goal.returns-clause-two_names
unfolding chars read_words spelled_command
returns-clause-two_names c = refl

pub returns-clause-command : goal.returns-clause-command
unfolding chars read_words spelled_command
returns-clause-command c = refl

pub returns-clause-before : goal.returns-clause-before
unfolding chars read_words spelled_command
returns-clause-before c = refl

pub returns-clause-help : goal.returns-clause-help
unfolding chars read_words spelled_command
returns-clause-help c = refl

pub returns-clause-help_command : goal.returns-clause-help_command
unfolding chars read_words spelled_command
returns-clause-help_command c = refl

pub returns-clause-help_option : goal.returns-clause-help_option
unfolding chars read_words spelled_command
returns-clause-help_option c = refl

pub returns-clause-version : goal.returns-clause-version
unfolding chars read_words spelled_command
returns-clause-version c = refl
