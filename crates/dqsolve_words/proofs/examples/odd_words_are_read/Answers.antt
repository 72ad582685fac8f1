use Rattle.std.proofs.Common.{refl}
use Rattle.std.specs.Str.{chars}
use Rattle.dqsolve_words.specs.Spelling.{read_words, spelled_command}
use Rattle.dqsolve_words.proofs.examples.odd_words_are_read.Goals as goal

pub returns-clause-minus : goal.returns-clause-minus
unfolding chars read_words spelled_command
returns-clause-minus c = refl

pub returns-clause-empty : goal.returns-clause-empty
unfolding chars read_words spelled_command
returns-clause-empty c = refl

pub returns-clause-behind : goal.returns-clause-behind
unfolding chars read_words spelled_command
returns-clause-behind c = refl

pub returns-clause-before : goal.returns-clause-before
unfolding chars read_words spelled_command
returns-clause-before c = refl

pub returns-clause-negative : goal.returns-clause-negative
unfolding chars read_words spelled_command
returns-clause-negative c = refl

pub returns-clause-separator : goal.returns-clause-separator
unfolding chars read_words spelled_command
returns-clause-separator c = refl

pub returns-clause-no_value : goal.returns-clause-no_value
unfolding chars read_words spelled_command
returns-clause-no_value c = refl

pub returns-clause-valued : goal.returns-clause-valued
unfolding chars read_words spelled_command
returns-clause-valued c = refl

pub returns-clause-shortened : goal.returns-clause-shortened
unfolding chars read_words spelled_command
returns-clause-shortened c = refl

pub returns-clause-twice : goal.returns-clause-twice
unfolding chars read_words spelled_command
returns-clause-twice c = refl
