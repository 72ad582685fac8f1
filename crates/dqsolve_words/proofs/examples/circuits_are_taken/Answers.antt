use Rattle.std.proofs.Common.{refl}
use Rattle.std.specs.Str.{chars}
use Rattle.dqsolve_words.specs.Spelling.{read_words, spelled_command}
use Rattle.dqsolve_words.proofs.examples.circuits_are_taken.Goals as goal

pub returns-clause-pec : goal.returns-clause-pec
unfolding chars read_words spelled_command
returns-clause-pec c = refl

pub returns-clause-steps : goal.returns-clause-steps
unfolding chars read_words spelled_command
returns-clause-steps c = refl

pub returns-clause-encode : goal.returns-clause-encode
unfolding chars read_words spelled_command
returns-clause-encode c = refl

pub returns-clause-missing : goal.returns-clause-missing
unfolding chars read_words spelled_command
returns-clause-missing c = refl

pub returns-clause-more : goal.returns-clause-more
unfolding chars read_words spelled_command
returns-clause-more c = refl

pub returns-clause-bare : goal.returns-clause-bare
unfolding chars read_words spelled_command
returns-clause-bare c = refl

pub returns-clause-encode_steps : goal.returns-clause-encode_steps
unfolding chars read_words spelled_command
returns-clause-encode_steps c = refl

pub returns-clause-deletions : goal.returns-clause-deletions
unfolding chars read_words spelled_command
returns-clause-deletions c = refl

pub returns-clause-preparation : goal.returns-clause-preparation
unfolding chars read_words spelled_command
returns-clause-preparation c = refl

pub returns-clause-binary : goal.returns-clause-binary
unfolding chars read_words spelled_command
returns-clause-binary c = refl
