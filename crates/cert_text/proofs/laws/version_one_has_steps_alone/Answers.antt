use Rattle.cert_text.specs.Numbering.{numbered_from}
use Rattle.cert_text.proofs.StepsAlone.{steps_alone_read, steps_are_items, written_in_one}
use Rattle.cert_text.proofs.laws.version_one_has_steps_alone.Goals as goal

pub returns-clause-read : goal.returns-clause-read
returns-clause-read c p first count lines number = steps_alone_read count p (numbered_from first) lines number

pub returns-clause-allowed : goal.returns-clause-allowed
returns-clause-allowed c p first steps are = steps_are_items p (numbered_from first) steps are

pub returns-clause-written : goal.returns-clause-written
returns-clause-written c = written_in_one
