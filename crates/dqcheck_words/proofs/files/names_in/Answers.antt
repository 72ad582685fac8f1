use Rattle.std.proofs.Common.{List, ℕ, ap₂, codes}
use Rattle.clap.specs.Matches.{found_of}
use Rattle.dqcheck_words.specs.Command.{Command}
use Rattle.dqcheck_words.proofs.GivenNames.{name_given, name_there}
use Rattle.dqcheck_words.proofs.files.names_in.Goals.{in_default-via-in-Some+in_default, in_default-via-in_default}
use Rattle.dqcheck_words.proofs.files.names_in.Goals as goal

pub unreachable-requires : goal.unreachable-requires
unreachable-requires c = elim c.in_default.branch [
  | in_default-via-in-Some+in_default w ↦
      name_there c.get_str-2.result (found_of c.args.matches.now)
      (codes "CERT") c.get_str-2.ensures c.requires.1 w.in_default.is-1
  | in_default-via-in_default w ↦
      name_there c.get_str.result (found_of c.args.matches.now)
      (codes "FORMULA") c.get_str.ensures c.requires.0 w.in_default.is-0
]

abbrev names : List ℕ → List ℕ → Command
names formula certificate = record { formula = formula; certificate = certificate }

pub returns : goal.returns
returns c = ap₂ names
    (name_given c.in-Some-Some.formula.now (found_of c.args.matches.now) (codes "FORMULA") c.in-Some-Some.ensures)
    (name_given c.in-Some-Some.certificate.now (found_of c.args.matches.now) (codes "CERT") c.in-Some-Some.ensures')
