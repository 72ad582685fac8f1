use Rattle.std.proofs.Common.{Some, None, refl}
use Rattle.clap.specs.Matches.{found_of}
use Rattle.clap.specs.Walk.{rows_of}
use Rattle.dqsolve_words.specs.Command.{steps_in}
use Rattle.dqsolve_words.specs.Parsed.{given_in}
use Rattle.dqsolve_words.proofs.Matches.{defined_found}
use Rattle.dqsolve_words.proofs.requests.defined_in.Goals as goal

pub returns-in_default : goal.returns-in_default
returns-in_default c =
    let f = found_of c.args.matches.now in
    defined_found f None (steps_in (given_in (rows_of f))) c.in_default.ensures refl

pub returns : goal.returns
returns c = defined_found (found_of c.args.matches.now) (Some c.in-Some.file.now) (Some c.in-Some-steps_in.steps)
    c.in-Some.ensures c.in-Some-steps_in.ensures
