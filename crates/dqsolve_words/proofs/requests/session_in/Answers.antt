use Rattle.std.proofs.Common.{Some, None, refl, codes}
use Rattle.clap.specs.Matches.{first_value, found_of}
use Rattle.clap.specs.Walk.{rows_of}
use Rattle.dqsolve_words.specs.Command.{steps_in}
use Rattle.dqsolve_words.specs.Parsed.{given_in}
use Rattle.dqsolve_words.proofs.Matches.{session_found}
use Rattle.dqsolve_words.proofs.requests.session_in.Goals as goal

pub returns-in_default : goal.returns-in_default
returns-in_default c =
    let f = found_of c.args.matches.now in
    session_found f None (first_value f (codes "SCRIPT")) (steps_in (given_in (rows_of f))) c.in_default.ensures refl refl

pub returns-in_default-get_str : goal.returns-in_default-get_str
returns-in_default-get_str c =
    let f = found_of c.args.matches.now in
    session_found f (Some c.in-Some.file.now) None (steps_in (given_in (rows_of f))) c.in-Some.ensures
    c.in_default-get_str.ensures refl

pub returns : goal.returns
returns c =
    session_found (found_of c.args.matches.now) (Some c.in-Some.file.now) (Some c.in-Some-get_str.script.now)
    (Some c.in-Some-steps_in.steps) c.in-Some.ensures c.in-Some-get_str.ensures c.in-Some-steps_in.ensures
