use Rattle.std.proofs.Common.{Some, None, refl}
use Rattle.clap.specs.Matches.{found_of}
use Rattle.clap.specs.Walk.{rows_of}
use Rattle.dqsolve_words.specs.Command.{options_in, steps_in}
use Rattle.dqsolve_words.specs.Words.{options_of}
use Rattle.dqsolve_words.specs.Parsed.{given_in}
use Rattle.dqsolve_words.proofs.Matches.{solve_found}
use Rattle.dqsolve_words.proofs.requests.solve_in.Goals as goal

pub returns-in_default : goal.returns-in_default
returns-in_default c = solve_found (found_of c.args.matches.now) None (steps_in (given_in (rows_of (found_of c.args.matches.now))))
    (options_in (given_in (rows_of (found_of c.args.matches.now)))) c.in_default.ensures refl refl

pub returns : goal.returns
returns c = solve_found (found_of c.args.matches.now) (Some c.in-Some.file.now)
    (Some c.in-Some-steps_in.steps) (options_of c.options_in-options.result)
    c.in-Some.ensures c.in-Some-steps_in.ensures c.options_in-options.ensures
