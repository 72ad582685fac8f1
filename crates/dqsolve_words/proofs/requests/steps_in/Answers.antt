use Rattle.std.proofs.Common.{◌∙◌, Some, None}
use Rattle.clap.specs.Matches.{found_of}
use Rattle.dqsolve_words.proofs.Matches.{steps_found}
use Rattle.dqsolve_words.proofs.requests.steps_in.Goals as goal

pub returns-in-Some : goal.returns-in-Some
returns-in-Some c = c.number_in.ensures ∙ steps_found (found_of c.args.matches.now)
    (Some c.in-Some.text.now) c.in-Some.ensures

pub returns-in-None : goal.returns-in-None
returns-in-None c = steps_found (found_of c.args.matches.now) None c.in-None.ensures
