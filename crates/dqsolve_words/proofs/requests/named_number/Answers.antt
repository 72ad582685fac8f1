use Rattle.std.proofs.Common.{◌∙◌, Some, None}
use Rattle.clap.specs.Matches.{found_of}
use Rattle.dqsolve_words.proofs.Matches.{number_found}
use Rattle.dqsolve_words.proofs.requests.named_number.Goals as goal

pub returns-in-Some : goal.returns-in-Some
returns-in-Some c = c.number_in.ensures ∙ number_found (found_of c.args.matches.now) c.args.id.now c.args.least
    c.args.most (Some c.in-Some.text.now) c.in-Some.ensures

pub returns-in-None : goal.returns-in-None
returns-in-None c = number_found (found_of c.args.matches.now) c.args.id.now c.args.least c.args.most None
    c.in-None.ensures
