use Rattle.std.proofs.Common.{◌∙◌, Some, None}
use Rattle.clap.specs.Matches.{found_of}
use Rattle.dqsolve_words.proofs.Matches.{flag_found}
use Rattle.dqsolve_words.proofs.requests.has_flag.Goals as goal

pub returns-in-Some : goal.returns-in-Some
returns-in-Some c = c.eq.ensures ∙ flag_found (found_of c.args.matches.now) c.args.id.now
    (Some c.in-Some.value.now) c.in-Some.ensures

pub returns-in-None : goal.returns-in-None
returns-in-None c = flag_found (found_of c.args.matches.now) c.args.id.now None c.in-None.ensures
