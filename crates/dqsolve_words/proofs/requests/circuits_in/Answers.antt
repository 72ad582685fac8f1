use Rattle.std.proofs.Common.{Some, None, refl, codes}
use Rattle.clap.specs.Matches.{first_value, found_of}
use Rattle.dqsolve_words.proofs.Matches.{circuits_found}
use Rattle.dqsolve_words.proofs.requests.circuits_in.Goals as goal

pub returns-in_default : goal.returns-in_default
returns-in_default c =
    let f = found_of c.args.matches.now in
    circuits_found f None (first_value f (codes "IMPL")) c.in_default.ensures refl

pub returns-in_default-get_str : goal.returns-in_default-get_str
returns-in_default-get_str c =
    circuits_found (found_of c.args.matches.now) (Some c.in-Some.spec.now) None c.in-Some.ensures
    c.in_default-get_str.ensures

pub returns : goal.returns
returns c =
    circuits_found (found_of c.args.matches.now) (Some c.in-Some.spec.now) (Some c.in-Some-get_str.imp.now)
    c.in-Some.ensures c.in-Some-get_str.ensures
