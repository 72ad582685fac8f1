use Rattle.std.specs.List.{Contains}
use Rattle.std.proofs.lemmas.List.Elements.{recursion_from_All}
use Rattle.headline.specs.Headline.{variable_of}
use Rattle.headline.specs.Sessions.{variables_of}
use Rattle.session_laws.proofs.GrownFormulas.{existentials_same}
use Rattle.session_laws.proofs.laws.clauses_leave_the_prefix.Goals as goal

pub returns : goal.returns
returns c f ls bound =
    existentials_same f ls (recursion_from_All (λ l. Contains (variables_of f) (variable_of l)) ls bound)
