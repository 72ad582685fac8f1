use Rattle.std.proofs.Common.{sym, subst}
use Rattle.list_laws.proofs.Results.{if_ok}
use Rattle.known_functions.specs.declared.definitions.Definitions.{Definitions}
use Rattle.known_functions.specs.Forcing.{AreKnownIn}
use Rattle.repair_loop.proofs.Constants.{constants_guess}
use Rattle.repair_loop.proofs.searches.Search.known_gates.Goals as goal

pub returns-clause-known : goal.returns-clause-known
returns-clause-known c =
    let f = c.args.self.now.f.now in
    let base = c.in_ok-gates.ensures.known in
    subst (λ (d : Definitions). AreKnownIn f c.stated.new.graph d) (sym c.known.ensures) (record {
      one_each = base.one_each;
      defined = base.defined;
      forced = base.forced;
      guessed = constants_guess f c.stated.new.graph c.in_ok-constants.constants.items c.in_ok-constants.ensures;
    })
