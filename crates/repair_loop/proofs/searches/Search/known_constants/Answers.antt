use Rattle.std.proofs.Common.{sym, subst}
use Rattle.known_functions.specs.declared.definitions.Definitions.{Definitions}
use Rattle.known_functions.specs.Forcing.{AreKnownIn}
use Rattle.repair_loop.proofs.Constants.{constants_guess}
use Rattle.repair_loop.proofs.searches.Search.known_constants.Goals as goal

pub returns : goal.returns
returns c graph =
    let f = c.args.self.now.f.now in
    let base = c.in_ok-definitions.ensures graph in
    subst (λ (d : Definitions). AreKnownIn f graph d) (sym c.known.ensures) (record {
      one_each = base.one_each;
      defined = base.defined;
      forced = base.forced;
      guessed = constants_guess f graph c.in_ok-definitions-2.field-0.items c.in_ok-definitions-2.ensures;
    })
