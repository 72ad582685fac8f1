use Rattle.defined_checker.proofs.ForeignAnswers.{answered}
use Rattle.cert_text.specs.DefinitionsRead.{definition_seen}
use Rattle.defined_checker.proofs.reads.first_foreign.Goals as goal

pub returns : goal.returns
returns c y is =
    answered c.args.f.now y (definition_seen c.args.d.now) c.in_ok-found.found c.items.result.now c.least_foreign.result
    c.items.ensures c.in_ok-found.ensures (c.least_foreign.ensures y is)
