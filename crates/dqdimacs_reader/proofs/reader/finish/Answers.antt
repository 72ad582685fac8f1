use Rattle.std.proofs.Common.{[], subst, append-nil}
use Rattle.dqdimacs_reader.specs.Machine.{reading}
use Rattle.dqdimacs_reader.specs.Reading.{IsReading}
use Rattle.dqdimacs_reader.proofs.reader.finish.Goals as goal

pub returns-clause-exact : goal.returns-clause-exact
returns-clause-exact c text stands =
    subst (λ t. IsReading (reading t) c.finish.result) (append-nil text)
    (stands [] c.finish.result (c.in_ok-last_line.ensures c.finish.result c.finish.ensures.exact))
