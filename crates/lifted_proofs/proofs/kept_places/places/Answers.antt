use Rattle.std.proofs.Common.{arith}
use Rattle.lifted_proofs.proofs.NamedClauses.{place-taken, place-passed}
use Rattle.lifted_proofs.proofs.kept_places.places.Goals.{then-is_some-kept+in_ok-push, else-is_some-kept}
use Rattle.lifted_proofs.proofs.kept_places.places.Goals as goal

pub loop-place-preserved : goal.loop-place-preserved
loop-place-preserved c = search (arith, place-taken, place-passed)
