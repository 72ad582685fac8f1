use Rattle.std.proofs.Common.{arith}
use Rattle.cert_judge.proofs.HeaderKinds.{missing_says}
use Rattle.cert_judge.proofs.endings.finish.Goals as goal

pub returns-in-Beginning : goal.returns-in-Beginning
returns-in-Beginning c = search (arith, missing_says)
