use Rattle.dq_prep.proofs.LoweredRows.{serve}
use Rattle.dq_prep.proofs.laws.lowered_rows_serve.Goals as goal

pub returns : goal.returns
returns c = serve
