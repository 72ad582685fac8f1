use Rattle.std.proofs.Common.{arith}
use Rattle.std.proofs.Math.Nat.{mod-lt}
use Rattle.std.proofs.lemmas.Nat.{div-add-mod'}
use Rattle.learning_trail.proofs.PairedValues.{paired_length}
use Rattle.learning_trail.proofs.values.Values.len.Goals as goal

pub returns : goal.returns
returns c = search (arith, paired_length, mod-lt, div-add-mod')
