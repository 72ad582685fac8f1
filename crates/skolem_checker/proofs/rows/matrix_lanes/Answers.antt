use Rattle.std.proofs.Common.{refl}
use Rattle.skolem_checker.proofs.RowsLaws.{all_ones}
use Rattle.skolem_checker.proofs.rows.matrix_lanes.Goals as goal

pub loop-j-init : goal.loop-j-init
loop-j-init c = record { four = refl; bits = λ i b i_below b_below. all_ones i b i_below b_below }
