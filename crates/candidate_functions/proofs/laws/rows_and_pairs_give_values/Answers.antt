use Rattle.candidate_functions.proofs.DefinedPoints.{at_row, is_at_row}
use Rattle.candidate_functions.proofs.laws.rows_and_pairs_give_values.Goals as goal

pub returns : goal.returns
returns c f lawful rows row model = (at_row f rows row model, is_at_row f lawful rows row model)
