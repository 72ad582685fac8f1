use Rattle.dq_formula.specs.Prefix.{existential_variables}
use Rattle.defined_checker.proofs.RightTexts.{all_right}
use Rattle.defined_checker.proofs.laws.accepted_texts_are_right.Goals as goal

pub returns : goal.returns
returns c f text blocks formed spelled judged =
    all_right c.accepted_definitions_are_forced.ensures c.accepted_pairs_are_free.ensures f (existential_variables f)
    blocks formed spelled.allowed judged
