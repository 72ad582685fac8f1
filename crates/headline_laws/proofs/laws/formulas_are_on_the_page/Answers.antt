use Rattle.headline_laws.proofs.Formulas.{on_page, page}
use Rattle.headline_laws.proofs.laws.formulas_are_on_the_page.Goals as goal

pub returns : goal.returns
returns c text read spelled formed = (
  page text read spelled,
  on_page text read spelled formed c.xor_clauses_are_exact.ensures c.functions_are_choices.ensures
      (c.tokens_are_the_pages.ensures text),
)
