-- What the search for definitions keeps, for private contracts.
use Rattle.std.specs.Prelude.{◌≡◌, ◌≤◌, ◌+◌, ℕ, List, length, Some, slice_get}
use Rattle.dq_lits.specs.Formula.{Dqbf}
use Rattle.dq_formula.specs.Prefix.{existential_variables}
use Rattle.hint_log.specs.Entries.{Entry}
use Rattle.hint_log.specs.ProductiveLog.{IsProductiveLog}
use Rattle.definition_export.specs.TermOrder.{HasRead}
use Rattle.definition_proofs.specs.Differing.{AreUndiffered}
use Rattle.definition_proofs.specs.Proving.{AreBeside}
use Rattle.definition_search.specs.declared.searching.Search.{Search}

-- a log of productive work, in which the copies and the gates over the first one stand, and in which
-- no definition of an existential from this place on was proved
pub record IsSearch (f : Dqbf) (s : Search) (place : ℕ) (entries : List Entry) : Type 0 where
  pub productive : IsProductiveLog f entries
  pub beside : AreBeside f s.definability s.terms entries
  pub read : HasRead s.order entries
  pub inputs : s.graph.inputs ≡ length f.universals + length f.existentials
  pub undiffered : (i y : ℕ) → place ≤ i → slice_get (existential_variables f) i ≡ Some y
      → AreUndiffered y entries
