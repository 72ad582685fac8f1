-- Words of private contracts: the clauses of a definition's proof one at a time.
use Rattle.std.specs.Prelude.{ℕ, ◌*◌, ◌^◌, ◌<◌, List, [], ◌∷◌, length, Option, None, Some, IsSome, slice_get}
use Rattle.dq_lits.specs.Formula.{Dqbf, existential_of}
use Rattle.dq_lits.specs.Literal.{Literal}
use Rattle.circuit_plain.specs.declared.circuits.Gate.{Gate}
use Rattle.cert_text.specs.AllowedDefinitions.{IsDefinitionOf}
use Rattle.cert_text.specs.DefinitionBlocks.{Definition}
use Rattle.cert_text.specs.NegatedMatrix.{opposite_of}
use Rattle.proof_checker.specs.ShortClause.{short_literals}
use Rattle.defined_checker.specs.declared.bases.DefinitionClause.{DefinitionClause}
use Rattle.defined_checker.specs.declared.bases.DefinitionClause.TheVariants.{Missing, Matrix, Short}

-- a definition in the formula that it is for
pub record DefinitionIn : Type 0 where
  pub formula : Dqbf
  pub definition : Definition

pub record IsWithin (d : DefinitionIn) : Type 0 where
  pub existential : IsSome (existential_of d.formula d.definition.existential)
  pub lawful : IsDefinitionOf d.formula d.definition

-- that the existential and the output differ
abbrev pub differing : Definition → List (List ℕ)
differing d =
    (2 * d.existential ∷ d.output ∷ [])
    ∷ (opposite_of (2 * d.existential) ∷ opposite_of d.output ∷ []) ∷ []

abbrev pub literals_of : Dqbf → DefinitionClause → Option (List Literal)
literals_of f Missing = None
literals_of f (Matrix j) = slice_get f.matrix j
literals_of f (Short clause) = Some (short_literals clause)

-- numbers that can be doubled
pub record IsSmallGate (g : Gate) : Type 0 where
  pub variable : g.variable < 2 ^ 61
  pub left : g.left < 2 ^ 62
  pub right : g.right < 2 ^ 62

-- a place in the matrix
abbrev pub IsPlaceIn : Dqbf → DefinitionClause → Type 0
IsPlaceIn f Missing = Unit {0}
IsPlaceIn f (Matrix j) = j < length f.matrix
IsPlaceIn f (Short clause) = Unit {0}
