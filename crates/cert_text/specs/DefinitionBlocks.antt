-- What a text of definitions holds: for each existential a definition with its proof, or two
-- assignments that show that it has none (A. Padoa, 1900).
use Rattle.std.specs.Prelude.{ℕ, Bool, List}
use Rattle.dq_lits.specs.Derivation.{ProofStep}
use Rattle.circuit_plain.specs.declared.circuits.Gate.{Gate}

-- the output's literal over the formula's variables and those of the gates
pub record Definition : Type 0 where
  pub existential : ℕ
  pub output : ℕ
  pub gates : List Gate
  pub steps : List ProofStep

-- a bit for each universal, and one for each existential, in order of declaration
pub record Valuation : Type 0 where
  pub row : List Bool
  pub values : List Bool

pub record FreePair : Type 0 where
  pub existential : ℕ
  pub first : Valuation
  pub second : Valuation

pub data DefinitionBlock : Type 0 where
  defined : Definition → DefinitionBlock
  free : FreePair → DefinitionBlock
