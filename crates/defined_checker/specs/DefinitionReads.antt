-- What a definition reads: the leaves of its cone of influence.
use Rattle.std.specs.Prelude.{ℕ, ◌+◌, ◌≤◌, [], ◌∷◌, length}
use Rattle.dq_lits.specs.Formula.{Existential, Dqbf}
use Rattle.circuit_plain.specs.Netlist.{Netlist, literal_variable}
use Rattle.circuit_plain.specs.Reach.{Reaches}
use Rattle.definition_order.specs.Order.{MayRead}
use Rattle.cert_text.specs.DefinitionBlocks.{Definition}

-- its gates as a netlist, whose inputs aren't listed
abbrev pub definition_netlist : Dqbf → Definition → Netlist
definition_netlist f d = record {
  max_var = f.variables + length d.gates;
  inputs = [];
  outputs = d.output ∷ [];
  gates = d.gates;
}

-- a variable of the formula in the output's cone
pub record IsRead (f : Dqbf) (d : Definition) (v : ℕ) : Type 0 where
  pub from_one : 1 ≤ v
  pub of_formula : v ≤ f.variables
  pub reached : Reaches (definition_netlist f d) (literal_variable d.output) v

-- universals that the existential sees, and existentials that see no more and come before it: those
-- that see less, and of those that see as much the ones that are declared earlier
abbrev pub MayDefine : Dqbf → Existential → ℕ → Type 0
MayDefine f y v = MayRead f [] y v

-- the definition reads a variable that no definition of the existential may read
pub record IsForeign (f : Dqbf) (y : Existential) (d : Definition) (v : ℕ) : Type 0 where
  pub read : IsRead f d v
  pub foreign : MayDefine f y v → ⊥

-- the least such variable
pub record IsFirstForeign (f : Dqbf) (y : Existential) (d : Definition) (v : ℕ) : Type 0 where
  pub foreign : IsForeign f y d v
  pub least : (w : ℕ) → IsForeign f y d w → v ≤ w
