-- Gates that are given to a group.
use Rattle.std.proofs.Common.{◌≡◌, ℕ, ◌≤◌, inl, List, ◌∷◌, length, Some, refl, arith}
use Rattle.std.specs.List.{Contains}
use Rattle.dq_lits.specs.Literal.{Literal, negative}
use Rattle.dq_lits.specs.Formula.{Dqbf}
use Rattle.hint_log.specs.Entries.{Entry, Given, name_of}
use Rattle.hint_log.specs.declared.names.Name.TheVariants.{Selector, And}
use Rattle.hint_log.specs.declared.origins.Origin.TheVariants.{Gate}
use Rattle.hint_log.specs.Origins.{gate_rest}
use Rattle.hint_log.specs.ProductiveLog.{fault_groups, fault_room}
use Rattle.log_laws.specs.Engines.{circuits, IsGivenBy}

-- no clause of the gate from this part on, and what its clauses ask for
pub record CanGiveGateFrom (group v : ℕ) (a b : Literal) (part : ℕ) (es : List Entry) : Type 0 where
  pub is_group : name_of es group ≡ Some (Selector group)
  pub is_gate : name_of es v ≡ Some (And a b)
  pub fresh : (i : ℕ) (c : List Literal) → part ≤ i → Contains es (Given (Gate v i) c) → ⊥
  pub few : length (fault_groups es) ≤ fault_room es

pub gate_added : (f : Dqbf) (old es : List Entry) (group v part : ℕ) (a b : Literal) (rest : List Literal) →
    CanGiveGateFrom group v a b part es → gate_rest v a b part ≡ Some rest →
    IsGivenBy f circuits group old es (Gate v part) (negative group ∷ rest)
gate_added f old es group v part a b rest ready is = record {
  own = refl;
  in_group = (group, (rest, refl), inl refl);
  matches_origin = search arith;
  not_repeated = record { first = λ h c inside. ready.fresh part c (omega arith) inside; groups = ready.few };
}
