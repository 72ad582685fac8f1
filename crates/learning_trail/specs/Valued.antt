-- The values of variables and of their negations, side by side.
use Rattle.std.specs.Prelude.{◌≡◌, Bool, true, false, List, [], ◌∷◌}
use Rattle.dq_lits.specs.declared.truth_values.TruthValue.{TruthValue}
use Rattle.dq_lits.specs.declared.truth_values.TruthValue.TheVariants.{True, False, Unassigned}

abbrev pub negated : TruthValue → TruthValue
negated True = False
negated False = True
negated Unassigned = Unassigned

-- the value of a literal with this sign, where its variable has this one
abbrev pub signed : Bool → TruthValue → TruthValue
signed true value = negated value
signed false value = value

-- the variables' values alone
abbrev pub plain : List TruthValue → List TruthValue
plain [] = []
plain (value ∷ []) = []
plain (value ∷ other ∷ rest) = value ∷ plain rest

abbrev pub ArePaired : List TruthValue → Type 0
ArePaired [] = Unit {0}
ArePaired (value ∷ []) = ⊥
ArePaired (value ∷ other ∷ rest) = (other ≡ negated value) × ArePaired rest
