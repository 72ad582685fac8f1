-- The values of a log's variables by what they are named for, and of existentials by their leaves
-- in a circuit.
use Rattle.std.specs.Prelude.{◌==◌, ℕ, Bool, true, false, ◌&&◌, List, [], ◌∷◌, Option, None, Some, if◌then◌else◌}
use Rattle.dq_lits.specs.Literal.{Assignment, literal_true}
use Rattle.dq_lits.specs.Formula.{Existential, Dqbf, is_universal, existential_of}
use Rattle.hint_log.specs.Entries.{Entry, Named}
use Rattle.hint_log.specs.declared.names.Name.{Name}
use Rattle.hint_log.specs.declared.names.Name.TheVariants.{Selector, Input, And, Bad}
use Rattle.hint_log.specs.declared.origins.Leaf.{Leaf}
use Rattle.hint_log.specs.declared.origins.Leaf.TheVariants.{Constant, Literal as LeafLiteral}
use Rattle.hint_log.specs.Naming.{by_universality}

-- a name's value: selectors are true, inputs are as given, and so is which clauses are false; a
-- gate has the value of its sides
abbrev pub name_value : Assignment → (ℕ → Bool) → Assignment → Name → Bool
name_value m bad earlier (Selector _) = true
name_value m bad earlier (Input x) = m x
name_value m bad earlier (And a b) = literal_true earlier a && literal_true earlier b
name_value m bad earlier (Bad _ j) = bad j
name_value m bad earlier _ = false

-- each variable's value, by its name
abbrev pub value_in : Assignment → (ℕ → Bool) → List Entry → Assignment
value_in m bad [] v = false
value_in m bad (Named w name ∷ earlier) v =
    if v == w then name_value m bad (value_in m bad earlier) name else value_in m bad earlier v
value_in m bad (_ ∷ earlier) v = value_in m bad earlier v

abbrev pub leaf_value : Assignment → Leaf → Bool
leaf_value values (Constant b) = b
leaf_value values (LeafLiteral l) = literal_true values l

-- a leaf's value in the log's circuits, where the inputs are as given
abbrev pub circuit_value : List Entry → Assignment → Leaf → Bool
circuit_value entries m leaf = leaf_value (value_in m (λ _. false) entries) leaf

abbrev pub existential_bit : (Existential → Bool) → Option Existential → Bool
existential_bit bit None = false
existential_bit bit (Some y) = bit y

-- universals as given, and existentials by these bits
abbrev pub by_bits : Dqbf → Assignment → (Existential → Bool) → Assignment
by_bits f m bit v =
    by_universality (is_universal f v) (m v) (existential_bit bit (existential_of f v))
