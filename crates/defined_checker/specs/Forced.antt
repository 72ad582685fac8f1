-- What an accepted block says: that every assignment which makes the matrix true has the definition's
-- value, and that no function of what a definition may read has it.
use Rattle.std.specs.Prelude.{◌≡◌, ℕ, ◌==◌, Bool, false, List, [], ◌∷◌, None, Some, Result, Err, if◌then◌else◌}
use Rattle.dq_lits.specs.Formula.{Existential, Dqbf, IsWellFormed, existential_of}
use Rattle.dq_lits.specs.Henkin.{MatrixHolds}
use Rattle.dq_lits.specs.Literal.{Assignment}
use Rattle.circuit_plain.specs.Netlist.{gate_value, left_variable, right_variable, literal_bit}
use Rattle.circuit_plain.specs.declared.circuits.Gate.{Gate}
use Rattle.cert_text.specs.AllowedDefinitions.{IsDefinitionOf}
use Rattle.cert_text.specs.DefinitionBlocks.{Definition, DefinitionBlock, FreePair, defined, free}
use Rattle.cert_text.specs.DefinitionGrammar.{SpellsDefinitions}
use Rattle.defined_checker.specs.FreePairs.{AreAlike}
use Rattle.defined_checker.specs.Judging.{AreJudged, IsChecked, IsJudged}
use Rattle.defined_checker.specs.declared.checks.DefinedCounts.{DefinedCounts}
use Rattle.defined_checker.specs.declared.faults.DefStop.{DefStop}
use Rattle.defined_checker.specs.declared.faults.DefStop.TheVariants.{Memory}

abbrev pub with_bit : Assignment → ℕ → Bool → Assignment
with_bit m v b w = if w == v then b else m w

-- the gates get their values in turn
abbrev pub with_gates : Assignment → List Gate → Assignment
with_gates m [] = m
with_gates m (g ∷ gates) =
    with_gates
    (with_bit m g.variable (gate_value g (m (left_variable g)) (m (right_variable g)))) gates

-- the output's value, where variable 0 is the constant false
abbrev pub definition_value : Definition → Assignment → Bool
definition_value d m = literal_bit (with_gates (with_bit m 0 false) d.gates) d.output

-- wherever the matrix is true, the existential has the output's value, and that depends only on what
-- a definition of the existential may read
pub record IsForced (f : Dqbf) (d : Definition) : Type 0 where
  pub value : (m : Assignment) → MatrixHolds f m → m d.existential ≡ definition_value d m
  pub depends : (y : Existential) → existential_of f d.existential ≡ Some y
      → (m n : Assignment) → AreAlike f y m n → definition_value d m ≡ definition_value d n

abbrev pub AcceptedDefinitionsAreForced : Type 0
AcceptedDefinitionsAreForced =
    (f : Dqbf) (d : Definition) → IsWellFormed f → IsDefinitionOf f d
    → IsJudged f (defined d) None → IsForced f d

-- a function of what a definition may read differs from the existential somewhere
abbrev pub AcceptedPairsAreFree : Type 0
AcceptedPairsAreFree =
    (f : Dqbf) (p : FreePair) (y : Existential) → existential_of f p.existential ≡ Some y
    → IsJudged f (free p) None → (value : Assignment → Bool)
    → ((m n : Assignment) → AreAlike f y m n → value m ≡ value n)
    → ((m : Assignment) → MatrixHolds f m → m p.existential ≡ value m) → ⊥

-- what an accepted block says
abbrev pub IsRight : Dqbf → DefinitionBlock → Type 0
IsRight f (defined d) = IsForced f d
IsRight f (free p) =
    (y : Existential) → existential_of f p.existential ≡ Some y → (value : Assignment → Bool)
    → ((m n : Assignment) → AreAlike f y m n → value m ≡ value n)
    → ((m : Assignment) → MatrixHolds f m → m p.existential ≡ value m) → ⊥

abbrev pub AreRight : Dqbf → List DefinitionBlock → Type 0
AreRight f [] = Unit {0}
AreRight f (block ∷ blocks) = IsRight f block × AreRight f blocks

abbrev pub AcceptedTextsAreRight : Type 0
AcceptedTextsAreRight =
    (f : Dqbf) (text : List ℕ) (blocks : List DefinitionBlock) → IsWellFormed f
    → SpellsDefinitions text f blocks → AreJudged f blocks None → AreRight f blocks

-- a text is judged in one way, if there is memory
abbrev pub TextsAreJudgedOnce : Type 0
TextsAreJudgedOnce =
    (f : Dqbf) (text : List ℕ) (first : ℕ) (a b : Result DefinedCounts DefStop)
    → IsChecked f text first a → IsChecked f text first b → (a ≡ Err Memory → ⊥)
    → (b ≡ Err Memory → ⊥) → a ≡ b
