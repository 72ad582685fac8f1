-- The canonical text of definitions: one space between tokens, and LF at the end of each line.
use Rattle.std.specs.Prelude.{◌≡◌, ℕ, ◌*◌, Bool, List, ◌++◌, length, codes, Ok}
use Rattle.std.specs.List.{flat_map, zip}
use Rattle.dq_lits.specs.Formula.{Dqbf}
use Rattle.dq_formula.specs.Prefix.{IsLawful, existential_variables}
use Rattle.dq_text.specs.Written.{number_text, number_line, line_end}
use Rattle.circuit_plain.specs.declared.circuits.Gate.{Gate}
use Rattle.cert_text.specs.AllowedDefinitions.{AreBlocksOf, HaveFewSteps}
use Rattle.cert_text.specs.Canonical.{row_text, signed_text, step_text}
use Rattle.cert_text.specs.DefinitionBlocks.{Definition, DefinitionBlock, FreePair, Valuation, defined, free}
use Rattle.cert_text.specs.DefinitionGrammar.{SpellsDefinitions}
use Rattle.cert_text.specs.DefinitionText.{definitions_of}

-- how many existentials the formula has
abbrev pub definitions_header_text : ℕ → List ℕ
definitions_header_text count = codes "p dqd " ++ number_line count

-- the literal of the gate's variable, and its two sides
abbrev pub gate_text : Gate → List ℕ
gate_text g = number_text (2 * g.variable) ++ (number_text g.left ++ number_line g.right)

-- the existential, the output, how many gates and steps there are, then gates and steps
abbrev pub definition_text : Definition → List ℕ
definition_text d =
    codes "t "
    ++ (number_text d.existential
    ++ (number_text d.output ++ (number_text (length d.gates) ++ number_line (length d.steps))))
    ++ (flat_map gate_text d.gates ++ flat_map step_text d.steps)

-- `v`, each existential with its bit as its sign, and `0`
abbrev pub values_text : List ℕ → List Bool → List ℕ
values_text variables values =
    codes "v " ++ (flat_map (λ x. signed_text x.1 x.0) (zip variables values) ++ line_end)

abbrev pub valuation_text : Dqbf → Valuation → List ℕ
valuation_text f v = row_text f.universals v.row ++ values_text (existential_variables f) v.values

-- the existential, and two assignments
abbrev pub pair_text : Dqbf → FreePair → List ℕ
pair_text f p =
    (codes "f " ++ number_line p.existential) ++ (valuation_text f p.first ++ valuation_text f p.second)

abbrev pub block_text : Dqbf → DefinitionBlock → List ℕ
block_text f (defined d) = definition_text d
block_text f (free p) = pair_text f p

abbrev pub definitions_text : Dqbf → List DefinitionBlock → List ℕ
definitions_text f blocks =
    definitions_header_text (length f.existentials) ++ flat_map (block_text f) blocks

-- what is written is spelled, and read back
abbrev pub WrittenDefinitionsSpell : Type 0
WrittenDefinitionsSpell =
    (f : Dqbf) (blocks : List DefinitionBlock) → IsLawful f
    → AreBlocksOf f (existential_variables f) blocks → HaveFewSteps blocks
    → SpellsDefinitions (definitions_text f blocks) f blocks

abbrev pub WrittenDefinitionsAreRead : Type 0
WrittenDefinitionsAreRead =
    (f : Dqbf) (blocks : List DefinitionBlock) (first : ℕ) → IsLawful f
    → AreBlocksOf f (existential_variables f) blocks → HaveFewSteps blocks
    → definitions_of f (definitions_text f blocks) first ≡ Ok blocks
