-- The grammar: which definitions a text spells for a formula, in this project's own format: gates
-- with AIGER's literals (A. Biere, K. Heljanko, S. Wieringa, FMV report 11/2, 2011), steps as in
-- LRAT (L. Cruz-Filipe et al., "Efficient certified RAT verification", 2017), and two assignments
-- (A. Padoa, 1900).
-- Tokens stand between any spaces, tabs and CRs.
use Rattle.std.specs.Prelude.{◌≡◌, ℕ, ◌*◌, ℤ, pos, Bool, List, [], ◌∷◌, ◌++◌, map, length, replicate, codes}
use Rattle.std.specs.List.{AllZip, flat_map}
use Rattle.dq_lits.specs.Derivation.{ProofStep}
use Rattle.dq_lits.specs.Formula.{Dqbf}
use Rattle.dq_text.specs.Number.{number_of}
use Rattle.dq_formula.specs.Prefix.{existential_variables}
use Rattle.circuit_plain.specs.declared.circuits.Gate.{Gate}
use Rattle.cert_text.specs.AllowedDefinitions.{AreBlocksOf, HaveFewSteps}
use Rattle.cert_text.specs.DefinitionBlocks.{Definition, Valuation, FreePair, DefinitionBlock, defined, free}
use Rattle.cert_text.specs.Grammar.{Tokens, integers, row_numbers, step_numbers, tokens_by_line}

-- a line: words, and numbers behind them
pub record Line : Type 0 where
  pub words : List (List ℕ)
  pub numbers : List ℤ

pub record SpellsLine (tokens : Tokens) (line : Line) : Type 0 where
  pub rest : Tokens
  pub words : tokens ≡ line.words ++ rest
  pub numbers : map number_of rest ≡ integers line.numbers

abbrev pub naturals : List ℕ → List ℤ
naturals ns = map (λ n. pos n) ns

-- `p dqd`, and how many existentials there are
abbrev pub header_spelling : Dqbf → Line
header_spelling f =
    record {
      words = codes "p" ∷ codes "dqd" ∷ [];
      numbers = naturals (length f.existentials ∷ []);
    }

-- the literals of the gate's variable and of its two sides
abbrev pub gate_spelling : Gate → Line
gate_spelling g = record { words = []; numbers = naturals (2 * g.variable ∷ g.left ∷ g.right ∷ []) }

-- the id, the literals and 0, the hints and 0
abbrev pub step_spelling : ProofStep → Line
step_spelling s = record { words = []; numbers = step_numbers s }

-- `t`, the existential, the output's literal, how many gates and steps there are, and their lines
abbrev pub definition_spelling : Definition → List Line
definition_spelling d =
    record {
      words = codes "t" ∷ [];
      numbers = naturals (d.existential ∷ d.output ∷ length d.gates ∷ length d.steps ∷ []);
    }
    ∷ (map gate_spelling d.gates ++ map step_spelling d.steps)

-- a letter, each of these variables with its bit as its sign, and 0
abbrev pub signs_spelling : List ℕ → List ℕ → List Bool → Line
signs_spelling letter variables bits =
    record { words = letter ∷ []; numbers = row_numbers variables bits }

abbrev pub valuation_spelling : Dqbf → Valuation → List Line
valuation_spelling f v =
    signs_spelling (codes "u") f.universals v.row
    ∷ signs_spelling (codes "v") (existential_variables f) v.values ∷ []

-- `f`, the existential, and the lines of two assignments
abbrev pub pair_spelling : Dqbf → FreePair → List Line
pair_spelling f p =
    record { words = codes "f" ∷ []; numbers = naturals (p.existential ∷ []) }
    ∷ (valuation_spelling f p.first ++ valuation_spelling f p.second)

abbrev pub block_spelling : Dqbf → DefinitionBlock → List Line
block_spelling f (defined d) = definition_spelling d
block_spelling f (free p) = pair_spelling f p

-- the header, the lines of each block, and then only lines of blanks; the blocks are those of all
-- existentials in order, and have what a text can hold
pub record SpellsDefinitions (text : List ℕ) (f : Dqbf) (blocks : List DefinitionBlock) : Type 0 where
  pub spelled : List Tokens
  pub blank_lines : ℕ
  pub lines : tokens_by_line text ≡ spelled ++ replicate blank_lines []
  pub each : AllZip SpellsLine spelled (header_spelling f ∷ flat_map (block_spelling f) blocks)
  pub allowed : AreBlocksOf f (existential_variables f) blocks
  pub few_steps : HaveFewSteps blocks
