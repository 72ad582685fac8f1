-- What `dqsolve session` writes with 0, of a formula's text and a script's, from bytes to functions. It
-- stands on the headline's page: lines, words, symbols, formulas and their truth are those there.
use Rattle.std.specs.Prelude.{◌≡◌, ℕ, suc, ◌-◌, ◌^◌, ◌≤◌, ◌⊎◌, not, List, [], ◌∷◌, ◌++◌, map, length, codes, All, Contains}
use Rattle.std.specs.Fmt.{decimal}
use Rattle.std.specs.List.{AllZip, filter, list_all}
use Rattle.headline.specs.Headline.{Formula, HoldsSkolem, IsFalseFormula, IsTrueFormula, Literal, Spells, SpellsFormula, Symbol, clause, existentials_of, is_space, lines, literal_symbol, natural, universals_of, variable_of, word, words}

-- SCRIPTS: frames of clauses, one within another

pub data Command : Type 0 where
  push : Command
  add : List Literal → Command
  pop : Command
  solve : Command

-- `push`, `add l.. 0`, `pop`, `solve`
abbrev pub command_symbols : Command → List Symbol
command_symbols push = word (codes "push") ∷ []
command_symbols (add ls) = word (codes "add") ∷ (map literal_symbol ls ++ natural 0 ∷ [])
command_symbols pop = word (codes "pop") ∷ []
command_symbols solve = word (codes "solve") ∷ []

abbrev pub variables_of : Formula → List ℕ
variables_of f = universals_of f ++ map (λ y. y.variable) (existentials_of f)

-- with so many frames open, `add` and `pop` ask for one, and `add` for the formula's variables
abbrev pub AreLawful : Formula → ℕ → List Command → Type 0
AreLawful f depth [] = Unit {0}
AreLawful f depth (push ∷ commands) = AreLawful f (suc depth) commands
AreLawful f depth (add ls ∷ commands) =
    (1 ≤ depth) × All (λ l. Contains (variables_of f) (variable_of l)) ls
    × AreLawful f depth commands
AreLawful f depth (pop ∷ commands) = (1 ≤ depth) × AreLawful f (depth - 1) commands
AreLawful f depth (solve ∷ commands) = AreLawful f depth commands

-- a line for each command; lines of blanks may stand between them
pub record SpellsScript (text : List ℕ) (f : Formula) (commands : List Command) : Type 0 where
  pub spelled : AllZip (λ line c. AllZip Spells (words line) (command_symbols c))
      (filter (λ line. not (list_all is_space line)) (lines text)) commands
  pub lawful : AreLawful f 0 commands

abbrev pub with_clause : Formula → List Literal → Formula
with_clause f ls = record f { constraints = f.constraints ++ clause ls ∷ [] }

-- The formulas that are asked about, in order: `push` keeps the formula as it is, `add` gives it a
-- clause more, and `pop` goes back to the one that was kept last.
abbrev pub formulas_asked : Formula → List Formula → List Command → List Formula
formulas_asked f kept [] = []
formulas_asked f kept (push ∷ commands) = formulas_asked f (f ∷ kept) commands
formulas_asked f kept (add ls ∷ commands) = formulas_asked (with_clause f ls) kept commands
formulas_asked f [] (pop ∷ commands) = []
formulas_asked f (last ∷ kept) (pop ∷ commands) = formulas_asked last kept commands
formulas_asked f kept (solve ∷ commands) = f ∷ formulas_asked f kept commands

-- BLOCKS

abbrev pub BeginsWith : List ℕ → List ℕ → Type 0
BeginsWith line text = (others : List ℕ) × (text ≡ line ++ 10 ∷ others)

-- `s TRUE`: the formula is true, and the text, where it has at most 10^9 bytes, is a circuit's whose
-- outputs are its Skolem functions; `s FALSE`: it is false; `s UNKNOWN` says nothing of it
abbrev pub IsAnswer : Formula → List ℕ → Type 0
IsAnswer f text =
    (BeginsWith (codes "s TRUE") text × IsTrueFormula f
    × (length text ≤ 10 ^ 9 → HoldsSkolem f text))
    ⊎ ((BeginsWith (codes "s FALSE") text × IsFalseFormula f)
    ⊎ BeginsWith (codes "s UNKNOWN") text)

-- `solve K B`
abbrev pub block_line : ℕ → ℕ → List ℕ
block_line k bytes = codes "solve " ++ (decimal k ++ (codes " " ++ decimal bytes))

-- for each of these formulas, as K counts up, a line `solve K B` and an answer of B bytes; and no more
abbrev pub AreBlocks : ℕ → List Formula → List ℕ → Type 0
AreBlocks k [] text = text ≡ []
AreBlocks k (f ∷ formulas) text =
    (answer : List ℕ) × (others : List ℕ)
    × (text ≡ block_line k (length answer) ++ 10 ∷ (answer ++ others))
    × IsAnswer f answer × AreBlocks (suc k) formulas others

-- THE ANSWERS

pub record AnswersSession (formula script written : List ℕ) : Type 0 where
  pub f : Formula
  pub commands : List Command
  pub spelled : SpellsFormula formula f
  pub script_spelled : SpellsScript script f commands
  pub blocks : AreBlocks 1 (formulas_asked f [] commands) written
