-- What `dqsolve pec` says of two circuits' texts with 10 and with 20, from bytes to functions. It
-- stands on the headline's page: lines, words, symbols, circuits and their bits are those there.
use Rattle.std.specs.Prelude.{◌≡◌, ◌≢◌, ℕ, ◌*◌, ◌/◌, ◌≤◌, Bool, List, [], ◌∷◌, ◌++◌, map, length, drop, codes, All, AllPairs, Contains}
use Rattle.std.specs.List.{AllZip, flat_map}
use Rattle.headline.specs.Headline.{Circuit, Fits, IsCircuit, Named, Reaches, SpellsAscii, Spells, Symbol, header_symbols, lines, literal_bit, natural, rows, word, words}

-- TEXTS

-- a box, in literals: what it reads, and the inputs that it drives
pub record Box : Type 0 where
  pub reads : List ℕ
  pub drives : List ℕ

-- `K L in1 .. inK out1 .. outL`
abbrev pub box_symbols : Box → List Symbol
box_symbols b =
    natural (length b.reads) ∷ natural (length b.drives)
    ∷ (map natural b.reads ++ map natural b.drives)

-- the header, a line for each input, output and gate, and names, as on the headline's page; then the
-- first line that is `c`, a line `pec B`, and a line for each of B boxes
pub record SpellsBoxes (text : List ℕ) (c : Circuit) (boxes : List Box) : Type 0 where
  pub header : List ℕ
  pub body : List (List ℕ)
  pub names : List (List ℕ)
  pub mark : List ℕ
  pub count : List ℕ
  pub stated : List (List ℕ)
  pub others : List (List ℕ)
  pub zeros : ℕ
  pub few : zeros ≤ 4
  pub lines_are : lines text
      ≡ header ∷ (body ++ (names ++ (mark ∷ (count ∷ (stated ++ others)))))
  pub header_is : AllZip Spells (words header) (header_symbols (codes "aag") c zeros)
  pub body_is : AllZip (λ line row. AllZip Spells (words line) row) body (rows c)
  pub unmarked : All (λ line. words line ≢ codes "c" ∷ []) names
  pub mark_is : words mark ≡ codes "c" ∷ []
  pub count_is : AllZip Spells (words count) (word (codes "pec") ∷ natural (length boxes) ∷ [])
  pub boxes_are : AllZip (λ line b. AllZip Spells (words line) (box_symbols b)) stated boxes

-- DESIGNS

-- both circuits have the same outputs, by place, and the same inputs, of which the implementation has
-- further ones, that its boxes drive
pub record Design : Type 0 where
  pub specification : Circuit
  pub implementation : Circuit
  pub boxes : List Box

abbrev pub driven : List Box → List ℕ
driven boxes = flat_map (λ b. b.drives) boxes

abbrev pub further : Design → List ℕ
further d = drop (length d.specification.inputs) d.implementation.inputs

-- what a box reads reaches nothing that it drives, or that a later one does
abbrev pub AreOrdered : Circuit → List Box → Type 0
AreOrdered c [] = Unit {0}
AreOrdered c (b ∷ boxes) =
    All (λ l. All (λ out. Reaches c (l / 2) (out / 2) → ⊥) (driven (b ∷ boxes))) b.reads
    × AreOrdered c boxes

-- no cycle; each further input is driven once, and nothing else is
pub record IsDesign (d : Design) : Type 0 where
  pub specification : IsCircuit d.specification
  pub implementation : IsCircuit d.implementation
  pub inputs : length d.specification.inputs ≤ length d.implementation.inputs
  pub outputs : length d.specification.outputs ≡ length d.implementation.outputs
  pub drives : All (λ out. Contains (map (λ v. 2 * v) (further d)) out) (driven d.boxes)
  pub once : AllPairs (λ a b. a ≢ b) (driven d.boxes)
  pub each : All (λ v. Contains (driven d.boxes) (2 * v)) (further d)
  pub ordered : AreOrdered d.implementation d.boxes

-- by the literal that it drives, a function of what its box reads
abbrev pub Contents : Type 0
Contents = ℕ → List Bool → Bool

abbrev pub AreFilled : List Box → Contents → (ℕ → Bool) → Type 0
AreFilled boxes value m =
    All (λ b. All (λ out. m (out / 2) ≡ value out (map (literal_bit m) b.reads)) b.drives) boxes

-- whatever the inputs are, the filled implementation's outputs are the specification's
abbrev pub Fit : Design → Contents → Type 0
Fit d value =
    (inputs m n : ℕ → Bool) → Fits d.specification inputs m → Fits d.implementation inputs n
    → AreFilled d.boxes value n
    → map (literal_bit m) d.specification.outputs ≡ map (literal_bit n) d.implementation.outputs

-- THE ANSWER: with 10 some contents fit, with 20 none do

pub record AnswersBoxes (specification implementation : List ℕ) (status : ℕ) : Type 0 where
  pub d : Design
  pub names : List Named
  pub specified : SpellsAscii specification d.specification names
  pub implemented : SpellsBoxes implementation d.implementation d.boxes
  pub design : IsDesign d
  pub fitting : status ≡ 10 → (value : Contents) × Fit d value
  pub none : status ≡ 20 → (value : Contents) → Fit d value → ⊥
