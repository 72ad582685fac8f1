-- What is said of the blocks of a text of definitions.
use Rattle.std.specs.Prelude.{◌≡◌, ℕ, ◌+◌, ◌⊎◌, List, [], ◌∷◌, Option, None, Some, Result, Ok, Err}
use Rattle.dq_lits.specs.Derivation.{proof_fault, underived, unfinished}
use Rattle.dq_lits.specs.Formula.{Existential, Dqbf, existential_of}
use Rattle.cert_text.specs.DefinitionBlocks.{Definition, FreePair, DefinitionBlock, defined, free}
use Rattle.cert_text.specs.DefinitionGrammar.{SpellsDefinitions}
use Rattle.cert_text.specs.DefinitionText.{definitions_of}
use Rattle.defined_checker.specs.DefinitionBase.{definition_base}
use Rattle.defined_checker.specs.DefinitionReads.{IsForeign, IsFirstForeign}
use Rattle.defined_checker.specs.FreePairs.{IsFreePair}
use Rattle.defined_checker.specs.declared.faults.DefStop.{DefStop}
use Rattle.defined_checker.specs.declared.faults.DefStop.TheVariants.{Refused, Invalid, Memory}
use Rattle.defined_checker.specs.declared.faults.DefinitionFault.{DefinitionFault}
use Rattle.defined_checker.specs.declared.faults.DefinitionFault.TheVariants.{Reads, Step, Unfinished, Pair}
use Rattle.defined_checker.specs.declared.checks.DefinedCounts.{DefinedCounts}

-- the definition reads only what it may
abbrev pub ReadsItsOwn : Dqbf → Existential → Definition → Type 0
ReadsItsOwn f y d = (v : ℕ) → IsForeign f y d v → ⊥

-- the first fault of a block, or none: what a definition reads comes before its proof
pub data IsJudged (f : Dqbf) : DefinitionBlock → Option DefinitionFault → Type 0 where
  reads : {d : Definition} {y : Existential} {v : ℕ} → existential_of f d.existential ≡ Some y
      → IsFirstForeign f y d v → IsJudged f (defined d) (Some (Reads d.existential v))
  step : {d : Definition} {y : Existential} {id : ℕ} → existential_of f d.existential ≡ Some y
      → ReadsItsOwn f y d
      → proof_fault (definition_base f d) d.steps ≡ Some (underived id)
      → IsJudged f (defined d) (Some (Step d.existential id))
  open_end : {d : Definition} {y : Existential} → existential_of f d.existential ≡ Some y
      → ReadsItsOwn f y d
      → proof_fault (definition_base f d) d.steps ≡ Some unfinished
      → IsJudged f (defined d) (Some (Unfinished d.existential))
  defines : {d : Definition} {y : Existential} → existential_of f d.existential ≡ Some y
      → ReadsItsOwn f y d
      → proof_fault (definition_base f d) d.steps ≡ None
      → IsJudged f (defined d) None
  pair : {p : FreePair} {y : Existential} → existential_of f p.existential ≡ Some y
      → (IsFreePair f y p → ⊥) → IsJudged f (free p) (Some (Pair p.existential))
  separates : {p : FreePair} {y : Existential} → existential_of f p.existential ≡ Some y
      → IsFreePair f y p → IsJudged f (free p) None

-- the first block at fault decides
abbrev pub AreJudged : Dqbf → List DefinitionBlock → Option DefinitionFault → Type 0
AreJudged f [] fault = fault ≡ None
AreJudged f (block ∷ blocks) fault =
    (IsJudged f block None × AreJudged f blocks fault)
    ⊎ ((name : DefinitionFault) × (IsJudged f block (Some name) × (fault ≡ Some name)))

abbrev pub counted : DefinitionBlock → DefinedCounts → DefinedCounts
counted (defined _) counts = record { defined = counts.defined + 1; free = counts.free }
counted (free _) counts = record { defined = counts.defined; free = counts.free + 1 }

-- how many blocks of each kind there are besides these
abbrev pub counts_of : DefinedCounts → List DefinitionBlock → DefinedCounts
counts_of counts [] = counts
counts_of counts (block ∷ blocks) = counts_of (counted block counts) blocks

abbrev pub no_counts : DefinedCounts
no_counts = record { defined = 0; free = 0 }

-- the counts of the blocks where none is at fault, or the first refusal of the text, or the first
-- fault of a block, or want of memory
abbrev pub IsChecked : Dqbf → List ℕ → ℕ → Result DefinedCounts DefStop → Type 0
IsChecked f text first (Ok counts) =
    (blocks : List DefinitionBlock) × ((definitions_of f text first ≡ Ok blocks)
    × (AreJudged f blocks None × (counts ≡ counts_of no_counts blocks)))
IsChecked f text first (Err (Refused refusal)) = definitions_of f text first ≡ Err refusal
IsChecked f text first (Err (Invalid fault)) =
    (blocks : List DefinitionBlock) × ((definitions_of f text first ≡ Ok blocks)
    × AreJudged f blocks (Some fault))
IsChecked f text first (Err Memory) = Unit {0}

-- the text spells blocks of which none is at fault, so many of each kind
pub record SpellsFaultless (f : Dqbf) (text : List ℕ) (counts : DefinedCounts) : Type 0 where
  pub blocks : List DefinitionBlock
  pub spelled : SpellsDefinitions text f blocks
  pub judged : AreJudged f blocks None
  pub counted : counts ≡ counts_of no_counts blocks

-- such texts alone are accepted, with these counts, if there is memory
abbrev pub AcceptsFaultless : Dqbf → List ℕ → Result DefinedCounts DefStop → Type 0
AcceptsFaultless f text (Ok counts) = SpellsFaultless f text counts
AcceptsFaultless f text (Err (Refused _)) = (counts : DefinedCounts) → SpellsFaultless f text counts → ⊥
AcceptsFaultless f text (Err (Invalid _)) = (counts : DefinedCounts) → SpellsFaultless f text counts → ⊥
AcceptsFaultless f text (Err Memory) = Unit {0}
