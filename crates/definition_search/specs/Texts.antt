-- A text of definitions of which no block is at fault, and how the log grows by it.
use Rattle.std.specs.Prelude.{◌≡◌, ℕ, List, None, Ok}
use Rattle.dq_lits.specs.Formula.{Dqbf}
use Rattle.dq_formula.specs.Prefix.{IsLawful, existential_variables}
use Rattle.hint_log.specs.Deciding.{IsUndecided}
use Rattle.hint_log.specs.Entries.{ProofLog, rounds_of}
use Rattle.hint_log.specs.ProductiveLog.{IsProductiveLog}
use Rattle.cert_text.specs.AllowedDefinitions.{AreBlocksOf, HaveFewSteps}
use Rattle.cert_text.specs.CanonicalDefinitions.{definitions_text}
use Rattle.cert_text.specs.DefinitionBlocks.{DefinitionBlock}
use Rattle.defined_checker.specs.Judging.{AreJudged, IsChecked, counts_of, no_counts}

-- the log is of productive work for the formula still, within the same limit, and neither a round
-- nor an answer that decides was added
pub record GoesOn (f : Dqbf) (old new : ProofLog) : Type 0 where
  pub productive : IsProductiveLog f new.entries
  pub limit : new.limit ≡ old.limit
  pub rounds : rounds_of new.entries ≡ rounds_of old.entries
  pub undecided : IsUndecided f old.entries → IsUndecided f new.entries

-- a block for each of these existentials, in order: each can be read back, and none is at fault
pub record AreRightBlocks (f : Dqbf) (ys : List ℕ) (blocks : List DefinitionBlock) : Type 0 where
  pub each : AreBlocksOf f ys blocks
  pub few : HaveFewSteps blocks
  pub judged : AreJudged f blocks None

-- the canonical text of such blocks of all existentials
pub record IsTextOfDefinitions (f : Dqbf) (text : List ℕ) : Type 0 where
  pub blocks : List DefinitionBlock
  pub right : AreRightBlocks f (existential_variables f) blocks
  pub written : text ≡ definitions_text f blocks

-- the check of such a text answers the counts of its blocks
abbrev pub TextsOfDefinitionsAreAccepted : Type 0
TextsOfDefinitionsAreAccepted =
    (f : Dqbf) (text : List ℕ) (first : ℕ) → IsLawful f → (is : IsTextOfDefinitions f text)
    → IsChecked f text first (Ok (counts_of no_counts is.blocks))
