-- Words of private contracts: what is left by a call that may ask what a row forces.
use Rattle.std.specs.Prelude.{◌≡◌, Bool, true}
use Rattle.std.specs.List.{All}
use Rattle.dq_lits.specs.Formula.{Dqbf}
use Rattle.dq_formula.specs.Rules.{IsRule}
use Rattle.hint_log.specs.Entries.{ProofLog}
use Rattle.hint_log.specs.Growth.{Grew}
use Rattle.definability.specs.Copies.{IsDefinability}
use Rattle.definability.specs.declared.definability.Definability.{Definability}
use Rattle.known_functions.specs.Searching.{IsAsked}
use Rattle.known_functions.specs.declared.definitions.Definitions.{Definitions}

-- rules alone may have come, and in the log what questions add; copies that stood still do
pub record LeavesForced (f : Dqbf) (p : Definability) (ready : Bool) (before after : Definitions)
    (old new : ProofLog) : Type 0 where
  pub ranks : after.ranks.items ≡ before.ranks.items
  pub nodes : after.nodes.items ≡ before.nodes.items
  pub guesses : after.guesses.items ≡ before.guesses.items
  pub forced : All (IsRule f) after.rules.items
  pub copied : ready ≡ true → IsDefinability f p new.entries
  pub grew : Grew (IsAsked f) old new
