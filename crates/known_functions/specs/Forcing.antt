-- Words of contracts: when it may be asked what a row forces, and what is left by a call that asks.
use Rattle.std.specs.Prelude.{◌≡◌, List, length}
use Rattle.std.specs.List.{All}
use Rattle.dq_lits.specs.Formula.{Dqbf, IsWellFormed}
use Rattle.dq_formula.specs.Prefix.{existential_variables}
use Rattle.dq_formula.specs.Rules.{IsRule}
use Rattle.aig_graph.specs.Graph.{AigGraph}
use Rattle.hint_log.specs.Entries.{Entry, ProofLog}
use Rattle.hint_log.specs.Growth.{Grew}
use Rattle.definability.specs.Copies.{IsDefinability}
use Rattle.definability.specs.declared.definability.Definability.{Definability}
use Rattle.known_functions.specs.declared.definitions.Definitions.{Definitions}
use Rattle.known_functions.specs.declared.forcing.TableModel.{TableModel}
use Rattle.known_functions.specs.Searching.{AreKnown, IsAsked}

-- what these definitions know of the existentials' functions
abbrev pub AreKnownIn : Dqbf → AigGraph → Definitions → Type 0
AreKnownIn f graph d = AreKnown f d.ranks.items graph d.nodes.items d.rules.items d.guesses.items

-- a model's points: one for each row, a bit for each existential, under rows of all universals
pub record IsModelOf (f : Dqbf) (model : TableModel) : Type 0 where
  pub whole : All (λ row. length row ≡ length f.universals) model.table.now.rows
  pub variables : model.points.now.variables ≡ existential_variables f
  pub rows : length model.points.now.rows ≡ length model.table.now.rows

-- before it is asked what a row forces
pub record MayForce (f : Dqbf) (d : Definitions) (copies : Definability) (entries : List Entry) : Type 0 where
  pub formula : IsWellFormed f
  pub copied : IsDefinability f copies entries
  pub one_each : length d.nodes.items ≡ length f.existentials
  pub forced : All (IsRule f) d.rules.items

-- and behind a call that asked: rules alone may have come, and in the log what questions add
pub record HasForced (f : Dqbf) (copies : Definability) (before after : Definitions)
    (old new : ProofLog) : Type 0 where
  pub ranks : after.ranks.items ≡ before.ranks.items
  pub nodes : after.nodes.items ≡ before.nodes.items
  pub guesses : after.guesses.items ≡ before.guesses.items
  pub forced : All (IsRule f) after.rules.items
  pub copied : IsDefinability f copies new.entries
  pub grew : Grew (IsAsked f) old new
