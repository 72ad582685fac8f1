-- What is known of the existentials, and what a question about them adds to the log.
use Rattle.std.specs.Prelude.{◌≡◌, ◌+◌, ◌≤◌, ℕ, List, length, Option, None, Some}
use Rattle.std.specs.List.{All}
use Rattle.dq_lits.specs.Formula.{Dqbf}
use Rattle.hint_log.specs.Deciding.{DecidesNothing}
use Rattle.hint_log.specs.Entries.{Entry, Learned, Answer, ProofLog, steps_of}
use Rattle.aig_graph.specs.declared.nodes.Node.{Node}
use Rattle.aig_graph.specs.Graph.{AigGraph}
use Rattle.candidate_functions.specs.Candidates.{AreDefinitions, AreGuesses}
use Rattle.dq_formula.specs.Rules.{IsRule}
use Rattle.dq_formula.specs.declared.rules.Rule.{Rule}
use Rattle.definability.specs.declared.defining.Found.{Found}
use Rattle.definability.specs.declared.defining.Found.TheVariants.{Defined, Free}

-- what questions add to the log: learned clauses, and answers that decide nothing
abbrev pub IsAsked : Dqbf → List Entry → Entry → Type 0
IsAsked f earlier (Learned clause hints) = Unit {0}
IsAsked f earlier (Answer clause hints) = DecidesNothing f earlier (Answer clause hints)
IsAsked f earlier _ = ⊥

-- the definition that was found, or none
abbrev pub definition_in : Found → Option Node
definition_in (Defined node) = Some node
definition_in (Free pair) = None

-- what is known of the existentials' functions, where definitions read by these ranks
pub record AreKnown (f : Dqbf) (ranks : List ℕ) (graph : AigGraph)
    (definitions : List (Option Node)) (rules : List Rule)
    (guesses : List (Option Node)) : Type 0 where
  pub one_each : length definitions ≡ length f.existentials
  pub defined : AreDefinitions f ranks graph definitions
  pub forced : All (IsRule f) rules
  pub guessed : AreGuesses f graph guesses

-- an input for each universal and each existential
abbrev pub HasInputs : Dqbf → AigGraph → Type 0
HasInputs f graph = graph.inputs ≡ length f.universals + length f.existentials

-- no step was lost
pub record LogGrew (old new : ProofLog) : Type 0 where
  pub steps : steps_of old.entries ≤ steps_of new.entries
  pub limit : new.limit ≡ old.limit
