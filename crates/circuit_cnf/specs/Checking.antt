-- How a checker of circuits stands in the log.
use Rattle.std.specs.Prelude.{◌≡◌, ◌≢◌, ℕ, Bool, false, List, ◌∷◌, map, None, Some, IsSome}
use Rattle.std.specs.List.{Contains}
use Rattle.dq_lits.specs.Literal.{Literal, variable_of}
use Rattle.dq_lits.specs.Formula.{Dqbf}
use Rattle.hint_log.specs.Entries.{Entry, Round, ProofLog, name_of}
use Rattle.hint_log.specs.declared.names.Name.TheVariants.{Input, Bad}
use Rattle.hint_log.specs.Growth.{Grew}
use Rattle.log_laws.specs.Engines.{Engine, circuits, same_engine, IsAddedBy}
use Rattle.hint_log.specs.Naming.{named_literal, AreNamedAs}
use Rattle.oracle.specs.declared.groups.Group.{Group}
use Rattle.circuit_cnf.specs.Gates.{AreKnown, groups_of}
use Rattle.circuit_cnf.specs.declared.checkers.Checker.{Checker}

-- a positive literal for each universal, on the variable that is named for it
abbrev pub AreInputs : List ℕ → List Literal → List Entry → Type 0
AreInputs universals inputs entries =
    AreNamedAs entries inputs (map (λ x. named_literal (Input x) false) universals)

-- the group that gates go to, and the groups that were made for gates so far
abbrev pub group_of : Checker → ℕ
group_of checker = variable_of checker.gates.group.selector

abbrev pub gate_groups : Checker → List Group
gate_groups checker = groups_of checker.gates

-- none of the groups was there
abbrev pub AreNewGroups : List Group → List Entry → Type 0
AreNewGroups groups entries =
    (g : Group) → Contains groups g → name_of entries (variable_of g.selector) ≡ None

-- the gates' groups and names are known, every universal has its input, and what says that a clause
-- is false says it of a group that was made
pub record IsChecker (f : Dqbf) (checker : Checker) (entries : List Entry) : Type 0 where
  pub gates : AreKnown checker.gates entries
  pub inputs : AreInputs f.universals checker.inputs.items entries
  pub bads : (v group j : ℕ) → name_of entries v ≡ Some (Bad group j)
      → IsSome (name_of entries group)

-- what another engine's call adds leaves a checker as it is
abbrev pub CheckersStay : Type 0
CheckersStay =
    (f : Dqbf) (checker : Checker) (engine : Engine) (group : ℕ) (silent : Bool)
    (old new : ProofLog) → same_engine circuits engine ≡ false
    → ((g : Group) → Contains (gate_groups checker) g → variable_of g.selector ≢ group)
    → Grew (IsAddedBy f engine group silent old.entries) old new → IsChecker f checker old.entries
    → IsChecker f checker new.entries

-- and so does a round
abbrev pub CheckersStayWithRounds : Type 0
CheckersStayWithRounds =
    (f : Dqbf) (checker : Checker) (entries : List Entry) (row values : List Bool) (j : ℕ)
    → IsChecker f checker entries
    → IsChecker f checker (Round row values j ∷ entries)
