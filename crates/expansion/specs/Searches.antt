-- What a search over the table's group and further ones finds, and what it adds to the log.
use Rattle.std.specs.Prelude.{◌≡◌, ℕ, ◌-◌, ◌==◌, Bool, false, List, [], ◌∷◌, map, slice_index_or}
use Rattle.std.specs.List.{Contains, position_or_len}
use Rattle.dq_lits.specs.Literal.{Assignment, Literal, positive, variable_of}
use Rattle.hint_log.specs.Deciding.{IsInstance}
use Rattle.hint_log.specs.Entries.{Entry, Given, Learned, Answer, clause_at}
use Rattle.hint_log.specs.declared.origins.Origin.{Origin}
use Rattle.log_laws.specs.Engines.{IsInGroup}
use Rattle.oracle.specs.Calls.{IsModelUnder}
use Rattle.oracle.specs.declared.groups.Group.{Group}
use Rattle.expansion.specs.Table.{TableState, PointState}

-- the variable of the pair of an existential under row k, counted from 1
abbrev pub pair_variable : TableState → ℕ → ℕ → ℕ
pair_variable t y k =
    slice_index_or (slice_index_or t.pairs (k - 1) []) (position_or_len (λ v. v == y) t.existentials) 0

-- the literals that switch the table's group and further ones on
abbrev pub switches : TableState → List Group → List Literal
switches t more = positive t.group ∷ map (λ g. g.selector) more

-- every clause that was given to these groups is an instance
abbrev pub HoldInstances : List Group → List Entry → Type 0
HoldInstances groups entries =
    (g : Group) (origin : Origin) (c : List Literal) → Contains groups g
    → Contains entries (Given origin c) → IsInGroup (variable_of g.selector) c → IsInstance origin

-- what a search adds: learned clauses, and an answer where it isn't silent
abbrev pub IsSearchEntry : Bool → List Entry → Entry → Type 0
IsSearchEntry silent earlier (Learned _ _) = Unit {0}
IsSearchEntry silent earlier (Answer _ _) = silent ≡ false
IsSearchEntry silent earlier _ = ⊥

-- the points are some values at the table's pairs, under which every clause of the log is true and
-- all that was assumed
pub record AreFound (t : TableState) (entries : List Entry) (assumptions : List Literal)
    (points : PointState) : Type 0 where
  pub values : Assignment
  pub model : IsModelUnder values (clause_at entries) assumptions
  pub variables : points.variables ≡ t.existentials
  pub bits : points.rows ≡ map (map values) t.pairs
