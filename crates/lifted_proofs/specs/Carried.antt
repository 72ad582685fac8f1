-- The lines of the simpler formula's refutation, behind those that derive its instances.
use Rattle.std.specs.Prelude.{◌≡◌, ◌≤◌, ◌+◌, ◌-◌, ◌/◌, ◌%◌, nat_le, ℕ, true, List, [], ◌∷◌, length, map, Option, None, Some, if◌then◌else◌, slice_index_or}
use Rattle.std.specs.List.{Contains, slice_get}
use Rattle.number_tables.specs.Numbers.{has_number, place_of}
use Rattle.dq_lits.specs.Literal.{Literal}
use Rattle.dq_lits.specs.Formula.{Dqbf}
use Rattle.dq_lits.specs.Derivation.{ProofStep}
use Rattle.dq_prep.specs.declared.traces.Taken.{Taken}
use Rattle.rup_core.specs.Items.{ProofItem, derived, gone}
use Rattle.lifted_proofs.specs.Goals.{IsSource, left_by}
use Rattle.lifted_proofs.specs.declared.goals.Source.{Source}
use Rattle.lifted_proofs.specs.declared.goals.Goal.{Goal}

-- the lines alone
abbrev pub lines_of : List ProofItem → List ProofStep
lines_of [] = []
lines_of (derived step ∷ items) = step ∷ lines_of items
lines_of (gone ids ∷ items) = lines_of items

-- where each clause that is kept comes from
pub record AreSources (f : Dqbf) (units : List Taken) (kept : List (List Literal))
    (sources : List Source) : Type 0 where
  pub many : length sources ≡ length kept
  pub each : (j : ℕ) (s : Source) → slice_get sources j ≡ Some s
      → IsSource f units s × (slice_get kept j ≡ Some (left_by f units s))

-- what the ids of an instance, and of a line, become
pub record Renumbering : Type 0 where
  pub wanted : List ℕ
  pub ids : List ℕ
  pub old_last : ℕ
  pub new_last : ℕ

abbrev pub id_at : List ℕ → Option ℕ → ℕ
id_at ids None = 0
id_at ids (Some place) = slice_index_or ids place 0

abbrev pub carried_id : Renumbering → ℕ → ℕ
carried_id r id =
    if nat_le id r.old_last then id_at r.ids (place_of r.wanted id) else id - r.old_last + r.new_last

abbrev pub carried_step : Renumbering → ProofStep → ProofStep
carried_step r step = record {
  id = carried_id r step.id;
  literals = step.literals;
  hints = map (carried_id r) step.hints;
}

-- each line has these among its hints
abbrev pub IsHinted : List ProofStep → ℕ → Type 0
IsHinted steps h = (s : ProofStep) × (Contains steps s × Contains s.hints h)

-- the ids of instances that lines hint at, each once
pub record AreWanted (steps : List ProofStep) (last : ℕ) (wanted : List ℕ) : Type 0 where
  pub all : (h : ℕ) → IsHinted steps h → h ≤ last → has_number wanted h ≡ true
  pub each : (h : ℕ) → has_number wanted h ≡ true → IsHinted steps h × (h ≤ last)

-- the goal of an instance, with so many rows and clauses
pub record IsFirstGoal (sources : List Source) (h : ℕ) (g : Goal) : Type 0 where
  pub source : slice_get sources ((h - 1) % length sources) ≡ Some g.source
  pub row : g.row ≡ (h - 1) / length sources
