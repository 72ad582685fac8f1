-- How a trail is kept.
use Rattle.std.specs.Prelude.{◌+◌, ◌≤◌, length, reverse, count_by, vec_capacity}
use Rattle.rup_core.specs.Assigned.{Assigned}
use Rattle.rup_core.specs.Table.{TellsFar}
use Rattle.dq_lits.specs.Table.{Tells}
use Rattle.dq_lits.specs.Truth.{is_assigned}
use Rattle.rup_core.specs.declared.trails.Trail.TheInside.{Inside}

abbrev pub assigned_in : Inside → Assigned
assigned_in t = record { variables = length t.near.items; trues = reverse t.literals.items }

pub record IsTrail (t : Inside) : Type 0 where
  pub told : Tells t.near.items (reverse t.literals.items)
  pub far_told : TellsFar (length t.near.items) t.far (reverse t.literals.items)
  -- there is room for a literal of each variable of the table that has no value yet
  pub room : length t.literals.items + length t.near.items
      ≤ vec_capacity t.literals + count_by is_assigned t.near.items
  pub whole : length t.near.items ≤ vec_capacity t.literals
