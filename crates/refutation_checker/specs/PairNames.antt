-- Words of private contracts: a formula and some rows as they are held, and names of pairs.
use Rattle.std.specs.Prelude.{◌≡◌, ◌<◌, ◌≤◌, ◌^◌, Some, length}
use Rattle.std.specs.List.{All}
use Rattle.dq_formula.specs.Prefix.{IsLawful}
use Rattle.cert_text.specs.Header.{max_count}
use Rattle.refutation_checker.specs.Bindings.{AreAllBound}
use Rattle.refutation_checker.specs.KnownBases.{AreKept}
use Rattle.refutation_checker.specs.Namings.{Frame, Names, base_of, IsNaming}
use Rattle.refutation_checker.specs.Rows.{row_of}
use Rattle.refutation_checker.specs.declared.pair_names.Expansion.{Expansion}
use Rattle.refutation_checker.specs.declared.pair_names.LastBase.{LastBase}
use Rattle.refutation_checker.specs.declared.pair_names.PairNames.{PairNames}

abbrev pub frame : Expansion → Frame
frame e = record {
  formula = e.formula.now;
  rows = e.rows.now;
  sets = e.bindings.now.sets.items;
  bindings = e.bindings.now.of.items;
}

-- what holds of a lawful formula, whole rows and the formula's bindings
pub record IsFrame (x : Frame) : Type 0 where
  pub lawful : IsLawful x.formula
  pub whole : All (λ row. length row ≡ length x.formula.universals) x.rows
  pub few : length x.rows ≤ max_count
  pub bound : AreAllBound x.formula x.sets x.bindings

abbrev pub names_in : PairNames → Names
names_in n = record { trees = n.trees.items; next = n.next }

-- what was asked for last is right
abbrev pub IsLast : Frame → Names → LastBase → Type 0
IsLast x n last = last.set < length x.sets
    → (last.row < length x.rows) × (base_of x n last.set (row_of x.rows last.row) ≡ Some last.base)

pub record AreNames (x : Frame) (n : PairNames) : Type 0 where
  pub naming : IsNaming x (names_in n)
  pub kept : AreKept x (names_in n) n.known.numbers n.known.bases.items
  pub last : IsLast x (names_in n) n.last
  pub small : n.next ≤ 2 ^ 61
