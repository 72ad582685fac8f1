-- Words of private contracts: lines that are carried.
use Rattle.std.specs.Prelude.{◌<◌, ◌≤◌, ◌+◌, ◌^◌, length}
use Rattle.std.specs.List.{All}
use Rattle.dq_lits.specs.Derivation.{ProofStep}
use Rattle.lifted_proofs.specs.Carried.{Renumbering}
use Rattle.lifted_proofs.specs.declared.carried.Renumbered.{Renumbered}

abbrev pub renumbering : Renumbered → Renumbering
renumbering r = record {
  wanted = r.wanted.now;
  ids = r.ids.now;
  old_last = r.old_last;
  new_last = r.new_last;
}

-- each instance that is wanted has an id
pub record CanCarry (r : Renumbered) : Type 0 where
  pub ids : length r.wanted.now ≤ length r.ids.now
  pub small : r.new_last < 2 ^ 63 + 2 ^ 60

abbrev pub IsSmallStep : ProofStep → Type 0
IsSmallStep s = (s.id < 2 ^ 62) × All (λ h. h < 2 ^ 62) s.hints
