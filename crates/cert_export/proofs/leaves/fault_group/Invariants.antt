use Rattle.std.proofs.Common.{◌≡◌, ℕ, Some, take}
use Rattle.std.specs.List.{Contains}
use Rattle.hint_log.specs.Entries.{origin_at}
use Rattle.hint_log.specs.declared.origins.Leaf.{Leaf}
use Rattle.hint_log.specs.declared.origins.Origin.TheVariants.{Fault}
use Rattle.cert_export.proofs.leaves.fault_group.Given as goal

abbrev pub invariant-loop-id : goal.invariant-loop-id
invariant-loop-id l = (id j i : ℕ) (out : Leaf) → Contains (take l.id-index l.ids) id →
    origin_at l.log.entries id ≡ Some (Fault j i out) → ⊥
