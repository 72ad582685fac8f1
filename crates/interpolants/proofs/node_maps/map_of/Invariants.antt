use Rattle.std.proofs.Common.{◌≡◌, ℕ, take}
use Rattle.interpolants.specs.Interpolant.{node_of}
use Rattle.interpolants.proofs.node_maps.map_of.Given as goal

abbrev pub invariant-loop-pair : goal.invariant-loop-pair
invariant-loop-pair l = (n : ℕ) → node_of l.map n ≡ node_of (take l.pair-index l.pairs) n
