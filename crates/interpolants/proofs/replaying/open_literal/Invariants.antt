use Rattle.std.proofs.Common.{◌≡◌, drop}
use Rattle.std.specs.List.{find}
use Rattle.interpolants.specs.Replay.{is_open}
use Rattle.interpolants.proofs.replaying.open_literal.Given as goal

abbrev pub invariant-loop-l : goal.invariant-loop-l
invariant-loop-l l = find (is_open l.trues) (drop l.l-index l.clause) ≡ find (is_open l.trues) l.clause
