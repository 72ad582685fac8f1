use Rattle.std.proofs.Common.{◌≡◌, ◌*◌, ◌^◌, ◌≤◌, take, length}
use Rattle.std.specs.List.{sum_by}
use Rattle.cert_text.proofs.proof_reader.literals_in_all.Given as goal

abbrev pub invariant-loop-j : goal.invariant-loop-j
invariant-loop-j l = record {
  counted : l.sum ≡ sum_by length (take l.j l.f.matrix);
  small : l.sum ≤ l.j * 2 ^ 64;
}
