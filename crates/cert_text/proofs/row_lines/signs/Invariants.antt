use Rattle.std.proofs.Common.{◌≡◌, ◌<◌, ℕ, false, map, length, get_or}
use Rattle.std.specs.Int.{is_positive}
use Rattle.cert_text.proofs.row_lines.signs.Given as goal

-- the bits below i are written
abbrev pub invariant-loop-i : goal.invariant-loop-i
invariant-loop-i l = record {
  size : length l.row ≡ length l.numbers;
  written : (k : ℕ) → k < l.i → get_or l.row k false ≡ get_or (map is_positive l.numbers) k false;
}
