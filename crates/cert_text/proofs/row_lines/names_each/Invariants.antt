use Rattle.std.proofs.Common.{◌≡◌, ◌++◌, ◌∷◌, [], nat_abs, map, length}
use Rattle.std.specs.Str.{bytes_eq as same_numbers}
use Rattle.cert_text.proofs.row_lines.names_each.Given as goal

abbrev pub invariant-loop-x : goal.invariant-loop-x
invariant-loop-x l =
    same_numbers (map nat_abs l.numbers) (l.universals ++ 0 ∷ []) ≡ same_numbers (map nat_abs l.fn.numbers)
    (l.fn.universals ++ 0 ∷ [])

abbrev pub decreases-loop-x : goal.decreases-loop-x
decreases-loop-x l = length l.universals
