use Rattle.std.proofs.Common.{◌≡◌, ◌++◌, drop}
use Rattle.std.specs.List.{flat_map, zip}
use Rattle.cert_text.specs.Canonical.{signed_text}
use Rattle.cert_text.proofs.writer.write_bits.Given as goal

abbrev pub invariant-loop-i : goal.invariant-loop-i
invariant-loop-i l =
    l.text.items ++ flat_map (λ x. signed_text x.1 x.0) (drop l.i (zip l.universals l.row))
    ≡ l.fn.text.items ++ flat_map (λ x. signed_text x.1 x.0) (zip l.universals l.row)
