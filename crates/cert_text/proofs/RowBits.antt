-- The universals of a row with its bits, walked by place.
use Rattle.std.proofs.Common.{◌≡◌, ◌≤◌, ◌<◌, ◌+◌, ℕ, Bool, false, min, List, ◌++◌, length, drop, get_or, sym, ◌∙◌, ap, append_assoc, append-nil, arith}
use Rattle.std.specs.List.{flat_map, zip}
use Rattle.std.proofs.Math.ListN.{drop_of_length-le}
use Rattle.std.proofs.lemmas.List.{drop_more}
use Rattle.std.proofs.lemmas.Slice.Zip.{get_or-zip, length-zip}
use Rattle.cert_text.specs.Canonical.{signed_text}

abbrev pub bit_text : ℕ × Bool → List ℕ
bit_text x = signed_text x.1 x.0

pub one_bit_more : (xs : List ℕ) (bits : List Bool) (i : ℕ) (old new start : List ℕ) → i < length xs → i < length bits →
    new ≡ old ++ signed_text (get_or bits i false) (get_or xs i 0) →
    old ++ flat_map bit_text (drop i (zip xs bits)) ≡ start →
    new ++ flat_map bit_text (drop (i + 1) (zip xs bits)) ≡ start
one_bit_more xs bits i old new start in_xs in_bits grown so_far =
    let both = zip xs bits in
    let below : i < length both = omega (arith, length-zip xs bits, in_xs, in_bits) in
    let is = get_or-zip xs bits i (0, false) in_xs in_bits in
    ap (λ bytes. bytes ++ flat_map bit_text (drop (i + 1) both)) (grown ∙ ap (λ x. old ++ bit_text x) (sym is))
    ∙ append_assoc old (bit_text (get_or both i (0, false))) (flat_map bit_text (drop (i + 1) both))
    ∙ ap (λ ys. old ++ flat_map bit_text ys) (sym (drop_more both i (0, false) below))
    ∙ so_far

pub no_bit_more : (xs : List ℕ) (bits : List Bool) (i : ℕ) (text start : List ℕ) → min (length xs) (length bits) ≤ i →
    text ++ flat_map bit_text (drop i (zip xs bits)) ≡ start → text ≡ start
no_bit_more xs bits i text start past so_far = search (arith, length-zip, append-nil, drop_of_length-le)
