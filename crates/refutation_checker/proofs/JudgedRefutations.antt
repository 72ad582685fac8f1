-- Ids behind those of the instances.
use Rattle.std.proofs.Common.{◌≡◌, ℕ, zero, suc, ◌*◌, ◌/◌, ◌%◌, ◌<◌, ◌≤◌, Bool, List, length, slice_get, Option, None, Some, refl, ap, subst, arith}
use Rattle.std.specs.Option.{option_and_then}
use Rattle.std.proofs.Math.Nat.{le-div_iff_mul-le}
use Rattle.std.proofs.lemmas.Option.{slice_get_past}
use Rattle.dq_lits.specs.Expansion.{instance_at, instance_clause}
use Rattle.dq_lits.specs.Formula.{Dqbf}
use Rattle.cert_text.specs.Scan.{first_id}
use Rattle.refutation_checker.specs.Namings.{Frame}

-- no instance has the id of a line or a later one
pub no_row : (f : Dqbf) (rows : List (List Bool)) (clauses i : ℕ) → clauses ≡ length f.matrix →
    length rows * clauses ≤ i → instance_at f rows (suc i) ≡ None
no_row f rows zero i is le = nothing (slice_get rows (i / length f.matrix))
  where
    nothing : (o : Option (List Bool)) → option_and_then (λ row. option_and_then (instance_clause f rows row)
        (slice_get f.matrix (i % length f.matrix))) o ≡ None
    nothing None = refl
    nothing (Some row) = ap (option_and_then (instance_clause f rows row))
        (slice_get_past f.matrix (i % length f.matrix) (omega (arith, is)))
no_row f rows (suc n) i is le =
    let some : 0 < suc n = omega arith in
    let past : length rows ≤ i / suc n = (le-div_iff_mul-le some).1 le in
    ap (option_and_then (λ row. option_and_then (instance_clause f rows row)
    (slice_get f.matrix (i % length f.matrix))))
    (slice_get_past rows (i / length f.matrix) (subst (λ m. length rows ≤ i / m) is past))

pub none_behind : (n : Frame) (id : ℕ) → first_id n.formula (length n.rows) ≤ id →
    instance_at n.formula n.rows id ≡ None
none_behind n zero le = absurd (omega (arith, le))
none_behind n (suc i) le = no_row n.formula n.rows (length n.formula.matrix) i refl (omega (arith, le))
