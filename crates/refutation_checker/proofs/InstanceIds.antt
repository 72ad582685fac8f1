-- Instances by their ids.
use Rattle.std.proofs.Common.{◌≡◌, ℕ, zero, suc, ◌+◌, ◌-◌, ◌*◌, ◌^◌, ◌<◌, ◌⊎◌, Bool, inl, inr, min, List, [], length, get_or, None, refl, subst, arith}
use Rattle.std.proofs.Math.Nat.{mod-eq_of_lt, mul-add-mod_self_right}
use Rattle.std.proofs.lemmas.Nat.{div-mul-add}
use Rattle.std.proofs.lemmas.Option.{slice_get-get_or}
use Rattle.dq_lits.specs.Expansion.{instance_at, instance_clause}
use Rattle.dq_lits.specs.Formula.{Dqbf}
use Rattle.refutation_checker.specs.Rows.{row_of}
use Rattle.refutation_checker.proofs.JudgedRefutations.{no_row}

-- the clause at j under row k, both from 0
pub own_id : (f : Dqbf) (rows : List (List Bool)) (k j : ℕ) → k < length rows → j < length f.matrix
    → instance_at f rows (k * length f.matrix + j + 1) ≡ instance_clause f rows (row_of rows k) (get_or f.matrix j [])
own_id f rows k j k_in j_in =
    search (
      arith,
      (div-mul-add k),
      (mul-add-mod_self_right k),
      (mod-eq_of_lt j_in),
      (slice_get-get_or rows k [] k_in),
      (slice_get-get_or f.matrix j [] j_in),
    )

pub no_id : (f : Dqbf) (rows : List (List Bool)) (id : ℕ) → (id ≡ 0) ⊎ (length rows * length f.matrix < id) →
    instance_at f rows id ≡ None
no_id f rows zero h = refl
no_id f rows (suc i) (inl none) = cc
no_id f rows (suc i) (inr behind) = no_row f rows (length f.matrix) i refl (omega (arith, behind))

-- such an id, by how many instances there are as far as that can be counted
pub behind_all : (f : Dqbf) (rows : List (List Bool)) (id count most : ℕ) → count ≡ length f.matrix →
    most ≡ min (length rows * count) (2 ^ 64 - 1) → most < id → id < 2 ^ 64 →
    instance_at f rows id ≡ None
behind_all f rows id count most is most_is lt small =
    no_id f rows id (inr (subst (λ n. length rows * n < id) is (omega (arith, most_is, lt, small))))
