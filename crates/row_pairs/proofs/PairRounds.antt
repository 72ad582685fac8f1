-- The rounds of the pairs of the first rows.
use Rattle.std.proofs.Common.{◌≡◌, ℕ, ◌-◌, ◌≤◌, Bool, true, false, ◌&&◌, refl, ap, List, [], ◌∷◌, ◌++◌, length, Some, sym, ◌∙◌, subst, inl, inr, arith, slice_get}
use Rattle.std.proofs.lemmas.Bool.{cases_lt}
use Rattle.std.specs.List.{All}
use Rattle.std.proofs.lemmas.Option.{slice_get_within, get_or_from_slice_get}
use Rattle.std.proofs.lemmas.List.Elements.{All-push, Contains-push, Contains-append_left}
use Rattle.dq_lits.specs.Henkin.{same_bit}
use Rattle.dq_lits.specs.Row.{bit_of}
use Rattle.row_pairs.specs.Pairs.{agrees, HasRound, ArePairRounds}

pub row_has : (rows : List (List Bool)) (P : List Bool → Type 0) (k : ℕ) (row : List Bool) → All P rows →
    slice_get rows k ≡ Some row → P row
row_has rows P k row all at = subst P (get_or_from_slice_get rows k row row at)
    (all k row (slice_get_within rows k row at))

same_bit-refl : (b : Bool) → same_bit b b ≡ true
same_bit-refl true = refl
same_bit-refl false = refl

pub agrees-refl : (row : List Bool) (places : List ℕ) → agrees places row (bit_of row) ≡ true
agrees-refl row [] = refl
agrees-refl row (p ∷ places) = ap (λ b. b && agrees places row (bit_of row)) (same_bit-refl (bit_of row p))
    ∙ agrees-refl row places

later : (rows : List (List Bool)) (places rounds : List ℕ) (r : ℕ) (row : List Bool) → HasRound rows places rounds row →
    HasRound rows places (rounds ++ r ∷ []) row
later rows places rounds r row has = record {
  round = has.round;
  among = Contains-append_left rounds (r ∷ []) has.round has.among;
  from_one = has.from_one;
  first = has.first;
  at = has.at;
  same = has.same;
}

-- the row of a round has the pair of an earlier one
pub one_more : (rows : List (List Bool)) (places : List ℕ) (round : ℕ) (rounds : List ℕ) (row : List Bool) → 1 ≤ round →
    slice_get rows (round - 1) ≡ Some row
    → ArePairRounds rows places (round - 1) rounds → HasRound rows places rounds row →
    ArePairRounds rows places round rounds
one_more rows places round rounds row one at are has = record {
  each = are.each;
  complete = λ j r below there. elim (cases_lt j (round - 1)) [
    | inl earlier ↦ are.complete j r earlier there
    | inr late ↦ (
        let same : j ≡ round - 1 = omega arith in
        let is : Some row ≡ Some r = sym at ∙ subst (λ i. slice_get rows i ≡ Some r) same there in
        let row_is : row ≡ r = cc in
        subst (HasRound rows places rounds) row_is has)
  ];
}

-- it has a pair of its own
pub pushed_round : (rows : List (List Bool)) (places : List ℕ) (round : ℕ) (rounds : List ℕ) (row : List Bool) →
    1 ≤ round → round ≤ length rows → slice_get rows (round - 1) ≡ Some row
    → ArePairRounds rows places (round - 1) rounds → ArePairRounds rows places round (rounds ++ round ∷ [])
pushed_round rows places round rounds row one last at are =
    let longer : ArePairRounds rows places (round - 1) (rounds ++ round ∷ []) = record {
      each = All-push (λ r. (1 ≤ r) × (r ≤ length rows)) rounds round are.each (one, last);
      complete = λ j r below there. later rows places rounds round r (are.complete j r below there);
    } in
    one_more rows places round (rounds ++ round ∷ []) row one at longer (record {
      round = round;
      among = Contains-push rounds round;
      from_one = one;
      first = row;
      at = at;
      same = agrees-refl row places;
    })
