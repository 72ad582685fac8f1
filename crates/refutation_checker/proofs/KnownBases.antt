-- Names that are kept by blocks of rows.
use Rattle.std.proofs.Common.{◌≡◌, ℕ, ◌+◌, ◌*◌, ◌/◌, ◌%◌, ◌<◌, false, inl, List, [], ◌++◌, set, length, get_or, replicate, Some, sym, ◌∙◌, ap, arith, get_or-set_other, get_or-set_same}
use Rattle.std.specs.List.{All}
use Rattle.std.proofs.Math.Nat.{div-add-mod, mod-lt}
use Rattle.std.proofs.lemmas.Bool.{cases_eq, eqb-true, eq-eqb}
use Rattle.std.proofs.lemmas.Nat.{div-mul-add, mod-mul-add}
use Rattle.std.proofs.lemmas.List.{length-append, length-replicate, get_or-replicate, get_or_append_left, get_or-append_right}
use Rattle.std.proofs.lemmas.List.Quantifiers.{position-Some}
use Rattle.number_tables.specs.Numbers.{has_number, place_of, with_number}
use Rattle.number_tables.proofs.NumberPlaces.{placed_last, unplaced}
use Rattle.refutation_checker.specs.KnownBases.{kept, block_number, AreKept, AreSameKept, IsKeptOrNew}
use Rattle.refutation_checker.specs.Rows.{row_of}
use Rattle.refutation_checker.specs.Namings.{Frame, Names, base_of, Extends}
use Rattle.refutation_checker.specs.Pairs.{blocks}

-- the number that stands at a place
number_there : (numbers : List ℕ) (m block : ℕ) → place_of numbers m ≡ Some block →
    (block < length numbers) × (get_or numbers block 0 ≡ m)
number_there numbers m block is = search (arith, position-Some, eqb-true)

pub put_kept : (numbers bases : List ℕ) (number block place base : ℕ) → place_of numbers number ≡ Some block →
    place < 16 → block * 16 + place < length bases
    → IsKeptOrNew numbers bases numbers (set bases (block * 16 + place) base) number place base
put_kept numbers bases number block place base is below within m q small =
    search (
      arith,
      cases_eq,
      (number_there numbers m),
      (number_there numbers number block is),
      (get_or-set_same bases (block * 16 + place) base 0 within),
      (get_or-set_other bases (block * 16 + place)),
    )

-- a block more, of which nothing is kept
pub block_more : (numbers numbers' bases bases' : List ℕ) (number : ℕ) → length bases ≡ length numbers * 16 →
    has_number numbers number ≡ false
    → numbers' ≡ with_number numbers number → bases' ≡ bases ++ replicate 16 0
    → (length bases' ≡ length numbers' * 16) × (place_of numbers' number ≡ Some (length numbers)) ×
    (length numbers < length numbers') × AreSameKept numbers bases numbers' bases'
block_more numbers numbers' bases bases' number as_many absent numbers_is bases_is =
    search (
      arith,
      length-append,
      replicate,
      length-replicate,
      placed_last,
      eq-eqb,
      number_there,
      get_or_append_left,
      unplaced,
      get_or-append_right,
      get_or-replicate,
      eqb-true,
    )

pub same_then_new : (numbers bases numbers' bases' numbers'' bases'' : List ℕ) (number place base : ℕ) →
    AreSameKept numbers bases numbers' bases'
    → IsKeptOrNew numbers' bases' numbers'' bases'' number place base →
    IsKeptOrNew numbers bases numbers'' bases'' number place base
same_then_new numbers bases numbers' bases' numbers'' bases'' number place base same new m q small = search arith

-- the block of the row at k
block_parts : (rows c k : ℕ) → k < rows → ((c * blocks rows + k / 16) / blocks rows ≡ c) ×
    ((c * blocks rows + k / 16) % blocks rows ≡ k / 16)
block_parts rows c k lt = search (arith, mod-lt, div-add-mod, div-mul-add, mod-mul-add)

same_block : (rows c d j k : ℕ) → j < rows → k < rows → d * blocks rows + j / 16 ≡ c * blocks rows + k / 16 →
    j % 16 ≡ k % 16 → (d ≡ c) × (j ≡ k)
same_block rows c d j k j_in k_in same rest =
    search (arith, (block_parts rows d j j_in), (block_parts rows c k k_in), (div-add-mod j 16), (div-add-mod k 16))

pub none_kept : (x : Frame) (n : Names) (numbers bases : List ℕ) → numbers ≡ [] → bases ≡ [] → AreKept x n numbers bases
none_kept x n numbers bases numbers_is bases_is = record {
  as_many = ap length bases_is ∙ sym (ap (λ ns. length ns * 16) numbers_is);
  are = λ c k c_in k_in. inl (ap (λ ns. kept ns bases (block_number x c k) (k % 16)) numbers_is);
}

-- names stay
pub kept_later : (x : Frame) (n m : Names) (numbers bases : List ℕ) →
    All (λ row. length row ≡ length x.formula.universals) x.rows → Extends x n m
    → AreKept x n numbers bases → AreKept x m numbers bases
kept_later x n m numbers bases whole extends before = search arith

-- a name more
pub kept_more : (x : Frame) (n : Names) (numbers bases numbers' bases' : List ℕ) (c k base : ℕ) → k < length x.rows →
    AreKept x n numbers bases
    → length bases' ≡ length numbers' * 16 → IsKeptOrNew numbers bases numbers' bases' (block_number x c k)
    (k % 16) base
    → base_of x n c (row_of x.rows k) ≡ Some base → AreKept x n numbers' bases'
kept_more x n numbers bases numbers' bases' c k base k_in before as_many new is = search (arith, mod-lt, same_block)
