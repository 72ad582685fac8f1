-- Rows by blocks.
use Rattle.std.proofs.Common.{◌≡◌, ℕ, ◌+◌, ◌/◌, ◌%◌, ◌<◌, ◌≤◌, ◌-◌, inl, inr, Bool, true, ◌==◌, List, length, replicate, refl, sym, ap, ◌∙◌, subst, arith}
use Rattle.std.specs.Int.{bit_at}
use Rattle.std.specs.List.{list_all}
use Rattle.std.proofs.lemmas.Nat.Bits.{bit_at_ones}
use Rattle.std.proofs.lemmas.Simd.{get_or-replicate}
use Rattle.std.proofs.lemmas.Bool.{cases_lt, eqb-true}
use Rattle.dq_lits.specs.Literal.{clause_true}
use Rattle.dq_lits.specs.Formula.{Dqbf}
use Rattle.circuit_plain.specs.Blocks.{lane_bit, block_bits, row_number, placed_bits}
use Rattle.circuit_plain.specs.Netlist.{Netlist}
use Rattle.circuit_plain.specs.Value.{IsValuation}
use Rattle.skolem_checker.specs.Tables.{RowTest, circuit_assignment, row_bit}
use Rattle.skolem_checker.proofs.TablesLaws.{list_all-each}

-- the rows of a block that was evaluated, with the clauses' test as bits
module _ (f : Dqbf) (net : Netlist) (literals places : List ℕ) (first : ℕ) (block : List (List ℕ)) (hold : List ℕ)
    (valuation : (l b : ℕ) → l < 4 → b < 64 → IsValuation net (placed_bits places (row_number first l b))
    (block_bits block l b))
    (is : (l b : ℕ) → l < 4 → b < 64
    → lane_bit hold l b ≡ list_all (clause_true (circuit_assignment literals (block_bits block l b))) f.matrix) where
  pub row_test : (r : ℕ) (holds : Bool) → r < 256 → row_bit hold r ≡ holds →
      RowTest f net literals places (first + r) holds
  row_test r holds below bit =
      let l = r / 64 in
      let b = r % 64 in
      let l_below : l < 4 = omega arith in
      let b_below : b < 64 = omega arith in
      let number : row_number first l b ≡ first + r = omega arith in
      record {
        bits = placed_bits places (first + r);
        values = block_bits block l b;
        are_bits = λ i _. refl;
        valuation = subst (λ k. IsValuation net (placed_bits places k) (block_bits block l b)) number
            (valuation l b l_below b_below);
        is = sym bit ∙ is l b l_below b_below;
      }

  -- what was tested before, and the rows of the block
  pub rows_more : (rows count : ℕ) → first + count ≤ rows → count ≤ 256
      → ((j : ℕ) → j < first → j < rows → RowTest f net literals places j true)
      → ((r : ℕ) → r < count → row_bit hold r ≡ true)
      → (j : ℕ) → j < first + count → RowTest f net literals places j true
  rows_more rows count within few before held j below =
      elim (cases_lt j first) [
        | inl earlier ↦ before j earlier (omega arith)
        | inr here ↦
            let r : ℕ = j - first in
            let r_below : r < count = omega arith in
            subst (λ k. RowTest f net literals places k true) (sum here)
            (row_test r true (omega arith) (held r r_below))
      ]
    where
      sum : first ≤ j → first + (j - first) ≡ j
      sum h = omega arith

-- where all lanes are full, all rows have their bits
pub full_lanes : (lanes : List ℕ) → length lanes ≡ 4 → list_all (λ lane. lane == 18446744073709551615) lanes ≡ true
    → (r : ℕ) → r < 256 → row_bit lanes r ≡ true
full_lanes lanes four full r below = search (arith, eqb-true, list_all-each, (bit_at_ones 64 (r % 64)))

pub all_ones : (i b : ℕ) → i < 4 → b < 64 → lane_bit (replicate 4 18446744073709551615) i b ≡ true
all_ones i b i_below b_below =
    ap (λ w. bit_at w b == 1) (get_or-replicate 4 i 18446744073709551615 0 i_below) ∙ ap (λ n. n == 1)
    (bit_at_ones 64 b b_below)
