-- Differences as they are written: they are spelled, and no other bytes for them are fewer.
use Rattle.std.proofs.Common.{◌≡◌, ℕ, zero, suc, ◌+◌, ◌-◌, ◌*◌, ◌/◌, ◌%◌, ◌^◌, ◌<◌, ◌≤◌, ◌⊎◌, true, false, inl, inr, List, [], ◌∷◌, length, refl, sym, arith, subst}
use Rattle.std.specs.Prelude.{nat_lt, slice_index_or}
use Rattle.std.specs.List.{AllByRecursion, flat_map}
use Rattle.std.proofs.lemmas.Bool.{cases_Bool, cond-true, cond-false, ltb-true, ltb-false, lt-ltb}
use Rattle.circuit_plain.specs.Netlist.{Netlist, gate_at}
use Rattle.circuit_plain.specs.declared.circuits.Gate.{Gate}
use Rattle.aig_binary.specs.Deltas.{AreGroups}
use Rattle.aig_binary.specs.Gates.{SpellsDelta, SpellsGate, SpellsGates}
use Rattle.aig_binary.specs.Steps.{end_of}
use Rattle.aig_binary.specs.Written.{delta_text, gate_code, IsGateInOrder, AreInOrder}

last_of : (groups n : ℕ) → nat_lt n 128 ≡ true → delta_text (suc groups) n ≡ n ∷ []
last_of groups n low = cond-true (nat_lt n 128) (n ∷ []) ((128 + n % 128) ∷ delta_text groups (n / 128)) low

more_of : (groups n : ℕ) → nat_lt n 128 ≡ false →
    delta_text (suc groups) n ≡ (128 + n % 128) ∷ delta_text groups (n / 128)
more_of groups n high = cond-false (nat_lt n 128) (n ∷ []) ((128 + n % 128) ∷ delta_text groups (n / 128)) high

pub more_written : (most n : ℕ) → 1 ≤ most → 128 ≤ n →
    delta_text most n ≡ (128 + n % 128) ∷ delta_text (most - 1) (n / 128)
more_written zero n some high = absurd (omega (arith, some))
more_written (suc groups) n some high = search (arith, cases_Bool, ltb-true)

-- so many groups suffice
abbrev FitsIn : ℕ → ℕ → Type 0
FitsIn zero n = ⊥
FitsIn (suc groups) n = (n < 128) ⊎ FitsIn groups (n / 128)

fits_in : (groups n : ℕ) → n < end_of (suc groups) → FitsIn (suc groups) n
fits_in zero n less = inl (omega (arith, less))
fits_in (suc groups) n less = inr (fits_in groups (n / 128) (omega (arith, less)))

groups_of : (groups n : ℕ) → FitsIn groups n → AreGroups (delta_text groups n) n
groups_of zero n fits = absurd fits
groups_of (suc groups) n fits =
    elim (cases_Bool (nat_lt n 128)) [
      | inl low ↦ subst (λ c. AreGroups c n) (sym (last_of groups n low)) (inl (ltb-true n 128 low, refl, refl))
      | inr high ↦
          let large = ltb-false n 128 high in
          subst (λ c. AreGroups c n) (sym (more_of groups n high))
          (inr (omega arith, (n / 128, groups_of groups (n / 128) (behind groups n fits large), omega arith)))
    ]
  where
    behind : (groups n : ℕ) → FitsIn (suc groups) n → 128 ≤ n → FitsIn groups (n / 128)
    behind groups n (inl low) large = absurd (omega (arith, low, large))
    behind groups n (inr fits) large = fits

groups_count : (groups n : ℕ) → length (delta_text groups n) ≤ groups
groups_count zero n = omega arith
groups_count (suc groups) n = search (arith, cases_Bool, (groups_count groups (n / 128)))

-- any groups of the number are at least as many, where a byte is less than 256
pub fewest : (code : List ℕ) (groups n : ℕ) → AllByRecursion (λ byte. byte < 256) code → AreGroups code n →
    length (delta_text groups n) ≤ length code
fewest [] groups n bytes_are are = absurd are
fewest (byte ∷ bytes) zero n bytes_are are = omega arith
fewest (byte ∷ bytes) (suc groups) n bytes_are (inl (low, last, is)) = search (arith, lt-ltb)
fewest (byte ∷ bytes) (suc groups) n bytes_are (inr (large, (high, are, is))) =
    search (arith, cases_Bool, (fewest bytes groups high bytes_are.1 are))

pub delta_spelled : (n : ℕ) → n < 2 ^ 35 → SpellsDelta (delta_text 5 n) n
delta_spelled n fits = record { groups = groups_of 5 n (fits_in 4 n fits); few = groups_count 5 n }

pub gate_spelled : (v : ℕ) (g : Gate) → v < 2 ^ 34 → IsGateInOrder v g → SpellsGate v (gate_code g) g
gate_spelled v g few is =
    search (arith, (delta_spelled (2 * g.variable - g.left)), (delta_spelled (g.left - g.right)))

pub gates_spelled : (gs : List Gate) (v : ℕ) → v + length gs < 2 ^ 34 → AreInOrder v gs →
    SpellsGates v (flat_map gate_code gs) gs
gates_spelled [] v few are = refl
gates_spelled (g ∷ gs) v few (is, more) = search (arith, gate_spelled, (gates_spelled gs (v + 1)))

-- the gate at a place is in order
pub in_order_at : (gs : List Gate) (v place : ℕ) (default : Gate) → AreInOrder v gs → place < length gs →
    IsGateInOrder (v + place) (slice_index_or gs place default)
in_order_at [] v place default are below = absurd (omega (arith, below))
in_order_at (g ∷ gs) v zero default (is, more) below = subst (λ w. IsGateInOrder w g) (omega arith) is
in_order_at (g ∷ gs) v (suc place) default (is, more) below =
    search (arith, (in_order_at gs (v + 1) place default more))

pub gate_in_order : (net : Netlist) (v place : ℕ) → AreInOrder v net.gates → place < length net.gates →
    IsGateInOrder (v + place) (gate_at net place)
gate_in_order net v place are below = in_order_at net.gates v place _ are below
