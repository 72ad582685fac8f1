-- The design whose box reads both inputs meets all that the laws ask of one.
use Rattle.std.proofs.Common.{◌≡◌, ◌≢◌, ℕ, zero, suc, ◌<◌, [], ◌∷◌, get_or, refl, arith}
use Rattle.std.specs.List.{All, AllPairs, Contains}
use Rattle.std.proofs.lemmas.List.Elements.{All-from_recursion, All-nil}
use Rattle.std.proofs.lemmas.List.Kept.{AllPairs-cons}
use Rattle.circuit_plain.specs.Netlist.{Netlist, IsNetlist, literal_variable}
use Rattle.circuit_plain.specs.Ground.{IsGrounded, input as ground_input, gate as ground_gate}
use Rattle.circuit_plain.specs.Reach.{Reaches, itself, left, right}
use Rattle.circuit_plain.specs.declared.circuits.Gate.{Gate}
use Rattle.pec_front.specs.Boxes.{AreBoxes, IsAcyclic, IsDesign, AllDriven}
use Rattle.pec_front.specs.Examples.{specification, implementation, design, reading_both}

once-nil : AllPairs (λ (a b : ℕ). a ≢ b) []
once-nil i j d less below = absurd (omega (arith, below))

specification-is : IsNetlist specification
specification-is = search (arith, All-from_recursion, AllPairs-cons, All-nil, once-nil)

implementation-is : IsNetlist implementation
implementation-is = search (arith, All-from_recursion, All-nil, AllPairs-cons, once-nil)

in-1 : IsGrounded specification 1
in-1 = ground_input (0, omega arith, refl)

in-2 : IsGrounded specification 2
in-2 = ground_input (1, omega arith, refl)

out-3 : IsGrounded specification 3
out-3 = ground_gate (record { variable = 3; left = 4; right = 2 }) (0, omega arith, refl) in-2 in-1

pub is-design : IsDesign (design reading_both)
is-design = record {
  specification = specification-is;
  implementation = implementation-is;
  inputs = omega arith;
  outputs = refl;
  specified_outputs = λ o below. by-spec o below;
  implemented_outputs = λ o below. by-imp o below;
  signals_stand = λ j below. by-signal j below;
}
  where
    by-spec : (o : ℕ) → o < 1 → IsGrounded specification (literal_variable (get_or (6 ∷ []) o 0))
    by-spec zero below = out-3
    by-spec (suc o) below = absurd (omega (arith, below))

    by-imp : (o : ℕ) → o < 1 → IsGrounded implementation (literal_variable (get_or (6 ∷ []) o 0))
    by-imp zero below = ground_input (2, omega arith, refl)
    by-imp (suc o) below = absurd (omega (arith, below))

    by-signal : (j : ℕ) → j < 2 → IsGrounded implementation (literal_variable (get_or (2 ∷ 4 ∷ []) j 0))
    by-signal zero below = ground_input (0, omega arith, refl)
    by-signal (suc zero) below = ground_input (1, omega arith, refl)
    by-signal (suc (suc j)) below = absurd (omega (arith, below))

pub is-acyclic : IsAcyclic (design reading_both)
is-acyclic = search (arith, All-from_recursion, out-3, All-nil)

-- a variable that is no gate reaches itself alone
reach-input : {net : Netlist} {v x : ℕ} → ((g : Gate) → Contains net.gates g → v ≢ g.variable) → Reaches net v x → v ≡ x
reach-input none itself = refl
reach-input none (left g inside r) = absurd (none g inside refl)
reach-input none (right g inside r) = absurd (none g inside refl)

no-gates : (v : ℕ) (g : Gate) → Contains implementation.gates g → v ≢ g.variable
no-gates v g (k, below, e) = absurd (omega (arith, below))

apart-from-3 : (v : ℕ) → v ≢ 3 → All (λ out. ¬ Reaches implementation v (literal_variable out)) (6 ∷ [])
apart-from-3 v other = search (arith, All-from_recursion, reach-input, no-gates)

pub are-boxes : AreBoxes (design reading_both)
are-boxes = search (arith, All-from_recursion, AllPairs-cons, All-nil, once-nil, apart-from-3)

pub all-driven : AllDriven (design reading_both)
all-driven zero low below = absurd (omega (arith, low))
all-driven (suc zero) low below = absurd (omega (arith, low))
all-driven (suc (suc zero)) low below = refl
all-driven (suc (suc (suc i))) low below = absurd (omega (arith, below))
