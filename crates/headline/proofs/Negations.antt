-- The examples of a negation: a circuit in the binary form, whose output is a negated input.
use Rattle.std.proofs.Common.{◌≡◌, ◌≢◌, ℕ, zero, suc, ◌/◌, ◌<◌, ◌≤◌, ◌==◌, Bool, true, false, not, ◌&&◌, ◌||◌, List, [], ◌∷◌, codes, inl, inr, refl, ◌∙◌, ap, arith}
use Rattle.std.specs.List.{All, AllPairs, Contains, list_all}
use Rattle.std.proofs.lemmas.Bool.{and_parts, eq-eqb}
use Rattle.headline.specs.Examples.{negated_text, negated_wire, opposites}
use Rattle.headline.specs.Headline.{Existential, HoldsSkolem, IsCircuit, IsSkolem, Reaches, SpellsBinary, StandsFor, existentials_of}
use Rattle.headline.proofs.Copies.{one_is, one_place, zero_is, one_digit}

-- ---- the text

no_feed : (bytes : List ℕ) → list_all (λ byte. not (byte == 10)) bytes ≡ true → All (λ byte. byte ≢ 10) bytes
no_feed [] none k d below = absurd (omega (arith, below))
no_feed (byte ∷ bytes) none zero d below = λ is. apart (byte == 10) (eq-eqb byte 10 is)
    (and_parts (not (byte == 10)) (list_all (λ b. not (b == 10)) bytes) none).0
  where
    apart : (b : Bool) → b ≡ true → not b ≡ true → ⊥
    apart true is other = cc
    apart false is other = cc
no_feed (byte ∷ bytes) none (suc k) d below =
    no_feed bytes (and_parts (not (byte == 10)) (list_all (λ b. not (b == 10)) bytes) none).1 k d (omega (arith, below))

pub negated_spelled : SpellsBinary negated_text negated_wire []
negated_spelled = record {
  verdict = [];
  header = codes "aig 1 1 0 1 0";
  outputs = codes "3" ∷ [];
  code = [];
  behind = [];
  zeros = 0;
  parts = inl refl;
  one_line = each;
  verdict_is = inl refl;
  header_is = (omega arith, (refl, (one_is, (one_is, (zero_is, (one_is, (zero_is, tt)))))));
  outputs_are = ((one_digit 51 3 refl refl (omega arith), tt), tt);
  inputs_first = refl;
  gates_are = refl;
  names_are = record {
    symbols = [];
    end = [];
    parts = refl;
    symbols_are = tt;
    once = λ i j d less below. absurd (omega (arith, below));
    end_is = tt;
  };
}
  where
    each : All (All (λ byte. byte ≢ 10)) (codes "aig 1 1 0 1 0" ∷ codes "3" ∷ [])
    each zero d below = no_feed (codes "aig 1 1 0 1 0") refl
    each (suc zero) d below = no_feed (codes "3") refl
    each (suc (suc k)) d below = absurd (omega (arith, below))

-- ---- the function

negated_circuit : IsCircuit negated_wire
negated_circuit = record {
  rank = λ v. 0;
  small = one_place (λ v. v ≤ 1) (omega arith);
  ordered = λ k d below. absurd (omega (arith, below));
  once = once;
  defined = defined;
}
  where
    once : AllPairs {X = ℕ} (λ v w. v ≢ w) (0 ∷ 1 ∷ [])
    once zero (suc zero) d less below = λ e. cc
    once zero zero d less below = absurd (omega (arith, less))
    once zero (suc (suc j)) d less below = absurd (omega (arith, below))
    once (suc i) j d less below = absurd (omega (arith, less, below))

    defined : All {X = ℕ} (λ l. Contains (0 ∷ 1 ∷ []) (l / 2)) (3 ∷ [])
    defined zero d below = (1, omega arith, refl)
    defined (suc k) d below = absurd (omega (arith, below))

other_bit : (x y : Bool) → y ≡ not x → ((x || (y || false)) && ((not x || (not y || false)) && true)) ≡ true
other_bit true false is = refl
other_bit false true is = refl
other_bit true true is = cc
other_bit false false is = cc

negated_skolem : IsSkolem opposites negated_wire []
negated_skolem = record {
  input_of = λ x. 0;
  output_of = λ y. 0;
  as_many = (refl, refl);
  inputs = one_place (λ x. (0 < 1) × StandsFor [] 105 (1 ∷ []) 0 x) (omega arith, inl (refl, omega arith, refl));
  outputs = outputs;
  reads = reads;
  holds = λ m bits inputs fits rows values.
      other_bit (m 1) (m 2)
      (values 0 (record { variable = 0; sees = [] }) (omega arith)
      ∙ ap not (fits.given 0 (omega arith) ∙ rows 0 0 (omega arith)));
}
  where
    outputs : All (λ (y : Existential). (0 < 1) × StandsFor [] 111 (2 ∷ []) 0 y.variable) (existentials_of opposites)
    outputs zero d below = (omega arith, inl (refl, omega arith, refl))
    outputs (suc k) d below = absurd (omega (arith, below))

    reads : All (λ (y : Existential). All (λ x. Reaches negated_wire 1 1 → Contains y.sees x) (1 ∷ []))
        (existentials_of opposites)
    reads zero d below = one_place (λ x. Reaches negated_wire 1 1 → Contains (1 ∷ []) x) (λ reached. (0, omega arith, refl))
    reads (suc k) d below = absurd (omega (arith, below))

pub negated_held : HoldsSkolem opposites negated_text
negated_held = record {
  c = negated_wire;
  names = [];
  spelled = inr negated_spelled;
  circuit = negated_circuit;
  skolem = negated_skolem;
}
