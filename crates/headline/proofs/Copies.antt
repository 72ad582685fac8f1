-- The examples of copies.
use Rattle.std.proofs.Common.{◌≡◌, ◌≢◌, ℕ, ◌+◌, ◌-◌, ◌*◌, ◌/◌, ◌^◌, ◌<◌, ◌≤◌, ◌==◌, zero, suc, Bool, true, false, not, ◌&&◌, ◌||◌, cond, List, [], ◌∷◌, map, codes, inl, refl, ◌∙◌, ap, arith}
use Rattle.std.specs.Char.{is_ascii_digit}
use Rattle.std.specs.List.{All, AllPairs, Contains}
use Rattle.headline.specs.Examples.{copies, blind_copies, wire, wire_text}
use Rattle.headline.specs.Headline.{Existential, HoldsSkolem, IsCircuit, IsFalseFormula, IsNatural, IsSkolem, IsTrueFormula, Reaches, SpellsAscii, StandsFor, existentials_of}

-- both clauses, by the bits of x and y
both_true : (x y : Bool) → y ≡ x → ((x || (not y || false)) && ((not x || (y || false)) && true)) ≡ true
both_true true true same = refl
both_true false false same = refl
both_true true false same = cc
both_true false true same = cc

pub is_true : IsTrueFormula copies
is_true = (λ v bits. head bits, λ m each. both_true (m 1) (m 2) (each 0 (record { variable = 0; sees = [] }) (omega arith))) where
  head : List Bool → Bool
  head [] = false
  head (bit ∷ _) = bit

apart : (x y : Bool) → x ≡ not y → ((x || (not y || false)) && ((not x || (y || false)) && true)) ≡ true → ⊥
apart true true other h = cc
apart true false other h = cc
apart false true other h = cc
apart false false other h = cc

-- the other bit where y2's value is this one
abbrev against : Bool → ℕ → Bool
against bit v = cond (v == 1) (not bit) bit

pub is_false : IsFalseFormula blind_copies
is_false value solve = apart (not (value 2 [])) (value 2 []) refl (solve (against (value 2 [])) own) where
  own : All (λ (y : Existential). against (value 2 []) y.variable ≡ value y.variable (map (against (value 2 [])) y.sees))
      (existentials_of blind_copies)
  own zero d below = refl
  own (suc k) d below = absurd (omega (arith, below))

pub one_digit : (digit n : ℕ) → is_ascii_digit digit ≡ true → n ≡ 0 * 10 + (digit - 48) → n < 10 ^ 18 → IsNatural (digit ∷ []) n
one_digit digit n is value small = record { some = λ e. cc; digits = ap (λ b. b && true) is; value = value; small = small }

pub zero_is : IsNatural (codes "0") 0
zero_is = one_digit 48 0 refl refl (omega arith)

pub one_is : IsNatural (codes "1") 1
one_is = one_digit 49 1 refl refl (omega arith)

pub two_is : IsNatural (codes "2") 2
two_is = one_digit 50 2 refl refl (omega arith)

pub wire_spelled : SpellsAscii wire_text wire []
wire_spelled = record {
  verdict = [];
  header = codes "aag 1 1 0 1 0";
  body = codes "2" ∷ codes "2" ∷ [];
  behind = [];
  zeros = 0;
  lines_are = refl;
  verdict_is = inl refl;
  header_is = (omega arith, (refl, (one_is, (one_is, (zero_is, (one_is, (zero_is, tt)))))));
  body_is = ((two_is, tt), ((two_is, tt), tt));
  names_are = record {
    symbols = [];
    end = [];
    parts = refl;
    symbols_are = tt;
    once = λ i j d less below. absurd (omega (arith, below));
    end_is = tt;
  };
}

pub one_place : (P : ℕ → Type 0) → P 1 → All P (1 ∷ [])
one_place P here zero d below = here
one_place P here (suc k) d below = absurd (omega (arith, below))

pub wire_circuit : IsCircuit wire
wire_circuit = record {
  rank = λ v. 0;
  small = one_place (λ v. v ≤ 1) (omega arith);
  ordered = λ k d below. absurd (omega (arith, below));
  once = once;
  defined = defined;
}
  where
    once : AllPairs {X = ℕ} (λ v w. v ≢ w) (0 ∷ 1 ∷ [])
    once zero (suc zero) d less below = λ e. cc
    once zero zero d less below = absurd (omega (arith, less))
    once zero (suc (suc j)) d less below = absurd (omega (arith, below))
    once (suc i) j d less below = absurd (omega (arith, less, below))

    defined : All {X = ℕ} (λ l. Contains (0 ∷ 1 ∷ []) (l / 2)) (2 ∷ [])
    defined zero d below = (1, omega arith, refl)
    defined (suc k) d below = absurd (omega (arith, below))

pub wire_skolem : IsSkolem copies wire []
wire_skolem = record {
  input_of = λ x. 0;
  output_of = λ y. 0;
  as_many = (refl, refl);
  inputs = one_place (λ x. (0 < 1) × StandsFor [] 105 (1 ∷ []) 0 x) (omega arith, inl (refl, omega arith, refl));
  outputs = outputs;
  reads = reads;
  holds = λ m bits inputs fits rows values.
      both_true (m 1) (m 2)
      (values 0 (record { variable = 0; sees = [] }) (omega arith) ∙ (fits.given 0 (omega arith) ∙ rows 0 0 (omega arith)));
}
  where
    outputs : All (λ (y : Existential). (0 < 1) × StandsFor [] 111 (2 ∷ []) 0 y.variable) (existentials_of copies)
    outputs zero d below = (omega arith, inl (refl, omega arith, refl))
    outputs (suc k) d below = absurd (omega (arith, below))

    reads : All (λ (y : Existential). All (λ x. Reaches wire 1 1 → Contains y.sees x) (1 ∷ [])) (existentials_of copies)
    reads zero d below = one_place (λ x. Reaches wire 1 1 → Contains (1 ∷ []) x) (λ reached. (0, omega arith, refl))
    reads (suc k) d below = absurd (omega (arith, below))

pub wire_held : HoldsSkolem copies wire_text
wire_held = record { c = wire; names = []; spelled = inl wire_spelled; circuit = wire_circuit; skolem = wire_skolem }
