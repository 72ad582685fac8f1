-- The examples of definitions.
use Rattle.std.proofs.Common.{◌≡◌, ◌≢◌, ℕ, zero, suc, ◌/◌, ◌<◌, ◌≤◌, ◌==◌, codes, Bool, true, false, not, ◌&&◌, ◌||◌, [], ◌∷◌, length, inl, inr, refl, sym, ◌∙◌, ap, subst, arith}
use Rattle.std.specs.List.{All, AllPairs, Contains}
use Rattle.headline.proofs.Copies.{two_is, zero_is}
use Rattle.headline.specs.Examples.{copies, definition_text, loose}
use Rattle.headline.specs.Headline.{Circuit, Existential, HoldsDefinition, IsCircuit, IsDefined, MayRead, seeing}

same_bit : (x y : Bool) → ((x || (not y || false)) && ((not x || (y || false)) && true)) ≡ true → y ≡ x
same_bit true true h = refl
same_bit false false h = refl
same_bit true false h = cc
same_bit false true h = cc

pub copy_is_defined : IsDefined copies (seeing (1 ∷ []) 2)
copy_is_defined = record {
  value = λ m. m 1;
  reads = λ m n alike. alike 1 (inl (0, omega arith, refl));
  is = λ m holds. same_bit (m 1) (m 2) holds;
}

abbrev inputs : Circuit
inputs = record { largest = 2; inputs = 1 ∷ 2 ∷ []; outputs = 2 ∷ []; gates = [] }

inputs_circuit : IsCircuit inputs
inputs_circuit = record {
  rank = λ v. 0;
  small = small;
  ordered = λ k d below. absurd (omega (arith, below));
  once = once;
  defined = one_output;
}
  where
    small : All (λ v. v ≤ 2) (1 ∷ 2 ∷ [])
    small zero d below = omega arith
    small (suc zero) d below = omega arith
    small (suc (suc k)) d below = absurd (omega (arith, below))

    once : AllPairs {X = ℕ} (λ v w. v ≢ w) (0 ∷ 1 ∷ 2 ∷ [])
    once zero (suc zero) d less below = λ e. cc
    once zero (suc (suc zero)) d less below = λ e. cc
    once (suc zero) (suc (suc zero)) d less below = λ e. cc
    once zero zero d less below = absurd (omega (arith, less))
    once zero (suc (suc (suc j))) d less below = absurd (omega (arith, below))
    once (suc zero) zero d less below = absurd (omega (arith, less))
    once (suc zero) (suc zero) d less below = absurd (omega (arith, less))
    once (suc zero) (suc (suc (suc j))) d less below = absurd (omega (arith, below))
    once (suc (suc i)) j d less below = absurd (omega (arith, less, below))

    one_output : All {X = ℕ} (λ l. Contains (0 ∷ 1 ∷ 2 ∷ []) (l / 2)) (2 ∷ [])
    one_output zero d below = (1, omega arith, refl)
    one_output (suc k) d below = absurd (omega (arith, below))

pub copy_is_held : HoldsDefinition copies definition_text (seeing (1 ∷ []) 2)
unfolding copy_is_defined
copy_is_held = record {
  c = inputs;
  output = 2;
  steps = 2;
  before = codes "p dqd 1" ∷ [];
  block = codes "t 2 2 0 2" ∷ [];
  behind = codes "5 2 0 3 2 0" ∷ codes "6 0 5 1 4 0" ∷ [];
  lines_are = refl;
  block_is = ((refl, (two_is, (two_is, (zero_is, (two_is, tt))))), tt);
  circuit = inputs_circuit;
  ends = (refl, refl);
  defined = copy_is_defined;
  value = λ m bits fits. sym (fits.given 0 (omega arith));
}

one_is : (v : ℕ) → Contains (1 ∷ []) v → 1 ≡ v
one_is v (zero, below, is) = is
one_is v (suc k, below, is) = absurd (omega (arith, below))

abbrev only_two : ℕ → Bool
only_two v = v == 2

abbrev none : ℕ → Bool
none v = false

alike : (v : ℕ) → MayRead loose (seeing (1 ∷ []) 2) v → only_two v ≡ none v
alike v (inl seen) = subst (λ x. only_two x ≡ none x) (one_is v seen) refl
alike v (inr (z, has, sees, inl (there, fewer))) = absurd (not_fewer z there fewer) where
  not_fewer : (z : Existential) → Contains (seeing (1 ∷ []) 2 ∷ []) z →
      length z.sees < 1 → ⊥
  not_fewer z (zero, below, is) few =
      let long = ap (λ (e : Existential). length e.sees) is in omega (arith, long, few)
  not_fewer z (suc k, below, is) few = omega (arith, below)
alike v (inr (z, has, sees, inr (standing, same))) = let below = standing.1 in absurd (omega (arith, below))

pub loose_is_free : IsDefined loose (seeing (1 ∷ []) 2) → ⊥
loose_is_free d =
    let same = d.is only_two refl ∙ (d.reads only_two none alike ∙ sym (d.is none refl)) in
    cc
