-- Differences, as their reader takes them and as the grammar spells them.
use Rattle.std.proofs.Common.{◌≡◌, ℕ, zero, suc, ◌+◌, ◌-◌, ◌*◌, ◌<◌, ◌≤◌, inl, inr, List, [], ◌∷◌, ◌++◌, length, refl, sym, ◌∙◌, ap, arith}
use Rattle.std.specs.Prelude.{nat_lt, Result, Ok, Err}
use Rattle.std.proofs.lemmas.Bool.{cases_Bool, cond-true, cond-false, ltb-true, ltb-false, lt-ltb, le-ltb}
use Rattle.aiger_text.specs.declared.faults.AagFault.{AagFault}
use Rattle.aig_binary.specs.Deltas.{and_then, read_delta, AreGroups}

pub goes_on : {A B E : Type 0} (r : Result A E) (next : A → Result B E) (v : B) → and_then r next ≡ Ok v →
    (a : A) × (r ≡ Ok a) × (next a ≡ Ok v)
goes_on (Ok a) next v h = (a, refl, h)
goes_on (Err e) next v h = cc

-- a result is one value
pub ok_is : {A E : Type 0} (r : Result A E) (x y : A) → r ≡ Ok x → r ≡ Ok y → x ≡ y
ok_is r x y h k = let same : Ok x ≡ Ok y = sym h ∙ k in cc

abbrev pub with_low : ℕ → ℕ × List ℕ → Result (ℕ × List ℕ) AagFault
with_low byte high = Ok (byte - 128 + 128 * high.0, high.1)

pub delta_from : (groups : ℕ) (code : List ℕ) (n : ℕ) (rest : List ℕ) → AreGroups code n → length code ≤ groups →
    read_delta groups (code ++ rest) ≡ Ok (n, rest)
delta_from groups [] n rest are few = absurd are
delta_from zero (byte ∷ bytes) n rest are few = absurd (omega arith)
delta_from (suc groups) (byte ∷ bytes) n rest (inl (low, last, is)) few = search (arith, cond-true, lt-ltb)
delta_from (suc groups) (byte ∷ bytes) n rest (inr (large, (high, are, is))) few =
    search (arith, cond-false, le-ltb, (delta_from groups bytes high rest are))

-- the bytes begin with the groups of this number
pub record IsDelta (groups : ℕ) (bytes : List ℕ) (n : ℕ) (rest : List ℕ) : Type 0 where
  pub code : List ℕ
  pub parted : bytes ≡ code ++ rest
  pub are : AreGroups code n
  pub few : length code ≤ groups

last_group : (groups byte n : ℕ) (bytes rest : List ℕ) → byte < 128 → byte ≡ n → bytes ≡ rest →
    IsDelta (suc groups) (byte ∷ bytes) n rest
last_group groups byte n bytes rest low n_is rest_is = record {
  code = byte ∷ [];
  parted = ap (λ bs. byte ∷ bs) rest_is;
  are = inl (low, refl, sym n_is);
  few = omega arith;
}

more_groups : (groups byte n high : ℕ) (bytes behind rest : List ℕ) → 128 ≤ byte →
    IsDelta groups bytes high behind → byte - 128 + 128 * high ≡ n → behind ≡ rest →
    IsDelta (suc groups) (byte ∷ bytes) n rest
more_groups groups byte n high bytes behind rest large d n_is rest_is = record {
  code = byte ∷ d.code;
  parted = ap (λ bs. byte ∷ bs) (d.parted ∙ ap (λ bs. d.code ++ bs) rest_is);
  are = inr (large, (high, d.are, sym n_is));
  few = omega (arith, d.few);
}

pub delta_is : (groups : ℕ) (bytes : List ℕ) (n : ℕ) (rest : List ℕ) → read_delta groups bytes ≡ Ok (n, rest) →
    IsDelta groups bytes n rest
delta_is zero bytes n rest read = cc
delta_is (suc groups) [] n rest read = cc
delta_is (suc groups) (byte ∷ bytes) n rest read =
    let here : Result (ℕ × List ℕ) AagFault = Ok (byte, bytes) in
    let more = and_then (read_delta groups bytes) (with_low byte) in
    elim (cases_Bool (nat_lt byte 128)) [
      | inl low ↦ search (arith, ok_is, cond-true, last_group, ltb-true)
      | inr large ↦
          let on = goes_on (read_delta groups bytes) (with_low byte) (n, rest)
          (sym (cond-false (nat_lt byte 128) here more large) ∙ read) in
          let same = ok_is (with_low byte on.0) (byte - 128 + 128 * on.0.0, on.0.1) (n, rest) refl on.2 in
          more_groups groups byte n on.0.0 bytes on.0.1 rest (ltb-false byte 128 large)
          (delta_is groups bytes on.0.0 on.0.1 on.1) (ap (λ (p : ℕ × List ℕ). p.0) same)
          (ap (λ (p : ℕ × List ℕ). p.1) same)
    ]
