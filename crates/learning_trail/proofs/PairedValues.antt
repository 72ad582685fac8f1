-- Values by variable, in a table by literals.
use Rattle.std.proofs.Common.{◌≡◌, ℕ, zero, suc, ◌+◌, ◌*◌, ◌-◌, ◌<◌, ◌≤◌, Bool, true, false, cond, List, [], ◌∷◌, ◌++◌, length, set, get_or, refl, sym, ◌∙◌, ap, subst, arith}
use Rattle.dq_lits.specs.Literal.{Literal, positive, negative, variable_of, is_negative}
use Rattle.dq_lits.specs.Table.{IsTold, Tells}
use Rattle.dq_lits.specs.Truth.{literal_value}
use Rattle.dq_lits.specs.declared.truth_values.TruthValue.{TruthValue}
use Rattle.dq_lits.specs.declared.truth_values.TruthValue.TheVariants.{True, False, Unassigned}
use Rattle.learning_trail.specs.Valued.{negated, signed, plain, ArePaired}

get_or-empty : (i : ℕ) → get_or {A = TruthValue} [] i Unassigned ≡ Unassigned
get_or-empty zero = refl
get_or-empty (suc i) = refl

pub paired_length : (xs : List TruthValue) → ArePaired xs → length xs ≡ length (plain xs) * 2
paired_length [] paired = refl
paired_length (x ∷ []) paired = absurd paired
paired_length (x ∷ y ∷ rest) paired = let more = paired_length rest paired.1 in omega (arith, more)

abbrev double : ℕ → ℕ
double zero = zero
double (suc i) = suc (suc (double i))

double_is : (i : ℕ) → double i ≡ i * 2
double_is zero = omega arith
double_is (suc i) = let e = double_is i in omega (arith, e)

read_double : (xs : List TruthValue) (i : ℕ) → ArePaired xs →
    get_or xs (double i) Unassigned ≡ get_or (plain xs) i Unassigned
read_double [] i paired = get_or-empty (double i) ∙ sym (get_or-empty i)
read_double (x ∷ []) i paired = absurd paired
read_double (x ∷ y ∷ rest) zero paired = refl
read_double (x ∷ y ∷ rest) (suc i) paired = read_double rest i paired.1

pub read_plain : (xs : List TruthValue) (i n : ℕ) → ArePaired xs → n ≡ i * 2 →
    get_or xs n Unassigned ≡ get_or (plain xs) i Unassigned
read_plain xs i n paired e = ap (λ k. get_or xs k Unassigned) (e ∙ sym (double_is i)) ∙ read_double xs i paired

read_double_negated : (xs : List TruthValue) (i : ℕ) → ArePaired xs →
    get_or xs (suc (double i)) Unassigned ≡ negated (get_or (plain xs) i Unassigned)
read_double_negated [] i paired = get_or-empty (suc (double i)) ∙ ap negated (sym (get_or-empty i))
read_double_negated (x ∷ []) i paired = absurd paired
read_double_negated (x ∷ y ∷ rest) zero paired = paired.0
read_double_negated (x ∷ y ∷ rest) (suc i) paired = read_double_negated rest i paired.1

pub read_negated : (xs : List TruthValue) (i n : ℕ) → ArePaired xs → n ≡ i * 2 + 1 →
    get_or xs n Unassigned ≡ negated (get_or (plain xs) i Unassigned)
read_negated xs i n paired e =
    let d = double_is i in
    let is : n ≡ suc (double i) = omega (arith, e, d) in
    ap (λ k. get_or xs k Unassigned) is ∙ read_double_negated xs i paired

-- both values of a variable are set
pub record IsSetBoth (xs after : List TruthValue) (i : ℕ) (value : TruthValue) : Type 0 where
  pub paired : ArePaired after
  pub is : plain after ≡ set (plain xs) i value

set_double : (xs : List TruthValue) (i : ℕ) (value : TruthValue) → ArePaired xs →
    IsSetBoth xs (set (set xs (double i) value) (suc (double i)) (negated value)) i value
set_double [] zero value paired = record { paired = tt; is = refl }
set_double [] (suc i) value paired = record { paired = tt; is = refl }
set_double (x ∷ []) i value paired = absurd paired
set_double (x ∷ y ∷ rest) zero value paired = record { paired = (refl, paired.1); is = refl }
set_double (x ∷ y ∷ rest) (suc i) value paired = search (arith, (set_double rest i value paired.1))

pub set_both : (xs : List TruthValue) (i n at : ℕ) (value other : TruthValue) → n ≡ i * 2 → at ≡ i * 2 + 1 →
    other ≡ negated value → ArePaired xs → IsSetBoth xs (set (set xs n value) at other) i value
set_both xs i n at value other first second o paired =
    let d = double_is i in
    let n_is : double i ≡ n = omega (arith, first, d) in
    let at_is : suc (double i) ≡ at = omega (arith, second, d) in
    subst (λ (k : ℕ). IsSetBoth xs (set (set xs k value) at other) i value) n_is
    (subst (λ (k : ℕ). IsSetBoth xs (set (set xs (double i) value) k other) i value) at_is
    (subst (λ (t : TruthValue). IsSetBoth xs (set (set xs (double i) value) (suc (double i)) t) i value) (sym o)
    (set_double xs i value paired)))

pub paired_grown : (xs : List TruthValue) → ArePaired xs → ArePaired (xs ++ Unassigned ∷ Unassigned ∷ [])
paired_grown [] paired = (refl, tt)
paired_grown (x ∷ []) paired = absurd paired
paired_grown (x ∷ y ∷ rest) paired = (paired.0, paired_grown rest paired.1)

pub plain_grown : (xs : List TruthValue) → ArePaired xs →
    plain (xs ++ Unassigned ∷ Unassigned ∷ []) ≡ plain xs ++ Unassigned ∷ []
plain_grown [] paired = refl
plain_grown (x ∷ []) paired = absurd paired
plain_grown (x ∷ y ∷ rest) paired = ap (λ (vs : List TruthValue). x ∷ vs) (plain_grown rest paired.1)

-- the value of a literal at its place
pub read_signed : (xs : List TruthValue) (l : Literal) (i place : ℕ) → ArePaired xs → variable_of l ≡ suc i →
    place ≡ variable_of l * 2 + cond (is_negative l) 1 0 →
    get_or xs (place - 2) Unassigned ≡ signed (is_negative l) (get_or (plain xs) i Unassigned)
read_signed xs (positive v) i place paired e at = search (arith, read_plain)
read_signed xs (negative v) i place paired e at = search (arith, read_negated)

told_plain : (t : TruthValue) (p n : Bool) → IsTold t p n → t ≡ cond n False (cond p True Unassigned)
told_plain True p n h = search arith
told_plain False p n h = ap (λ b. cond b False (cond p True Unassigned)) (sym h.1)
told_plain Unassigned p n h = search arith

told_negated : (t : TruthValue) (p n : Bool) → IsTold t p n → negated t ≡ cond p False (cond n True Unassigned)
told_negated True p n h = ap (λ b. cond b False (cond n True Unassigned)) (sym h.0)
told_negated False p n h = search arith
told_negated Unassigned p n h = search arith

-- a literal's value is what the table tells of its variable
pub told_value : (values : List TruthValue) (trues : List Literal) (l : Literal) (i : ℕ) → Tells values trues →
    variable_of l ≡ suc i → i < length values →
    signed (is_negative l) (get_or values i Unassigned) ≡ literal_value trues l
told_value values trues (positive v) i told e lt = search (arith, told_plain)
told_value values trues (negative v) i told e lt = search (arith, told_negated)

pub sign_low : (b : Bool) → cond b 1 0 ≤ 1
sign_low true = omega arith
sign_low false = omega arith
