-- What the clauses over circuit literals say of an assignment.
use Rattle.std.proofs.Common.{◌≡◌, ◌≢◌, ℕ, zero, suc, Bool, true, false, not, ◌||◌, List, refl, sym, arith}
use Rattle.std.specs.List.{list_any}
use Rattle.std.proofs.lemmas.Bool.{true≢false, eq-eqb, eqb-true, cond-true, cond-false}
use Rattle.dq_lits.specs.Literal.{Assignment, literal_true}
use Rattle.circuit_plain.specs.Netlist.{literal_bit}
use Rattle.cert_text.specs.NegatedMatrix.{opposite_of, as_literal}

-- an assignment as a map of circuit variables: variable 0 is the constant
abbrev pub with_constant : Assignment → ℕ → Bool
with_constant m zero = false
with_constant m (suc v) = m (suc v)

-- a clause of circuit literals
abbrev pub raw_true : Assignment → List ℕ → Bool
raw_true m clause = list_any (literal_bit (with_constant m)) clause

-- the opposite literal has the other bit
pub opposite-bit : (m : ℕ → Bool) (l : ℕ) → literal_bit m (opposite_of l) ≡ not (literal_bit m l)
opposite-bit m l = search (arith, eqb-true, cond-true, cond-false, true≢false, eq-eqb)

-- four clauses make a flag say that two bits agree: where they do, it is true, and where it is true,
-- they do
pub flag-raised : (f a b : Bool) → (f || (a || (b || false))) ≡ true → (f || (not a || (not b || false))) ≡ true → a
    ≡ b → f ≡ true
flag-raised true a b h1 h2 same = refl
flag-raised false true true h1 h2 same = absurd (true≢false (sym h2))
flag-raised false true false h1 h2 same = absurd (true≢false same)
flag-raised false false true h1 h2 same = absurd (true≢false (sym same))
flag-raised false false false h1 h2 same = absurd (true≢false (sym h1))

pub flag-means : (f a b : Bool) → (not f || (not a || (b || false))) ≡ true → (not f || (a || (not b || false)))
    ≡ true → f ≡ true → a ≡ b
flag-means true true true h1 h2 up = refl
flag-means true true false h1 h2 up = absurd (true≢false (sym h1))
flag-means true false true h1 h2 up = absurd (true≢false (sym h2))
flag-means true false false h1 h2 up = refl
flag-means false a b h1 h2 up = absurd (true≢false (sym up))

-- a literal that is no constant has its bit
pub plain-literal : (m : Assignment) (l : ℕ) → l ≢ 0 → l ≢ 1 → literal_true m (as_literal l)
    ≡ literal_bit (with_constant m) l
plain-literal m l nonzero nonone = search arith
