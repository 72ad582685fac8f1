-- Literals of circuits as literals of clauses.
use Rattle.std.proofs.Common.{◌≡◌, ℕ, ◌+◌, ◌*◌, false, ◌∙◌, ap, arith, true, ◌/◌, ◌-◌}
use Rattle.std.proofs.lemmas.Bool.{ne_eqb, eq-eqb, cond-false, cond-true}
use Rattle.std.proofs.lemmas.Nat.{mod-mul-add, div-mul-add}
use Rattle.circuit_plain.specs.Netlist.{literal_negated, literal_variable}
use Rattle.cert_text.specs.NegatedMatrix.{opposite_of, as_literal}
use Rattle.dq_lits.specs.Literal.{positive, negative}

pub even : (n : ℕ) → literal_negated (2 * n) ≡ false
even n = search (arith, ne_eqb, mod-mul-add)

pub odd : (n : ℕ) → literal_negated (2 * n + 1) ≡ true
odd n = search (arith, eq-eqb, mod-mul-add)

pub half_even : (n : ℕ) → literal_variable (2 * n) ≡ n
half_even n = let e : 2 * n ≡ n * 2 + 0 = omega arith in ap (λ x. x / 2) e ∙ div-mul-add n 2 0 (omega arith)

pub half_odd : (n : ℕ) → literal_variable (2 * n + 1) ≡ n
half_odd n = let e : 2 * n + 1 ≡ n * 2 + 1 = omega arith in ap (λ x. x / 2) e ∙ div-mul-add n 2 1 (omega arith)

pub opposite_even : (n : ℕ) → opposite_of (2 * n) ≡ 2 * n + 1
opposite_even n = cond-false (literal_negated (2 * n)) (2 * n - 1) (2 * n + 1) (even n)

pub opposite_odd : (n : ℕ) → opposite_of (2 * n + 1) ≡ 2 * n
opposite_odd n = search (arith, cond-true, odd)

pub as_even : (n : ℕ) → as_literal (2 * n) ≡ positive n
as_even n = search (arith, cond-false, even, half_even)

pub as_odd : (n : ℕ) → as_literal (2 * n + 1) ≡ negative n
as_odd n = search (arith, cond-true, odd, half_odd)
