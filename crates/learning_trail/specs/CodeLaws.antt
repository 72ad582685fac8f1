-- A number and its literal stand for one another.
use Rattle.std.specs.Prelude.{◌≡◌, ℕ, ◌/◌, ◌%◌, ◌<◌, Bool}
use Rattle.std.proofs.Common.{ap, ◌∙◌, arith, cond, inl, inr}
use Rattle.std.proofs.Math.Nat.{mod-lt}
use Rattle.std.proofs.lemmas.Bool.{cases_eq, eq-eqb, ne_eqb}
use Rattle.std.proofs.lemmas.Nat.{div-add-mod'}
use Rattle.dq_lits.specs.Literal.{Literal, positive, negative}
use Rattle.learning_trail.specs.declared.codes.Code.TheInside.{Inside}
use Rattle.learning_trail.specs.Codes.{literal_at, number_of, literal_inside, inside_of}

abbrev by_parity : ℕ → Bool → Literal
by_parity n even = cond even (positive (n / 2)) (negative (n / 2))

pub number-literal : (n : ℕ) → number_of (literal_at n) ≡ n
number-literal n = elim (cases_eq (n % 2) 0) [
  | inl even ↦
      ap (λ b. number_of (by_parity n b)) (eq-eqb (n % 2) 0 even) ∙ omega (arith, even, div-add-mod' n 2)
  | inr odd ↦
      let low : n % 2 < 2 = mod-lt n (omega arith) in
      ap (λ b. number_of (by_parity n b)) (ne_eqb (n % 2) 0 odd) ∙ omega (arith, odd, low, div-add-mod' n 2)
]

pub inside_of-literal_inside : (c : Inside) → inside_of (literal_inside c) ≡ c
inside_of-literal_inside c =
    let inside : ℕ → Inside = λ n. record { number = n } in
    ap inside (number-literal c.number)
