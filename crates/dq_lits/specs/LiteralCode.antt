-- How a literal is kept: as a signed number.
use Rattle.std.specs.Prelude.{◌≡◌, ◌≤◌, ◌<◌, ◌^◌, ℤ, pos, negsuc, nat_abs, refl}
use Rattle.std.proofs.Common.{ap}
use Rattle.dq_lits.specs.Literal.{Literal, dimacs_literal, dimacs_number}
use Rattle.dq_lits.specs.declared.literals.Lit.TheInside.{Inside}

abbrev pub literal_inside : Inside → Literal
literal_inside l = dimacs_literal l.code

-- not zero, and of magnitude below 2^62
abbrev pub IsLiteralCode : Inside → Type 0
IsLiteralCode l = (1 ≤ nat_abs l.code) × (nat_abs l.code < 2 ^ 62)

abbrev pub inside_of : Literal → Inside
inside_of l = record { code = dimacs_number l }

number-literal : (code : ℤ) → dimacs_number (dimacs_literal code) ≡ code
number-literal (pos v) = refl
number-literal (negsuc n) = refl

pub inside_of-literal_inside : (l : Inside) → inside_of (literal_inside l) ≡ l
inside_of-literal_inside l =
    let inside : ℤ → Inside = λ code. record { code = code } in
    ap inside (number-literal l.code)
