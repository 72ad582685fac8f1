-- The numbers of a line are below 10^18.
use Rattle.std.proofs.Common.{◌≡◌, ℕ, zero, suc, ◌==◌, ◌≤◌, ◌<◌, ◌^◌, nat_lt, ℤ, pos, negsuc, neg_ℤ, nat_abs, Bool, true, false, cond, List, [], ◌∷◌, ◌++◌, map, Some, Ok, refl, sym, ◌∙◌, ap, arith}
use Rattle.std.specs.List.{All, AllByRecursion}
use Rattle.std.proofs.lemmas.Bool.{ltb-true}
use Rattle.std.proofs.lemmas.List.Elements.{All-from_recursion, recursion_from_All}
use Rattle.dq_lits.specs.Derivation.{ProofStep}
use Rattle.dq_lits.specs.Literal.{Literal, positive, negative, dimacs_literal, dimacs_number, variable_of}
use Rattle.dq_text.specs.Number.{unsigned_of, negative_of, number_of}
use Rattle.dq_text.specs.declared.numbers.Number.TheVariants.{Int, NotANumber, TooBig}
use Rattle.cert_text.specs.Grammar.{Tokens, integers, step_numbers, SpellsStep, HasSmallNumbers}
use Rattle.cert_text.specs.Numbers.{line_integers}
use Rattle.cert_text.specs.StepLine.{step_of}
use Rattle.cert_text.specs.StepNumbers.{numbered_step, maybe_step, IsLiteralNumber}
use Rattle.cert_text.specs.declared.step_lines.StepNumbers.{StepNumbers}
use Rattle.cert_text.proofs.Integers.{integers_spelled}
use Rattle.cert_text.proofs.SpelledSteps.{shape_read}

abbrev IsSmall : ℤ → Type 0
IsSmall n = nat_abs n < 10 ^ 18

chosen : (value : ℕ) (made n : ℤ) (fault small : Bool) → nat_abs made ≡ value → nat_lt value (10 ^ 18) ≡ small →
    cond fault NotANumber (cond small (Int made) TooBig) ≡ Int n → IsSmall n
chosen value made n true small is below h = cc
chosen value made n false false is below h = cc
chosen value made n false true is below h = search (arith, nat_abs, ltb-true)

negated_magnitude : (value : ℕ) → nat_abs (neg_ℤ (pos value)) ≡ value
negated_magnitude zero = refl
negated_magnitude (suc value) = refl

number_small : (minus : Bool) (byte : ℕ) (bytes : List ℕ) (n : ℤ) →
    cond minus (negative_of bytes) (unsigned_of (byte ∷ bytes)) ≡ Int n → IsSmall n
number_small true byte bytes n h = search (arith, chosen, neg_ℤ, nat_lt, negated_magnitude)
number_small false byte bytes n h = search (arith, chosen, nat_lt)

pub token_small : (token : List ℕ) (n : ℤ) → number_of token ≡ Int n → IsSmall n
token_small [] n h = cc
token_small (byte ∷ bytes) n h = number_small (byte == 45) byte bytes n h

integers_small : (tokens : Tokens) (ns : List ℤ) → map number_of tokens ≡ integers ns → AllByRecursion IsSmall ns
integers_small tokens [] h = tt
integers_small [] (n ∷ ns) h = cc
integers_small (token ∷ tokens) (n ∷ ns) h = search (arith, token_small, (integers_small tokens ns))

literals_small : (ls : List Literal) (behind : List ℤ) → AllByRecursion IsSmall (map dimacs_number ls ++ behind) →
    AllByRecursion (λ l. variable_of l < 10 ^ 18) ls
literals_small [] behind small = tt
literals_small (positive v ∷ ls) behind small = (small.0, literals_small ls behind small.1)
literals_small (negative v ∷ ls) behind small = search (arith, negated_magnitude, (literals_small ls behind small.1))

pub step_small : (tokens : Tokens) (s : ProofStep) → SpellsStep tokens s → HasSmallNumbers s
step_small tokens s spelled =
    let small = integers_small tokens (step_numbers s) spelled in
    record {
      id = small.0;
      variables = All-from_recursion (λ l. variable_of l < 10 ^ 18) s.literals
          (literals_small s.literals _ small.1);
    }

-- the literals of a line can be kept
kept : (ns : List ℤ) → AllByRecursion (λ l. variable_of l < 10 ^ 18) (map dimacs_literal ns) →
    AllByRecursion (λ n. 1 ≤ nat_abs n) ns →
    AllByRecursion IsLiteralNumber ns
kept [] small some = tt
kept (pos v ∷ ns) small some = ((some.0, omega (arith, small.0)), kept ns small.1 some.1)
kept (negsuc v ∷ ns) small some = ((some.0, omega (arith, small.0)), kept ns small.1 some.1)

pub keepable : (tokens : Tokens) (ns : List ℤ) (s : StepNumbers) → line_integers tokens ≡ Ok ns →
    maybe_step (Some s) ≡ step_of ns →
    All (λ n. 1 ≤ nat_abs n) s.literals.now → All IsLiteralNumber s.literals.now
keepable tokens ns s taken is some =
    let shape = shape_read ns (numbered_step s) (sym is) in
    let small = step_small tokens (numbered_step s) (integers_spelled tokens ns taken ∙ ap integers shape.numbers) in
    All-from_recursion IsLiteralNumber s.literals.now
    (kept s.literals.now (recursion_from_All (λ l. variable_of l < 10 ^ 18)
    (map dimacs_literal s.literals.now) small.variables)
    (recursion_from_All (λ n. 1 ≤ nat_abs n) s.literals.now some))
