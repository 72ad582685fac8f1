-- Steps that are read from left to right.
use Rattle.std.proofs.Common.{◌≡◌, ℕ, ◌<◌, ◌≤◌, ◌^◌, ℤ, pos, negsuc, nat_abs, w64, to_z, of_z, Bool, true, List, [], ◌∷◌, ◌++◌, map, refl, sym, ◌∙◌, ap, arith, append_assoc, Ok, subst, Option, Some, None, IfSome}
use Rattle.std.specs.List.{All}
use Rattle.std.proofs.lemmas.Int.{to_z-of_z}
use Rattle.std.proofs.lemmas.List.{map-append}
use Rattle.std.proofs.lemmas.List.Elements.{All-append, All-from_recursion}
use Rattle.std.proofs.lemmas.Bool.{and_parts, leb-true}
use Rattle.dq_lits.specs.Literal.{Literal, dimacs_literal, dimacs_number, variable_of}
use Rattle.dq_text.specs.Number.{number_of}
use Rattle.dq_text.specs.declared.numbers.Number.TheVariants.{Int}
use Rattle.cert_text.specs.Grammar.{Tokens, integers, SpellsStep, IsStep}
use Rattle.cert_text.specs.PlainStep.{read_step}
use Rattle.cert_text.specs.StepLine.{step_line}
use Rattle.cert_text.specs.StepNumbers.{IsLiteralNumber}
use Rattle.cert_text.specs.Variables.{is_variable}
use Rattle.cert_text.specs.declared.variables.Variables.{Variables}
use Rattle.cert_text.specs.declared.variables.Variables.TheVariants.{Pairs, UpTo}
use Rattle.cert_text.proofs.Parts.{pair_positive}
use Rattle.cert_text.proofs.SmallNumbers.{token_small}
use Rattle.cert_text.proofs.SpelledSteps.{step_taken, number_back}

-- the first number is below 10^18
pub first_small : (tokens left : Tokens) (n : ℤ) → map number_of tokens ≡ Int n ∷ map number_of left →
    nat_abs n < 10 ^ 18
first_small [] left n h = cc
first_small (token ∷ tokens) left n h = let here : number_of token ≡ Int n = cc in token_small token n here

pub integers-append : (ms ns : List ℤ) → integers (ms ++ ns) ≡ integers ms ++ integers ns
integers-append [] ns = refl
integers-append (m ∷ ms) ns = ap (λ rest. Int m ∷ rest) (integers-append ms ns)

-- variables have numbers from 1 on
pub variable_positive : (vs : Variables) (v : ℕ) → is_variable vs v ≡ true → 1 ≤ v
variable_positive (Pairs pairs) v h = pair_positive pairs.formula.now pairs.rows v h
variable_positive (UpTo last) v h = leb-true 1 v (and_parts _ _ h).0

pub wide : (n : ℤ) → nat_abs n < 10 ^ 18 → to_z w64 (of_z w64 n) ≡ n
wide (pos n) small = to_z-of_z w64 (pos n) (omega (arith, small))
wide (negsuc n) small = to_z-of_z w64 (negsuc n) (omega (arith, small))

-- a literal's number can be kept
pub literal_number : (tokens left : Tokens) (n : ℤ) → map number_of tokens ≡ Int n ∷ map number_of left →
    1 ≤ nat_abs (to_z w64 (of_z w64 n)) →
    IsLiteralNumber (to_z w64 (of_z w64 n))
literal_number tokens left n first some = search (arith, first_small, nat_abs, wide)

-- one literal more
pub literal_taken : (p : ℕ → Bool) (start tokens left : Tokens) (old new : List Literal) (n : ℤ) →
    map number_of tokens ≡ Int n ∷ map number_of left → new ≡ old ++ dimacs_literal (to_z w64 (of_z w64 n)) ∷ [] →
    p (variable_of (dimacs_literal (to_z w64 (of_z w64 n)))) ≡ true →
    map number_of start ≡ integers (map dimacs_number old) ++ map number_of tokens →
    All (λ l. p (variable_of l) ≡ true) old →
    (map number_of start ≡ integers (map dimacs_number new) ++ map number_of left) × All
    (λ l. p (variable_of l) ≡ true) new
literal_taken p start tokens left old new n first pushed holds so_far all =
    let m = to_z w64 (of_z w64 n) in
    let l = dimacs_literal m in
    let number : dimacs_number l ≡ n = number_back m ∙ wide n (first_small tokens left n first) in
    let P : Literal → Type 0 = λ k. p (variable_of k) ≡ true in
    let grown : integers (map dimacs_number new) ≡ integers (map dimacs_number old) ++ Int n ∷ [] =
    ap (λ ls. integers (map dimacs_number ls)) pushed
    ∙ ap integers (map-append dimacs_number old (l ∷ []))
    ∙ integers-append (map dimacs_number old) (dimacs_number l ∷ [])
    ∙ ap (λ k. integers (map dimacs_number old) ++ Int k ∷ []) number in (
      so_far
          ∙ ap (λ ns. integers (map dimacs_number old) ++ ns) first
          ∙ sym (append_assoc (integers (map dimacs_number old)) (Int n ∷ []) (map number_of left))
          ∙ ap (λ ns. ns ++ map number_of left) (sym grown),
      subst (All P) (sym pushed) (All-append P old (l ∷ []) all (All-from_recursion P (l ∷ []) (holds, tt))),
    )

pub if_some : {A : Type 0} (o : Option A) (x : A) (P : A → Type 0) → o ≡ Some x → IfSome o P → P x
if_some None x P is h = cc
if_some (Some y) x P is h = let same : y ≡ x = cc in subst P same h

-- such a line is read
pub plain_read : (vs : Variables) (next : ℕ) (tokens : Tokens) (id : ℕ) (ls : List Literal) (hs : List ℕ) → 1 ≤ id →
    SpellsStep tokens (read_step id ls hs) → IsStep (is_variable vs) next (read_step id ls hs) →
    step_line (is_variable vs) next tokens ≡ Ok (read_step id ls hs)
plain_read vs next tokens id ls hs some spelled is =
    step_taken (is_variable vs) next tokens (read_step id ls hs) (variable_positive vs)
    (omega (arith, some, is.numbered)) spelled is
