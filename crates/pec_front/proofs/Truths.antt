-- Clauses over circuit literals are true where gates and flags have their values, and then the formula's are.
use Rattle.std.proofs.Common.{◌≡◌, ℕ, suc, ◌<◌, ◌==◌, Bool, true, false, not, ◌&&◌, ◌||◌, List, [], ◌∷◌, map, length, get_or, refl, sym, arith}
use Rattle.std.specs.List.{All, AllByRecursion, list_any, filter, filter_map, flat_map}
use Rattle.std.specs.Option.{option_map}
use Rattle.std.proofs.lemmas.Bool.{true≢false, eqb-true, or_cases, or_left, or_right, or_parts}
use Rattle.std.proofs.lemmas.List.Elements.{All-cons, All-nil}
use Rattle.list_laws.proofs.Truths.{and_first, and_second, and_third}
use Rattle.dq_lits.specs.Literal.{Assignment, clause_true}
use Rattle.dq_lits.specs.Henkin.{same_bit}
use Rattle.circuit_plain.specs.Netlist.{literal_bit}
use Rattle.circuit_plain.specs.declared.circuits.Gate.{Gate}
use Rattle.cert_text.specs.NegatedMatrix.{gate_clauses, as_literal, without_constants}
use Rattle.dqdimacs_reader.specs.Building.{distinct}
use Rattle.pec_front.specs.Encoding.{agreement_clauses, numbered_gate}
use Rattle.pec_front.proofs.Distinct.{distinct-truth}
use Rattle.pec_front.proofs.Clauses.{with_constant, raw_true, opposite-bit, plain-literal}
use Rattle.pec_front.proofs.Circuits.{even-bit, seen_by, on_number-bit}
use Rattle.pec_front.proofs.Fitting.{Raw}
use Rattle.list_laws.proofs.Quantified.{rec_append}

pub gate-true : (number : ℕ → ℕ) (m : Assignment) (g : Gate) → seen_by number m g.variable
    ≡ (literal_bit (seen_by number m) g.left && literal_bit (seen_by number m) g.right) →
    AllByRecursion (Raw m) (gate_clauses (numbered_gate number g))
gate-true number m g is = search (arith, even-bit, opposite-bit, on_number-bit, and_first, and_second, and_third)

flag-first : (f a b : Bool) → f ≡ same_bit a b → (not f || (not a || (b || false))) ≡ true
flag-first f true true e = search arith
flag-first true true false e = absurd (true≢false e)
flag-first false true false e = refl
flag-first true false b e = refl
flag-first false false b e = refl

flag-second : (f a b : Bool) → f ≡ same_bit a b → (not f || (a || (not b || false))) ≡ true
flag-second true true b e = refl
flag-second false a b e = refl
flag-second true false true e = absurd (true≢false e)
flag-second true false false e = refl

flag-third : (f a b : Bool) → f ≡ same_bit a b → (f || (a || (b || false))) ≡ true
flag-third true a b e = refl
flag-third false true b e = refl
flag-third false false true e = refl
flag-third false false false e = absurd (true≢false (sym e))

flag-fourth : (f a b : Bool) → f ≡ same_bit a b → (f || (not a || (not b || false))) ≡ true
flag-fourth true a b e = refl
flag-fourth false true true e = absurd (true≢false (sym e))
flag-fourth false true false e = refl
flag-fourth false false b e = refl

pub agreement-true : (m : Assignment) (flag a b : ℕ) → with_constant m flag
    ≡ same_bit (literal_bit (with_constant m) a) (literal_bit (with_constant m) b) →
    AllByRecursion (Raw m) (agreement_clauses flag a b)
agreement-true m flag a b is =
    search (arith, even-bit, opposite-bit, flag-first, flag-second, flag-third, flag-fourth)

pub join-each : {X Y : Type 0} (P : Y → Type 0) (f : X → List Y) (xs : List X)
    → ((k : ℕ) (d : X) → k < length xs → AllByRecursion P (f (get_or xs k d))) → AllByRecursion P (flat_map f xs)
join-each P f [] each = tt
join-each P f (x ∷ xs) each = rec_append P (f x) (flat_map f xs) (each 0 x (omega arith))
    (join-each P f xs (λ k d below. each (suc k) d (omega (arith, below))))

zero-false : (m : Assignment) (l : ℕ) → (l == 0) ≡ true → literal_bit (with_constant m) l ≡ false
zero-false m l e = search (arith, eqb-true)

plain-kept : (m : Assignment) (clause : List ℕ) → list_any (λ l. l == 1) clause ≡ false → raw_true m clause ≡ true
    → clause_true m (map as_literal (filter (λ l. not (l == 0)) clause)) ≡ true
plain-kept m [] none h = h
plain-kept m (l ∷ ls) none h =
    search (arith, or_parts, or_cases, (plain-kept m ls), true≢false, zero-false, or_left, plain-literal, or_right)

-- the formula's clauses are true where those over circuit literals are
pub clauses-true : (m : Assignment) (clauses : List (List ℕ)) → AllByRecursion (Raw m) clauses
    → All (λ c. clause_true m c ≡ true) (filter_map (λ clause. option_map distinct (without_constants clause)) clauses)
clauses-true m [] all = All-nil (λ c. clause_true m c ≡ true)
clauses-true m (c ∷ cs) all =
    search (arith, (clauses-true m cs all.1), All-cons, (distinct-truth m), (plain-kept m c))
