-- From the formula's clauses back to those over circuit literals.
use Rattle.std.proofs.Common.{◌≡◌, ◌≢◌, ℕ, ◌==◌, Bool, true, false, not, cond, List, [], ◌∷◌, map, Option, Some, None, arith}
use Rattle.std.specs.List.{All, AllByRecursion, list_any, filter, filter_map, flat_map, cons_option}
use Rattle.std.specs.Option.{option_map}
use Rattle.std.proofs.lemmas.Bool.{eqb-true, or_cases, or_parts, or_left, or_right}
use Rattle.std.proofs.lemmas.List.Elements.{All-head, All-tail}
use Rattle.list_laws.proofs.Sequences.{all_behind, all_before}
use Rattle.dq_lits.specs.Literal.{Assignment, Literal, clause_true}
use Rattle.circuit_plain.specs.Netlist.{literal_bit}
use Rattle.cert_text.specs.NegatedMatrix.{as_literal, without_constants}
use Rattle.dqdimacs_reader.specs.Building.{distinct}
use Rattle.pec_front.proofs.Distinct.{distinct-truth}
use Rattle.pec_front.proofs.Clauses.{with_constant, raw_true, plain-literal}

constant-true : (m : Assignment) (clause : List ℕ) → list_any (λ l. l == 1) clause ≡ true → raw_true m clause ≡ true
constant-true m [] h = h
constant-true m (l ∷ ls) h = search (arith, or_cases, or_left, eqb-true, or_right, (constant-true m ls))

kept-step : (m : Assignment) (b : Bool) (l : ℕ) (ls : List ℕ) (rest : List ℕ) → (l == 0) ≡ b → l ≢ 1
    → (clause_true m (map as_literal rest) ≡ true → raw_true m ls ≡ true) →
    clause_true m (map as_literal (cond (not b) (l ∷ rest) rest)) ≡ true → raw_true m (l ∷ ls) ≡ true
kept-step m true l ls rest zero' one later h = or_right (literal_bit (with_constant m) l) (raw_true m ls) (later h)
kept-step m false l ls rest nonzero one later h = search (arith, or_cases, or_left, plain-literal, or_right)

kept-true : (m : Assignment) (clause : List ℕ) → list_any (λ l. l == 1) clause ≡ false →
    clause_true m (map as_literal (filter (λ l. not (l == 0)) clause)) ≡ true → raw_true m clause ≡ true
kept-true m [] none h = h
kept-true m (l ∷ ls) none h = search (arith, or_parts, kept-step, (kept-true m ls))

abbrev MayHold : Assignment → Option (List Literal) → Type 0
MayHold m None = Unit {0}
MayHold m (Some clause) = clause_true m clause ≡ true

raw-from : (m : Assignment) (clause : List ℕ) → MayHold m (option_map distinct (without_constants clause))
    → raw_true m clause ≡ true
raw-from m clause h = search (arith, (constant-true m clause), (kept-true m clause), (distinct-truth m))

may-step : (m : Assignment) (o : Option (List Literal)) (rest : List (List Literal))
    → All (λ c. clause_true m c ≡ true) (cons_option o rest) → MayHold m o × All (λ c. clause_true m c ≡ true) rest
may-step m None rest all = (tt, all)
may-step m (Some c) rest all = search (arith, All-head, All-tail)

-- each clause holds as it was
pub all-raw : (m : Assignment) (clauses : List (List ℕ)) → All (λ c. clause_true m c ≡ true)
    (filter_map (λ clause. option_map distinct (without_constants clause)) clauses) →
    AllByRecursion (λ c. raw_true m c ≡ true) clauses
all-raw m [] all = tt
all-raw m (c ∷ cs) all =
    let h = λ (clause : List ℕ). option_map distinct (without_constants clause) in
    let two = may-step m (h c) (filter_map h cs) all in
    (raw-from m c two.0, all-raw m cs two.1)

pub each-part : {X Y : Type 0} (P : Y → Type 0) (f : X → List Y) (xs : List X) → AllByRecursion P (flat_map f xs)
    → AllByRecursion (λ x. AllByRecursion P (f x)) xs
each-part P f [] all = tt
each-part P f (x ∷ xs) all = search (arith, all_before, (each-part P f xs), all_behind)
