-- XOR lines and their clauses.
use Rattle.std.proofs.Common.{◌≡◌, ℕ, zero, suc, ◌+◌, ◌≤◌, ◌<◌, ◌^◌, Bool, true, false, not, ◌&&◌, ◌||◌, List, [], ◌∷◌, ◌++◌, length, map, take, reverse, get_or, refl, sym, ◌∙◌, ap, ap₂, arith, append-nil, append_assoc, length-append}
use Rattle.std.specs.List.{All}
use Rattle.std.proofs.lemmas.List.{map-append, length-map}
use Rattle.std.proofs.lemmas.List.{reverse-append}
use Rattle.std.proofs.Math.Seq.{take-suc}
use Rattle.std.proofs.lemmas.List.Elements.{All-append, All-push, All-nil, All-cons, All-map, All-head, All-tail}
use Rattle.list_laws.proofs.Truths.{last, or_true, or_assoc}
use Rattle.dq_lits.specs.Literal.{Assignment, Literal, positive, negative, variable_of, opposite, literal_true, clause_true}
use Rattle.dq_lits.proofs.Truth.{literal_true-opposite}
use Rattle.dq_formula.specs.Xor.{differ, xor_true, parity_clauses, first_parity_clauses, xor_clauses, all_true, XorIsItsClauses}

regroup : (a b c : Bool) → (a && (b && c)) ≡ ((a && b) && c)
regroup true b c = refl
regroup false b c = refl

spread : (b c d : Bool) → ((c || b) && (b || d)) ≡ (b || (c && d))
spread true true d = refl
spread true false d = refl
spread false true d = refl
spread false false d = refl

abbrev pub same_bit : Bool → Bool → Bool
same_bit true b = b
same_bit false b = not b

both_lists : (m : Assignment) (xs ys : List (List Literal)) → all_true m (xs ++ ys) ≡ (all_true m xs && all_true m ys)
both_lists m [] ys = refl
both_lists m (x ∷ xs) ys = search (arith, (both_lists m xs ys))

-- with a true literal behind, every clause is true; with a false one, what it was
longer : (m : Assignment) (clause : List Literal) (l : Literal) →
    clause_true m (clause ++ l ∷ []) ≡ (clause_true m clause || literal_true m l)
longer m [] l = last (literal_true m l)
longer m (k ∷ ks) l = ap (λ b. literal_true m k || b) (longer m ks l) ∙ or_assoc (literal_true m k) (clause_true m ks)
    (literal_true m l)

with_last : (m : Assignment) (l : Literal) (b : Bool) → literal_true m l ≡ b → (clauses : List (List Literal)) →
    all_true m (map (λ clause. clause ++ l ∷ []) clauses) ≡ (b || all_true m clauses)
with_last m l b is [] = sym (or_true b)
with_last m l b is (c ∷ cs) =
    ap₂ (λ x y. x && y) (longer m c l ∙ ap (λ v. clause_true m c || v) is) (with_last m l b is cs)
    ∙ spread b (clause_true m c) (all_true m cs)

swapped : (a b c : Bool) → differ a (differ b c) ≡ differ b (differ a c)
swapped true true c = refl
swapped true false c = refl
swapped false true c = refl
swapped false false c = refl

two_parts : (b even odd : Bool) → ((b || same_bit even odd) && (not b || same_bit (not even) odd)) ≡ same_bit even
    (differ b odd)
two_parts true true true = refl
two_parts true true false = refl
two_parts true false true = refl
two_parts true false false = refl
two_parts false true true = refl
two_parts false true false = refl
two_parts false false true = refl
two_parts false false false = refl

parity_step : (m : Assignment) (l : Literal) (before : List Literal) (even : Bool) →
    all_true m (parity_clauses even before) ≡ same_bit even (xor_true m before) →
    all_true m (parity_clauses (not even) before) ≡ same_bit (not even) (xor_true m before) →
    all_true m (map (λ clause. clause ++ l ∷ []) (parity_clauses even before) ++ map
    (λ clause. clause ++ opposite l ∷ []) (parity_clauses (not even) before))
    ≡ same_bit even (xor_true m (l ∷ before))
parity_step m l before even h k =
    let b = literal_true m l in
    both_lists m (map (λ clause. clause ++ l ∷ []) (parity_clauses even before))
    (map (λ clause. clause ++ opposite l ∷ []) (parity_clauses (not even) before))
    ∙ ap₂ (λ x y. x && y)
    (with_last m l b refl (parity_clauses even before) ∙ ap (λ v. b || v) h)
    (with_last m (opposite l) (not b) (literal_true-opposite m l) (parity_clauses (not even) before) ∙ ap (λ v. not b || v) k)
    ∙ two_parts b even (xor_true m before)

-- the clauses are all true exactly where the number of true literals is odd, or even
pub parity_holds : (m : Assignment) (before : List Literal) (even : Bool) →
    all_true m (parity_clauses even before) ≡ same_bit even (xor_true m before)
parity_holds m [] true = refl
parity_holds m [] false = refl
parity_holds m (l ∷ before) true = search (arith, parity_step, (parity_holds m before true), (parity_holds m before))
parity_holds m (l ∷ before) false = parity_step m l before false (parity_holds m before false)
    (parity_holds m before true)

appended : (m : Assignment) (ls : List Literal) (l : Literal) →
    xor_true m (ls ++ l ∷ []) ≡ differ (literal_true m l) (xor_true m ls)
appended m [] l = refl
appended m (k ∷ ks) l = ap (differ (literal_true m k)) (appended m ks l) ∙ swapped (literal_true m k) (literal_true m l)
    (xor_true m ks)

pub reversed : (m : Assignment) (ls : List Literal) → xor_true m (reverse ls) ≡ xor_true m ls
reversed m [] = refl
reversed m (l ∷ ls) = ap (xor_true m) (reverse-append (l ∷ []) ls) ∙ appended m (reverse ls) l ∙ ap
    (differ (literal_true m l)) (reversed m ls)

-- the law: under every assignment an XOR line's clauses are all true exactly where the line is
pub xor_clauses_are_exact : XorIsItsClauses
xor_clauses_are_exact m literals = parity_holds m (reverse literals) true ∙ reversed m literals

-- x 3 1 2 0
example : xor_clauses (positive 3 ∷ positive 1 ∷ positive 2 ∷ [])
    ≡ (positive 3 ∷ positive 1 ∷ positive 2 ∷ []) ∷ (negative 3 ∷ negative 1 ∷ positive 2 ∷ [])
    ∷ (negative 3 ∷ positive 1 ∷ negative 2 ∷ []) ∷ (positive 3 ∷ negative 1 ∷ negative 2 ∷ []) ∷ []
example = refl

-- how many clauses there are
one-more : (even : Bool) (l : Literal) (before : List Literal) →
    length (parity_clauses even (l ∷ before)) ≡ length (parity_clauses even before) + length
    (parity_clauses (not even) before)
one-more even l before = search (arith, length-append, length-map)

halves : (l : Literal) (before : List Literal) (even : Bool) →
    length (parity_clauses even before) + length (parity_clauses (not even) before) ≡ 2 ^ length before
    → length (parity_clauses (not even) before) + length (parity_clauses (not (not even)) before) ≡ 2 ^ length before
    → length (parity_clauses even (l ∷ before)) + length (parity_clauses (not even) (l ∷ before)) ≡ 2 ^ suc
    (length before)
halves l before even a b = search (arith, one-more)

both-parities : (even : Bool) (literals : List Literal) → length (parity_clauses even literals) + length
    (parity_clauses (not even) literals) ≡ 2 ^ length literals
both-parities true [] = refl
both-parities false [] = refl
both-parities true (l ∷ before) = halves l before true (both-parities true before) (both-parities false before)
both-parities false (l ∷ before) = halves l before false (both-parities false before) (both-parities true before)

few-power : (n : ℕ) → n ≤ 4 → 2 ^ n ≤ 16
few-power zero le = omega arith
few-power (suc zero) le = omega arith
few-power (suc (suc zero)) le = omega arith
few-power (suc (suc (suc zero))) le = omega arith
few-power (suc (suc (suc (suc zero)))) le = omega arith
few-power (suc (suc (suc (suc (suc n))))) le = absurd (omega (arith, le))

pub few-parity : (even : Bool) (literals : List Literal) → length literals ≤ 5 →
    length (parity_clauses even literals) ≤ 16
few-parity true [] few = omega arith
few-parity false [] few = omega arith
few-parity even (l ∷ before) few = search (arith, one-more, both-parities, few-power)

-- the clauses stand on the literals' variables
pub All-parity : (v : ℕ) (even : Bool) (literals : List Literal) → All (λ l. variable_of l ≤ v) literals →
    All (All (λ l. variable_of l ≤ v)) (parity_clauses even literals)
All-parity v true [] h = search (arith, All-cons, All-nil)
All-parity v false [] h = All-nil (All (λ l. variable_of l ≤ v))
All-parity v even (l ∷ before) h =
    let rest = All-tail (λ l. variable_of l ≤ v) l before h in
    let low : variable_of l ≤ v = All-head (λ l. variable_of l ≤ v) l before h in
    All-append (All (λ l. variable_of l ≤ v)) (map (λ clause. clause ++ l ∷ []) (parity_clauses even before))
    (map (λ clause. clause ++ opposite l ∷ []) (parity_clauses (not even) before))
    (with-literal l low (parity_clauses even before) (All-parity v even before rest))
    (with-literal (opposite l) (negated-below l low) (parity_clauses (not even) before)
    (All-parity v (not even) before rest))
  where
    negated-below : (l : Literal) → variable_of l ≤ v → variable_of (opposite l) ≤ v
    negated-below (positive w) h = h
    negated-below (negative w) h = h

    with-literal : (l : Literal) → variable_of l ≤ v → (clauses : List (List Literal)) →
        All (All (λ l. variable_of l ≤ v)) clauses → All (All (λ l. variable_of l ≤ v))
        (map (λ clause. clause ++ l ∷ []) clauses)
    with-literal l low clauses h = All-map (All (λ l. variable_of l ≤ v)) (λ clause. clause ++ l ∷ []) clauses
        (λ k d less. All-push (λ l. variable_of l ≤ v) (get_or clauses k d) l (h k d less) low)

pub All-xor : (v : ℕ) (literals : List Literal) → All (λ l. variable_of l ≤ v) literals →
    All (All (λ l. variable_of l ≤ v)) (xor_clauses literals)
All-xor v literals h = All-parity v true (reverse literals) (All-reverse literals h)
  where
    All-reverse : (ls : List Literal) → All (λ l. variable_of l ≤ v) ls → All (λ l. variable_of l ≤ v) (reverse ls)
    All-reverse [] h = h
    All-reverse (l ∷ ls) h = rw (reverse-append (l ∷ []) ls)
        (All-push (λ l. variable_of l ≤ v) (reverse ls) l (All-reverse ls (All-tail (λ l. variable_of l ≤ v) l ls h))
        (All-head (λ l. variable_of l ≤ v) l ls h))

-- a literal more in front
pub parity-step : (even : Bool) (literals : List Literal) (m : ℕ) (d : Literal) → m < length literals
    → first_parity_clauses even literals (suc m)
    ≡ map (λ clause. clause ++ get_or literals m d ∷ []) (first_parity_clauses even literals m)
    ++ map (λ clause. clause ++ opposite (get_or literals m d) ∷ []) (first_parity_clauses (not even) literals m)
parity-step even literals m d l =
    search (arith, (take-suc literals m d l), (reverse-append (take m literals) (get_or literals m d ∷ [])))

append-behind : (k : Literal) (rest : List Literal) (clauses : List (List Literal)) →
    map (λ c. c ++ rest) (map (λ c. c ++ k ∷ []) clauses) ≡ map (λ c. c ++ k ∷ rest) clauses
append-behind k rest [] = refl
append-behind k rest (c ∷ cs) = ap₂ (λ x y. x ∷ y) (append_assoc c (k ∷ []) rest) (append-behind k rest cs)

pub both_signs : (even : Bool) (literals : List Literal) (m : ℕ) (d : Literal) (rest : List Literal) →
    m < length literals
    → map (λ c. c ++ rest) (first_parity_clauses even literals (suc m))
    ≡ map (λ c. c ++ get_or literals m d ∷ rest) (first_parity_clauses even literals m)
    ++ map (λ c. c ++ opposite (get_or literals m d) ∷ rest) (first_parity_clauses (not even) literals m)
both_signs even literals m d rest l =
    let k = get_or literals m d in
    let xs = first_parity_clauses even literals m in
    let ys = first_parity_clauses (not even) literals m in
    ap (map (λ c. c ++ rest)) (parity-step even literals m d l)
    ∙ map-append (λ c. c ++ rest) (map (λ c. c ++ k ∷ []) xs) (map (λ c. c ++ opposite k ∷ []) ys)
    ∙ ap₂ (λ x y. x ++ y) (append-behind k rest xs) (append-behind (opposite k) rest ys)

pub nothing_behind : (clauses : List (List Literal)) → map (λ c. c ++ []) clauses ≡ clauses
nothing_behind [] = refl
nothing_behind (c ∷ cs) = ap₂ (λ x y. x ∷ y) (append-nil c) (nothing_behind cs)
