-- XOR lines: how many clauses one has, on which variables these stand, and what an XOR line's next
-- literal keeps.
use Rattle.std.proofs.Common.{◌≡◌, ◌≢◌, ℕ, suc, ◌<◌, ◌≤◌, ◌||◌, nat_lt, Bool, true, false, not, cond, List, [], ◌∷◌, ◌++◌, map, length, reverse, get_or, Option, None, refl, sym, ◌∙◌, ap, subst, arith, length-append}
use Rattle.std.specs.List.{AllPairs, AllByRecursion, list_any}
use Rattle.std.proofs.lemmas.Bool.{ne_eqb, eqb-false, eq-eqb, ltb-true, ltb-false, not-false, true≢false}
use Rattle.std.proofs.lemmas.List.{map-append, length-map, get_or-map, reverse-append, reverse-reverse}
use Rattle.std.proofs.lemmas.List.Folds.{list_any_at}
use Rattle.std.proofs.lemmas.List.Quantifiers.{all_pairs_push}
use Rattle.list_laws.proofs.Elements.{at_front}
use Rattle.dq_lits.specs.Literal.{Literal, positive, negative, variable_of, opposite, same_literal}
use Rattle.dq_lits.proofs.SignedLiterals.{opposite_variable}
use Rattle.dq_formula.specs.Xor.{parity_clauses, xor_clauses}
use Rattle.dqdimacs_reader.specs.Building.{add_literal}
use Rattle.dqdimacs_reader.specs.Grammar.{InRange}
use Rattle.dqdimacs_reader.specs.Machine.{Reading, fault_if, check_xor_literal, stands_on, max_xor}
use Rattle.dqdimacs_reader.specs.declared.faults.FormulaFault.{FormulaFault}

pub no_fault_parts : (b : Bool) (name : FormulaFault) (rest : Option FormulaFault) → fault_if b name rest ≡ None →
    (b ≡ false) × (rest ≡ None)
no_fault_parts true name rest h = cc
no_fault_parts false name rest h = (refl, h)

pub of_one : (ls : List Literal) → length ls ≡ 1 → 1 ≡ length (xor_clauses ls)
of_one [] h = absurd (omega (arith, h))
of_one (a ∷ []) h = refl
of_one (a ∷ b ∷ ls) h = absurd (omega (arith, h))

pub of_two : (ls : List Literal) → length ls ≡ 2 → 2 ≡ length (xor_clauses ls)
of_two [] h = absurd (omega (arith, h))
of_two (a ∷ []) h = absurd (omega (arith, h))
of_two (a ∷ b ∷ []) h = refl
of_two (a ∷ b ∷ c ∷ ls) h = absurd (omega (arith, h))

pub of_three : (ls : List Literal) → length ls ≡ 3 → 4 ≡ length (xor_clauses ls)
of_three [] h = absurd (omega (arith, h))
of_three (a ∷ []) h = absurd (omega (arith, h))
of_three (a ∷ b ∷ []) h = absurd (omega (arith, h))
of_three (a ∷ b ∷ c ∷ []) h = refl
of_three (a ∷ b ∷ c ∷ d ∷ ls) h = absurd (omega (arith, h))

pub of_four : (ls : List Literal) → length ls ≡ 4 → 8 ≡ length (xor_clauses ls)
of_four [] h = absurd (omega (arith, h))
of_four (a ∷ []) h = absurd (omega (arith, h))
of_four (a ∷ b ∷ []) h = absurd (omega (arith, h))
of_four (a ∷ b ∷ c ∷ []) h = absurd (omega (arith, h))
of_four (a ∷ b ∷ c ∷ d ∷ []) h = refl
of_four (a ∷ b ∷ c ∷ d ∷ e ∷ ls) h = absurd (omega (arith, h))

pub of_five : (ls : List Literal) → length ls ≡ 5 → 16 ≡ length (xor_clauses ls)
of_five [] h = absurd (omega (arith, h))
of_five (a ∷ []) h = absurd (omega (arith, h))
of_five (a ∷ b ∷ []) h = absurd (omega (arith, h))
of_five (a ∷ b ∷ c ∷ []) h = absurd (omega (arith, h))
of_five (a ∷ b ∷ c ∷ d ∷ []) h = absurd (omega (arith, h))
of_five (a ∷ b ∷ c ∷ d ∷ e ∷ []) h = refl
of_five (a ∷ b ∷ c ∷ d ∷ e ∷ f ∷ ls) h = absurd (omega (arith, h))

-- every clause has the variables of the line, in its order
abbrev pub variables : List Literal → List ℕ
variables ls = map variable_of ls

abbrev AreOver : List ℕ → List (List Literal) → Type 0
AreOver vs clauses = AllByRecursion (λ c. variables c ≡ vs) clauses

both : (vs : List ℕ) (xs ys : List (List Literal)) → AreOver vs xs → AreOver vs ys → AreOver vs (xs ++ ys)
both vs [] ys here there = there
both vs (x ∷ xs) ys here there = (here.0, both vs xs ys here.1 there)

with_last : (vs : List ℕ) (v : ℕ) (l : Literal) → variable_of l ≡ v → (clauses : List (List Literal)) →
    AreOver vs clauses →
    AreOver (vs ++ v ∷ []) (map (λ c. c ++ l ∷ []) clauses)
with_last vs v l stands [] are = tt
with_last vs v l stands (c ∷ cs) are = search (arith, map-append, (with_last vs v l stands cs are.1))

parity_step : (even : Bool) (l : Literal) (before : List Literal) →
    AreOver (variables (reverse before)) (parity_clauses even before) →
    AreOver (variables (reverse before)) (parity_clauses (not even) before) →
    AreOver (variables (reverse (l ∷ before)))
    (map (λ c. c ++ l ∷ []) (parity_clauses even before) ++ map (λ c. c ++ opposite l ∷ [])
    (parity_clauses (not even) before))
parity_step even l before here there =
    let vs = variables (reverse before) in
    let v = variable_of l in
    let whole : variables (reverse (l ∷ before)) ≡ vs ++ v ∷ [] =
    ap variables (reverse-append (l ∷ []) before) ∙ map-append variable_of (reverse before) (l ∷ []) in
    subst (λ ws. AreOver ws (map (λ c. c ++ l ∷ []) (parity_clauses even before) ++ map (λ c. c ++ opposite l ∷ [])
    (parity_clauses (not even) before)))
    (sym whole)
    (both (vs ++ v ∷ []) (map (λ c. c ++ l ∷ []) (parity_clauses even before))
    (map (λ c. c ++ opposite l ∷ []) (parity_clauses (not even) before))
    (with_last vs v l refl (parity_clauses even before) here)
    (with_last vs v (opposite l) (opposite_variable l) (parity_clauses (not even) before) there))

parity_over : (even : Bool) (before : List Literal) → AreOver (variables (reverse before)) (parity_clauses even before)
parity_over true [] = (refl, tt)
parity_over false [] = tt
parity_over true (l ∷ before) = parity_step true l before (parity_over true before) (parity_over false before)
parity_over false (l ∷ before) = parity_step false l before (parity_over false before) (parity_over true before)

pub xor_over : (ls : List Literal) → AllByRecursion (λ c. variables c ≡ variables ls) (xor_clauses ls)
xor_over ls = subst (λ zs. AreOver (variables zs) (xor_clauses ls)) (reverse-reverse ls) (parity_over true (reverse ls))

-- what a clause has that stands on the variables of a list
abbrev IsVariable : ℕ → ℕ → Type 0
IsVariable n v = (1 ≤ v) × (v ≤ n)

of_literals : (n : ℕ) (ls : List Literal) → AllByRecursion (InRange n) ls → AllByRecursion (IsVariable n) (variables ls)
of_literals n [] are = tt
of_literals n (l ∷ ls) are = (are.0, of_literals n ls are.1)

to_literals : (n : ℕ) (ls : List Literal) → AllByRecursion (IsVariable n) (variables ls) → AllByRecursion (InRange n) ls
to_literals n [] are = tt
to_literals n (l ∷ ls) are = (are.0, to_literals n ls are.1)

pub same_range : (n : ℕ) (ls c : List Literal) → variables c ≡ variables ls → AllByRecursion (InRange n) ls →
    AllByRecursion (InRange n) c
same_range n ls c same are = to_literals n c (subst (AllByRecursion (IsVariable n)) (sym same) (of_literals n ls are))

abbrev pub AreApart : List Literal → Type 0
AreApart ls = AllPairs (λ k l. variable_of k ≢ variable_of l) ls

same_length : (ls c : List Literal) → variables c ≡ variables ls → length c ≡ length ls
same_length ls c same = sym (length-map c variable_of) ∙ ap length same ∙ length-map ls variable_of

pub same_apart : (ls c : List Literal) → variables c ≡ variables ls → AreApart ls → AllPairs (λ k l. k ≢ l) c
same_apart ls c same apart i j d before below equal =
    let long = same_length ls c same in
    let at : (k : ℕ) → k < length c → variable_of (get_or c k d) ≡ variable_of (get_or ls k d) =
    λ k inside. sym (get_or-map variable_of c k d (variable_of d) inside)
    ∙ ap (λ vs. get_or vs k (variable_of d)) same
    ∙ get_or-map variable_of ls k d (variable_of d) (omega (arith, inside, long)) in
    apart i j d before (omega (arith, below, long))
    (sym (at i (omega (arith, before, below))) ∙ ap variable_of equal ∙ at j below)

-- a literal on a variable that none of the others stands on
same_stands : (k l : Literal) → variable_of k ≢ variable_of l → same_literal l k ≡ false
same_stands (positive v) (positive w) apart = ne_eqb w v (λ e. apart (sym e))
same_stands (positive v) (negative w) apart = refl
same_stands (negative v) (positive w) apart = refl
same_stands (negative v) (negative w) apart = ne_eqb w v (λ e. apart (sym e))

none_same : (ls : List Literal) (l : Literal) → list_any (stands_on (variable_of l)) ls ≡ false →
    list_any (same_literal l) ls ≡ false
none_same [] l none = refl
none_same (k ∷ ks) l none = search (arith, same_stands, eqb-false, (none_same ks l))

pub added_behind : (ls : List Literal) (l : Literal) → list_any (stands_on (variable_of l)) ls ≡ false →
    add_literal ls l ≡ ls ++ l ∷ []
added_behind ls l none = ap (λ b. cond b ls (ls ++ l ∷ [])) (none_same ls l none)

apart_from : (ls : List Literal) (l : Literal) → list_any (stands_on (variable_of l)) ls ≡ false →
    (k : ℕ) (d : Literal) → k < length ls → variable_of (get_or ls k d) ≢ variable_of l
apart_from ls l none k d below same =
    true≢false (sym (list_any_at (stands_on (variable_of l)) ls k d below
    (eq-eqb (variable_of (get_or ls k d)) (variable_of l) same)) ∙ none)

pub stays_apart : (ls : List Literal) (l : Literal) → AreApart ls → list_any (stands_on (variable_of l)) ls ≡ false →
    AreApart (ls ++ l ∷ [])
stays_apart ls l apart none = all_pairs_push (λ k m. variable_of k ≢ variable_of m) ls l apart (apart_from ls l none)

pub none_before : (front back : List Literal) (l : Literal) → AreApart (front ++ l ∷ back) →
    list_any (stands_on (variable_of l)) front ≡ false
none_before [] back l apart = refl
none_before (k ∷ front) back l apart =
    let differs : variable_of k ≢ variable_of l = λ h.
    apart 0 (suc (length front)) l (omega arith) (omega (arith, length-append front (l ∷ back)))
    (h ∙ sym (ap variable_of (at_front front back l l))) in
    ap (λ b. b || list_any (stands_on (variable_of l)) front) (ne_eqb (variable_of k) (variable_of l) differs)
    ∙ none_before front back l (λ i j d before below. apart (suc i) (suc j) d (omega arith) (omega arith))

-- what a literal's checks say
pub record Goes (r : Reading) (ls : List Literal) (v : ℕ) : Type 0 where
  pub in_range : v ≤ r.formula.variables
  pub room : length ls < max_xor
  pub none : list_any (stands_on v) ls ≡ false

pub goes : (r : Reading) (ls : List Literal) (v : ℕ) → check_xor_literal r ls v ≡ None → Goes r ls v
goes r ls v passed = search (arith, nat_lt, no_fault_parts, ltb-false, ltb-true, not-false)
