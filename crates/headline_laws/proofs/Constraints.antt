-- Clauses and XOR lines say on the page what they say to the reader.
use Rattle.std.proofs.Common.{◌≡◌, ◌≢◌, ℕ, ◌+◌, ◌-◌, ◌^◌, ◌≤◌, ◌==◌, Bool, true, false, ◌||◌, cond, List, [], ◌∷◌, ◌++◌, length, map, reverse, refl, sym, ◌∙◌, ap, arith, length-append}
use Rattle.std.specs.List.{AllByRecursion, flat_map, fold, list_all, list_any, sum_by}
use Rattle.std.proofs.lemmas.List.{length-map}
use Rattle.std.proofs.lemmas.List.Folds.{list_any-append, list_all-append}
use Rattle.dq_lits.specs.Literal.{Assignment, positive, negative, variable_of, same_literal, literal_true, opposite}
use Rattle.dq_lits.specs.Literal.{Literal as ReadLiteral}
use Rattle.dq_lits.proofs.HeldLiterals.{any_one}
use Rattle.dq_formula.specs.Prefix.{occurs}
use Rattle.dq_formula.specs.Xor.{XorIsItsClauses, all_true, parity_clauses, xor_clauses, xor_true}
use Rattle.dqdimacs_reader.specs.Building.{add_literal, distinct}
use Rattle.dqdimacs_reader.specs.Grammar.{IsLawfulConstraint, AreLawfulConstraints}
use Rattle.dqdimacs_reader.specs.Grammar.{Constraint as ReadConstraint, plain, xor as read_xor}
use Rattle.dqdimacs_reader.proofs.SpelledIsRead.{clauses_of}
use Rattle.dqdimacs_reader.proofs.XorLines.{variables, xor_over, of_one, of_two, of_three, of_four, of_five}
use Rattle.headline.specs.Headline.{Literal, Constraint, clause, xor, literals_of, size_of, odd_true, constraint_true}
use Rattle.headline.specs.Headline.{positive as page_positive, opposite as page_opposite, variable_of as page_variable, literal_true as page_true}

abbrev pub page_literal : ReadLiteral → Literal
page_literal (positive v) = page_positive v
page_literal (negative v) = page_opposite v

abbrev pub page_literals : List ReadLiteral → List Literal
page_literals ls = map page_literal ls

abbrev pub page_constraint : ReadConstraint → Constraint
page_constraint (plain ls) = clause (page_literals ls)
page_constraint (read_xor ls) = xor (page_literals ls)

abbrev pub page_constraints : List ReadConstraint → List Constraint
page_constraints cs = map page_constraint cs

-- a test of literals, on the page and to the reader
record AreSame (p : Literal → Bool) (q : ReadLiteral → Bool) : Type 0 where
  pub each : (l : ReadLiteral) → p (page_literal l) ≡ q l

any_same : (p : Literal → Bool) (q : ReadLiteral → Bool) → AreSame p q → (ls : List ReadLiteral) →
    list_any p (page_literals ls) ≡ list_any q ls
any_same p q same [] = refl
any_same p q same (l ∷ ls) = search (arith, (any_same p q same ls))

-- a literal that stands there already changes no test
added : (q : ReadLiteral → Bool) (c : List ReadLiteral) (l : ReadLiteral) →
    list_any q (add_literal c l) ≡ (list_any q c || q l)
added q c l = by (list_any (same_literal l) c) refl where
  last : (b : Bool) → (b || (q l || false)) ≡ (b || q l)
  last b = ap (λ x. b || x) (or_none (q l)) where
    or_none : (x : Bool) → (x || false) ≡ x
    or_none false = refl
    or_none true = refl

  held : (x : Bool) → q l ≡ x → (x ≡ true → list_any q c ≡ true) → list_any q c ≡ (list_any q c || x)
  held false is all = or_same (list_any q c) where
    or_same : (b : Bool) → b ≡ (b || false)
    or_same false = refl
    or_same true = refl
  held true is all = all refl ∙ ap (λ b. b || true) (sym (all refl))

  by : (b : Bool) → list_any (same_literal l) c ≡ b → list_any q (cond b c (c ++ l ∷ [])) ≡ (list_any q c || q l)
  by true here = held (q l) refl (λ passes. any_one q c l here passes)
  by false here = list_any-append q c (l ∷ []) ∙ last (list_any q c)

any_added : (q : ReadLiteral → Bool) (ls c : List ReadLiteral) →
    list_any q (fold add_literal c ls) ≡ (list_any q c || list_any q ls)
any_added q [] c = search arith
any_added q (l ∷ ls) c =
    any_added q ls (add_literal c l)
    ∙ (ap (λ b. b || list_any q ls) (added q c l)
    ∙ assoc (list_any q c) (q l) (list_any q ls))
  where
    assoc : (a b c' : Bool) → ((a || b) || c') ≡ (a || (b || c'))
    assoc false b c' = refl
    assoc true b c' = refl

any_distinct : (q : ReadLiteral → Bool) (ls : List ReadLiteral) → list_any q (distinct ls) ≡ list_any q ls
any_distinct q ls = any_added q ls []

-- the variables of an XOR line's clauses
any_variable : (v : ℕ) (ls : List ReadLiteral) → list_any (λ l. variable_of l == v) ls ≡ list_any (λ x. x == v) (variables ls)
any_variable v [] = refl
any_variable v (l ∷ ls) = ap (λ b. (variable_of l == v) || b) (any_variable v ls)

over_all : (v : ℕ) (vs : List ℕ) (cs : List (List ReadLiteral)) → AllByRecursion (λ c. variables c ≡ vs) cs → cs ≢ [] →
    occurs cs v ≡ list_any (λ x. x == v) vs
over_all v vs [] over some = absurd (some refl)
over_all v vs (c ∷ cs) over some = search (arith, (over_all v vs cs over.1), any_variable)

some_clause : (ls : List ReadLiteral) → (c : List ReadLiteral) × ((cs : List (List ReadLiteral)) × (parity_clauses true ls ≡ c ∷ cs))
some_clause [] = ([], ([], refl))
some_clause (l ∷ before) =
    let one = some_clause before in (
      one.0 ++ l ∷ [],
      (
        map (λ c. c ++ l ∷ []) one.1.0 ++ map (λ c. c ++ opposite l ∷ []) (parity_clauses false before),
        ap (λ cs. map (λ c. c ++ l ∷ []) cs ++ map (λ c. c ++ opposite l ∷ []) (parity_clauses false before)) one.1.1,
      ),
    )

some_xor : (ls : List ReadLiteral) → xor_clauses ls ≢ []
some_xor ls none = search (arith, (some_clause (reverse ls)))

abbrev on : ℕ → Literal → Bool
on v l = page_variable l == v

on_same : (v : ℕ) → AreSame (on v) (λ l. variable_of l == v)
on_same v = search arith

constraint_occurs : (v : ℕ) (c : ReadConstraint) →
    occurs (clauses_of c) v ≡ list_any (on v) (literals_of (page_constraint c))
constraint_occurs v (plain ls) = search (arith, any_distinct, any_same, on_same)
constraint_occurs v (read_xor ls) =
    search (arith, (over_all v), (xor_over ls), (some_xor ls), (any_variable v ls), any_same, (on_same v))

pub all_occur : (v : ℕ) (cs : List ReadConstraint) →
    occurs (flat_map clauses_of cs) v ≡ list_any (λ c. list_any (on v) (literals_of c)) (page_constraints cs)
all_occur v [] = refl
all_occur v (c ∷ cs) = search (arith, list_any-append, constraint_occurs, (all_occur v cs))

-- their truth
true_same : (m : Assignment) → AreSame (page_true m) (literal_true m)
true_same m = search arith

odd_same : (m : Assignment) (ls : List ReadLiteral) → odd_true m (page_literals ls) ≡ xor_true m ls
odd_same m [] = refl
odd_same m (l ∷ ls) = search (arith, true_same, (odd_same m ls))

pub constraint_same : XorIsItsClauses → (m : Assignment) (c : ReadConstraint) →
    constraint_true m (page_constraint c) ≡ all_true m (clauses_of c)
constraint_same exact m (plain ls) = search (arith, any_same, true_same, any_distinct)
constraint_same exact m (read_xor ls) = odd_same m ls ∙ sym (exact m ls)

pub all_same : XorIsItsClauses → (m : Assignment) (cs : List ReadConstraint) →
    list_all (constraint_true m) (page_constraints cs) ≡ all_true m (flat_map clauses_of cs)
all_same exact m [] = refl
all_same exact m (c ∷ cs) = search (arith, constraint_same, (all_same exact m cs), list_all-append)

-- how many clauses an XOR line is
xor_size : (ls : List ReadLiteral) → 1 ≤ length ls → length ls ≤ 5 → 2 ^ (length ls - 1) ≡ length (xor_clauses ls)
xor_size [] some few = absurd (omega (arith, some))
xor_size (a ∷ []) some few = of_one (a ∷ []) refl
xor_size (a ∷ b ∷ []) some few = of_two (a ∷ b ∷ []) refl
xor_size (a ∷ b ∷ c ∷ []) some few = of_three (a ∷ b ∷ c ∷ []) refl
xor_size (a ∷ b ∷ c ∷ d ∷ []) some few = of_four (a ∷ b ∷ c ∷ d ∷ []) refl
xor_size (a ∷ b ∷ c ∷ d ∷ e ∷ []) some few = of_five (a ∷ b ∷ c ∷ d ∷ e ∷ []) refl
xor_size (a ∷ b ∷ c ∷ d ∷ e ∷ f ∷ ls) some few = absurd (omega (arith, few))

constraint_size : (n : ℕ) (c : ReadConstraint) → IsLawfulConstraint n c → size_of (page_constraint c) ≡ length (clauses_of c)
constraint_size n (plain ls) lawful = refl
constraint_size n (read_xor ls) lawful = search (arith, length-map, xor_size)

sizes_from : (n start : ℕ) (cs : List ReadConstraint) → AreLawfulConstraints n cs →
    fold (λ so_far c. so_far + size_of c) start (page_constraints cs) ≡ start + length (flat_map clauses_of cs)
sizes_from n start [] lawful = omega arith
sizes_from n start (c ∷ cs) lawful =
    let here = constraint_size n c lawful.0 in
    let rest = sizes_from n (start + size_of (page_constraint c)) cs lawful.1 in
    let parts = length-append (clauses_of c) (flat_map clauses_of cs) in
    rest ∙ omega (arith, here, parts)

pub all_sizes : (n : ℕ) (cs : List ReadConstraint) → AreLawfulConstraints n cs →
    sum_by size_of (page_constraints cs) ≡ length (flat_map clauses_of cs)
all_sizes n cs lawful = sizes_from n 0 cs lawful ∙ omega arith
