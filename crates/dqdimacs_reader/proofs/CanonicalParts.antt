-- What the parts of a canonical text declare.
use Rattle.std.proofs.Common.{◌≡◌, ◌≢◌, ℕ, suc, ◌==◌, ◌≤◌, ◌||◌, Bool, true, false, List, [], ◌∷◌, ◌++◌, map, length, get_or, refl, sym, ◌∙◌, ap, subst, arith, append_assoc, append-nil, length-append}
use Rattle.std.specs.List.{AllPairs, AllByRecursion, list_any, fold}
use Rattle.std.proofs.lemmas.Bool.{ne_eqb, eqb-true}
use Rattle.std.proofs.lemmas.List.{map-append, get_or_append_left}
use Rattle.dq_lits.specs.Formula.{Existential, Dqbf}
use Rattle.dq_formula.specs.Dependencies.{listed_universals}
use Rattle.dqdimacs_reader.specs.Building.{empty_formula, add_universal}
use Rattle.dqdimacs_reader.specs.Grammar.{IsNew, AreNew, IsLawfulPart, AreLawfulParts, declare}
use Rattle.dqdimacs_reader.proofs.CanonicalWords.{part_by, part_of, universal_parts}

abbrev pub AreDistinct : List ℕ → Type 0
AreDistinct xs = AllPairs (λ x y. x ≢ y) xs

tail_distinct : (x : ℕ) (xs : List ℕ) → AreDistinct (x ∷ xs) → AreDistinct xs
tail_distinct x xs pairs i j d before below = pairs (suc i) (suc j) d (omega arith) (omega arith)

behind_front : (front back : List ℕ) (v d : ℕ) → get_or (front ++ v ∷ back) (length front) d ≡ v
behind_front [] back v d = refl
behind_front (x ∷ front) back v d = behind_front front back v d

-- where all are distinct, none before an element is it
no_earlier : (front back : List ℕ) (v : ℕ) → AreDistinct (front ++ v ∷ back) → list_any (λ x. x == v) front ≡ false
no_earlier [] back v pairs = refl
no_earlier (x ∷ front) back v pairs =
    let differs : x ≢ v = λ h.
    pairs 0 (suc (length front)) 0 (omega arith) (omega (arith, length-append front (v ∷ back)))
    (h ∙ sym (behind_front front back v 0)) in
    ap (λ b. b || list_any (λ y. y == v) front) (ne_eqb x v differs)
    ∙ no_earlier front back v (tail_distinct x (front ++ v ∷ back) pairs)

-- a formula with these declarations and no clauses
abbrev pub prefix : ℕ → List ℕ → List Existential → Dqbf
prefix variables universals existentials =
    record { variables = variables; universals = universals; existentials = existentials; matrix = [] }

abbrev pub IsVariable : ℕ → ℕ → Type 0
IsVariable variables v = (1 ≤ v) × (v ≤ variables)

universals_new : (variables : ℕ) (done rest : List ℕ) → AllByRecursion (IsVariable variables) rest →
    AreDistinct (done ++ rest) →
    AreNew add_universal (prefix variables done []) rest
universals_new variables done [] are pairs = tt
universals_new variables done (v ∷ rest) are pairs =
    let undeclared = ap (list_any (λ x. x == v)) (append-nil done) ∙ no_earlier done rest v pairs in (
      record { from_one = are.0.0; in_range = are.0.1; undeclared = undeclared },
      universals_new variables (done ++ v ∷ []) rest are.1 (subst AreDistinct
          (sym (append_assoc done (v ∷ []) rest)) pairs),
    )

universals_declared : (variables : ℕ) (done rest : List ℕ) →
    fold add_universal (prefix variables done []) rest ≡ prefix variables (done ++ rest) []
universals_declared variables done [] = ap (λ us. prefix variables us []) (sym (append-nil done))
universals_declared variables done (v ∷ rest) =
    search (arith, (universals_declared variables (done ++ v ∷ []) rest), append_assoc)

-- an existential whose set is of the formula's universals, in order of declaration
pub record IsOrdered (universals : List ℕ) (y : Existential) : Type 0 where
  pub listed : y.sees ≡ listed_universals universals y.sees
  pub whole : length y.sees ≡ length universals → y.sees ≡ universals

sees_given : (variables : ℕ) (us : List ℕ) (es : List Existential) (y : Existential) (sees : List ℕ) → y.sees ≡ sees →
    prefix variables us (es ++ record { variable = y.variable; sees = sees } ∷ []) ≡ prefix variables us (es ++ y ∷ [])
sees_given variables us es y sees is = search arith

declares_one : (whole : Bool) (variables : ℕ) (us : List ℕ) (es : List Existential) (y : Existential) →
    (length y.sees == length us) ≡ whole → IsOrdered us y →
    declare (prefix variables us es) (part_by whole y) ≡ prefix variables us (es ++ y ∷ [])
declares_one true variables us es y is ordered = search (arith, sees_given, eqb-true)
declares_one false variables us es y is ordered = search (arith, sees_given)

abbrev pub AreOrdered : List ℕ → List Existential → Type 0
AreOrdered us es = AllByRecursion (IsOrdered us) es

existentials_declared : (variables : ℕ) (us : List ℕ) (done rest : List Existential) → AreOrdered us rest →
    fold declare (prefix variables us done) (map (part_of us) rest) ≡ prefix variables us (done ++ rest)
existentials_declared variables us done [] ordered = ap (prefix variables us) (sym (append-nil done))
existentials_declared variables us done (y ∷ rest) ordered =
    search (arith, declares_one, (existentials_declared variables us (done ++ y ∷ []) rest ordered.1), append_assoc)

-- a universal of the formula
abbrev pub IsKnown : ℕ → List ℕ → ℕ → Type 0
IsKnown variables us x = (1 ≤ x) × (x ≤ variables) × (list_any (λ u. u == x) us ≡ true)

pub record IsDeclarable (variables : ℕ) (us : List ℕ) (y : Existential) : Type 0 where
  pub is_variable : IsVariable variables y.variable
  pub ordered : IsOrdered us y
  pub known : AllByRecursion (IsKnown variables us) y.sees

abbrev pub variable : Existential → ℕ
variable y = y.variable

moved : (us vs : List ℕ) (v : ℕ) (ws : List ℕ) → (us ++ (vs ++ v ∷ [])) ++ ws ≡ (us ++ vs) ++ v ∷ ws
moved us vs v ws = ap (λ xs. xs ++ ws) (sym (append_assoc us vs (v ∷ []))) ∙ append_assoc (us ++ vs) (v ∷ []) ws

distinct_behind : (us : List ℕ) (done rest : List Existential) (y : Existential) →
    AreDistinct ((us ++ map variable done) ++ map variable (y ∷ rest)) →
    AreDistinct ((us ++ map variable (done ++ y ∷ [])) ++ map variable rest)
distinct_behind us done rest y pairs =
    let here = ap (λ vs. (us ++ vs) ++ map variable rest) (map-append variable done (y ∷ [])) ∙ moved us
    (map variable done) y.variable (map variable rest) in
    subst AreDistinct (sym here) pairs

lawful_part : (whole : Bool) (variables : ℕ) (us : List ℕ) (done : List Existential) (y : Existential) →
    IsNew (prefix variables us done) y.variable → IsDeclarable variables us y →
    IsLawfulPart (prefix variables us done) (part_by whole y)
lawful_part true variables us done y new is = (new, tt)
lawful_part false variables us done y new is = (new, is.known)

parts_lawful : (variables : ℕ) (us : List ℕ) (done rest : List Existential) →
    AllByRecursion (IsDeclarable variables us) rest →
    AreDistinct ((us ++ map variable done) ++ map variable rest) →
    AreLawfulParts (prefix variables us done) (map (part_of us) rest)
parts_lawful variables us done [] are pairs = tt
parts_lawful variables us done (y ∷ rest) are pairs =
    search (
      arith,
      no_earlier,
      lawful_part,
      declares_one,
      (parts_lawful variables us (done ++ y ∷ []) rest are.1),
      distinct_behind,
    )

-- all parts, from the empty formula on
pub all_lawful : (variables : ℕ) (us : List ℕ) (es : List Existential) → AllByRecursion (IsVariable variables) us →
    AllByRecursion (IsDeclarable variables us) es → AreDistinct (us ++ map variable es) →
    AreLawfulParts (empty_formula variables) (universal_parts us ++ map (part_of us) es)
all_lawful variables [] es in_range are pairs = parts_lawful variables [] [] es are pairs
all_lawful variables (x ∷ xs) es in_range are pairs =
    let us = x ∷ xs in (
      universals_new variables [] us in_range (front_distinct us (map variable es) pairs),
      subst (λ f. AreLawfulParts f (map (part_of us) es)) (sym (universals_declared variables [] us))
          (parts_lawful variables us [] es are (subst (λ vs. AreDistinct (vs ++ map variable es))
          (sym (append-nil us)) pairs)),
    )
  where
    front_distinct : (front back : List ℕ) → AreDistinct (front ++ back) → AreDistinct front
    front_distinct front back distinct i j d before below =
        let first = get_or_append_left front back d i (omega (arith, before, below)) in
        let second = get_or_append_left front back d j below in
        λ h. distinct i j d before (omega (arith, below, length-append front back)) (first ∙ h ∙ sym second)

ordered_of : (variables : ℕ) (us : List ℕ) (es : List Existential) → AllByRecursion (IsDeclarable variables us) es →
    AreOrdered us es
ordered_of variables us [] are = tt
ordered_of variables us (y ∷ es) are = (are.0.ordered, ordered_of variables us es are.1)

pub all_declared : (variables : ℕ) (us : List ℕ) (es : List Existential) →
    AllByRecursion (IsDeclarable variables us) es →
    fold declare (empty_formula variables) (universal_parts us ++ map (part_of us) es) ≡ prefix variables us es
all_declared variables [] es are = existentials_declared variables [] [] es (ordered_of variables [] es are)
all_declared variables (x ∷ xs) es are = search (arith, universals_declared, existentials_declared, ordered_of)
