-- What is left of a clause, by its open literals.
use Rattle.std.proofs.Common.{◌≡◌, ℕ, Bool, true, false, not, cond, ◌||◌, ◌&&◌, List, [], ◌∷◌, get_or, None, refl, sym, ◌∙◌, ap, arith}
use Rattle.std.specs.List.{All, list_any, filter}
use Rattle.std.proofs.lemmas.Bool.{true≢false, or_left, or_right, cases_Bool, cond-false}
use Rattle.std.proofs.lemmas.List.Elements.{All-filter}
use Rattle.list_laws.proofs.Folds.{filter-wider}
use Rattle.dq_lits.specs.Literal.{Literal, positive, negative, variable_of, opposite}
use Rattle.dq_lits.specs.Formula.{Dqbf, is_universal, existential_of}
use Rattle.dq_lits.specs.Derivation.{holds, is_tautology}
use Rattle.dq_lits.proofs.HeldLiterals.{filter-holds, holds_of_filter}
use Rattle.dq_lits.proofs.SignedLiterals.{opposite-opposite}
use Rattle.dq_prep.specs.Reduction.{sees_in, is_seen, stays}
use Rattle.dq_prep.specs.Units.{is_satisfied, without_false, left_of}
use Rattle.dq_prep.specs.Roles.{open_literals}
use Rattle.dq_prep.proofs.Units.{satisfied-by}
use Rattle.dq_prep.proofs.SeenUniversals.{same-test, filters-agree}
use Rattle.dq_prep.proofs.SignedLiterals.{pair-in, pair-any}

-- a test on what another test lets through
filter-twice : {X : Type 0} (p q : X → Bool) (xs : List X) → filter p (filter q xs) ≡ filter (λ l. p l && q l) xs
filter-twice p q [] = refl
filter-twice p q (x ∷ xs) = search (arith, (filter-twice p q xs))

any-wider : (p q : Literal → Bool) (xs : List Literal) → ((l : Literal) → p l ≡ true → q l ≡ true)
    → list_any p (filter q xs) ≡ list_any p xs
any-wider p q [] wider = refl
any-wider p q (x ∷ xs) wider = search (arith, true≢false, (any-wider p q xs wider))

-- a literal of a clause that isn't satisfied was not taken
unsatisfied-false : (trues clause : List Literal) (l : Literal) → is_satisfied trues clause ≡ false
    → holds clause l ≡ true → holds trues l ≡ false
unsatisfied-false trues clause l unsatisfied inside = search (arith, cases_Bool, true≢false, satisfied-by)

-- a literal with its negation stays until one of them is taken
pub tautology-stays : (trues clause : List Literal) → is_satisfied trues clause ≡ false
    → is_tautology (without_false trues clause) ≡ is_tautology clause
tautology-stays trues clause unsatisfied = same-test (is_tautology rest) (is_tautology clause) there back
  where
    open-test : Literal → Bool
    open-test l = not (holds trues (opposite l))

    rest : List Literal
    rest = without_false trues clause

    there : is_tautology rest ≡ true → is_tautology clause ≡ true
    there h =
        let r = pair-in rest rest h in
        pair-any clause clause r.0 (holds_of_filter r.0 open-test clause r.1)
        (holds_of_filter (opposite r.0) open-test clause r.2)

    back : is_tautology clause ≡ true → is_tautology rest ≡ true
    back h =
        let r = pair-in clause clause h in
        let l = r.0 in
        let first : open-test l ≡ true = ap not (unsatisfied-false trues clause (opposite l) unsatisfied r.2) in
        let second : open-test (opposite l) ≡ true =
        ap (λ k. not (holds trues k)) (opposite-opposite l)
        ∙ ap not (unsatisfied-false trues clause l unsatisfied r.1) in
        pair-any rest rest l (filter-holds open-test clause l r.1 first)
        (filter-holds open-test clause (opposite l) r.2 second)

-- a literal alone is no tautology
pub alone-plain : (l : Literal) → is_tautology (l ∷ []) ≡ false
alone-plain (positive v) = refl
alone-plain (negative v) = refl

abbrev is_existential : Dqbf → Literal → Bool
is_existential f l = not (is_universal f (variable_of l))

-- what is left has the open literals of the clause, and maybe universals
pub left-opens : (f : Dqbf) (trues clause : List Literal)
    → filter (is_existential f) (left_of f trues clause) ≡ open_literals f trues clause
left-opens f trues clause = by (is_tautology rest)
    ∙ filter-twice (is_existential f) (λ l. not (holds trues (opposite l))) clause
  where
    rest : List Literal
    rest = without_false trues clause

    by : (b : Bool) → filter (is_existential f) (cond b rest (filter (stays f rest) rest)) ≡ filter
        (is_existential f) rest
    by true = refl
    by false = search (arith, filter-wider, rest, or_left)

-- no existential has a universal's variable
abbrev pub UniversalsSeeNothing : Dqbf → Type 0
UniversalsSeeNothing f =
    (l : Literal) → is_universal f (variable_of l) ≡ true → existential_of f (variable_of l) ≡ None

-- what a clause sees is what its open literals see
seen-by-open : (f : Dqbf) (trues clause : List Literal) (x : ℕ) → UniversalsSeeNothing f
    → is_seen f (without_false trues clause) x ≡ is_seen f (open_literals f trues clause) x
seen-by-open f trues clause x nothing =
    sym (any-wider sees (is_existential f) (without_false trues clause) wider)
    ∙ ap (list_any sees) (filter-twice (is_existential f) (λ l. not (holds trues (opposite l))) clause)
  where
    sees : Literal → Bool
    sees l = sees_in x (existential_of f (variable_of l))

    wider : (l : Literal) → sees l ≡ true → is_existential f l ≡ true
    wider l h = search (arith, cases_Bool, true≢false)

-- where the open literals see no variable of the clause, just they are left
pub left-is-open : (f : Dqbf) (trues clause : List Literal) → UniversalsSeeNothing f
    → is_satisfied trues clause ≡ false
    → is_tautology clause ≡ false
    → All (λ l. is_seen f (open_literals f trues clause) (variable_of l) ≡ false) clause
    → left_of f trues clause ≡ open_literals f trues clause
left-is-open f trues clause nothing unsatisfied plain unseen =
    let rest = without_false trues clause in
    let kept = filter (stays f rest) rest in
    let open-test : Literal → Bool = λ l. not (holds trues (opposite l)) in
    let Unseen : Literal → Type 0 = λ l. is_seen f (open_literals f trues clause) (variable_of l) ≡ false in
    let all = All-filter open-test Unseen clause unseen in
    cond-false (is_tautology rest) rest kept (tautology-stays trues clause unsatisfied ∙ plain)
    ∙ filters-agree (stays f rest) (is_existential f) rest (λ k d below.
    let l = get_or rest k d in
    ap (λ b. is_existential f l || b) (seen-by-open f trues clause (variable_of l) nothing ∙ all k d below)
    ∙ or-nothing (is_existential f l))
    ∙ filter-twice (is_existential f) open-test clause
  where
    or-nothing : (b : Bool) → (b || false) ≡ b
    or-nothing true = refl
    or-nothing false = refl

-- a literal that isn't false, on a variable that an open literal sees, is left
pub seen-left : (f : Dqbf) (trues clause : List Literal) (l : Literal) → UniversalsSeeNothing f
    → holds clause l ≡ true → holds trues (opposite l) ≡ false
    → is_seen f (open_literals f trues clause) (variable_of l) ≡ true → holds (left_of f trues clause) l ≡ true
seen-left f trues clause l nothing inside none seen = search (arith, filter-holds, or_right, seen-by-open)
