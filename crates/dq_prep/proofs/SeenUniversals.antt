-- What existentials depend on, by tests.
use Rattle.std.proofs.Common.{◌≡◌, ℕ, zero, suc, ◌+◌, ◌<◌, ◌≤◌, ◌==◌, ◌↔◌, nat_lt, max, Bool, true, false, cond, ◌||◌, List, [], ◌∷◌, map, take, length, get_or, Option, Some, None, IsSome, IfSome, refl, sym, ◌∙◌, ap, arith}
use Rattle.std.specs.Prelude.{IsTrue}
use Rattle.std.specs.List.{All, Contains, list_any, filter, position_or_len}
use Rattle.std.proofs.lemmas.Bool.{lt-ltb, ltb-true, or_left, or_right, or_cases, cases_Bool, cases_lt}
use Rattle.std.proofs.lemmas.List.Elements.{All-head, All-tail}
use Rattle.list_laws.proofs.Members.{contains_tested, tested_inside}
use Rattle.number_tables.specs.Numbers.{has_number}
use Rattle.dq_lits.specs.Literal.{Literal, variable_of}
use Rattle.dq_lits.specs.Formula.{Existential, Dqbf, is_universal}
use Rattle.dq_prep.specs.declared.sights.Sight.{Sight}
use Rattle.dq_prep.specs.Reduction.{sees_in, stays}
use Rattle.dq_prep.specs.Sights.{keeps, AreWithin}

pub same-test : (a b : Bool) → (a ≡ true → b ≡ true) → (b ≡ true → a ≡ true) → a ≡ b
same-test true b f g = sym (f refl)
same-test false true f g = g refl
same-test false false f g = refl

pub sees-by : (x : ℕ) (o : Option Existential) (r : Bool) → IsSome o
    → IfSome o (λ e. IsTrue r ↔ Contains e.sees x) → r ≡ sees_in x o
sees-by x None r some iff = cc
sees-by x (Some e) r some iff = search (arith, same-test, tested_inside, contains_tested)

later-both : (p n : ℕ) → nat_lt p n ≡ nat_lt (1 + p) (suc n)
later-both p n = search (arith, same-test, nat_lt, lt-ltb, ltb-true)

-- the universals before a place are those that stand first
taken-within : (us : List ℕ) (n x : ℕ) → n ≤ length us
    → list_any (λ z. z == x) (take n us) ≡ nat_lt (position_or_len (λ u. u == x) us) n
taken-within us zero x few = search (arith, nat_lt)
taken-within [] (suc n) x few = absurd (omega arith)
taken-within (u ∷ us) (suc n) x few = search (arith, nat_lt, lt-ltb, later-both, (taken-within us n x))

before-either : (p a n : ℕ) → nat_lt p (max a n) ≡ (nat_lt p a || nat_lt p n)
before-either p a n = search (arith, same-test, nat_lt, cases_lt, or_left, lt-ltb, or_right, ltb-true, or_cases)

-- the first universals are added
pub firsts-added : (us : List ℕ) (a n : ℕ) (other : Bool) (x : ℕ) (o : Option Existential) → n ≤ length us
    → IsSome o → IfSome o (λ e. take n us ≡ e.sees)
    → (nat_lt (position_or_len (λ u. u == x) us) (max a n) || other)
    ≡ ((nat_lt (position_or_len (λ u. u == x) us) a || other) || sees_in x o)
firsts-added us a n other x None few some is = cc
firsts-added us a n other x (Some e) few some is = search (arith, before-either, nat_lt, taken-within)

-- a universal literal's variable is one of the clause's universals
listed-universal : (p : Literal → Bool) (clause : List Literal) (k : ℕ) (d : Literal) → k < length clause
    → p (get_or clause k d) ≡ true
    → has_number (map variable_of (filter p clause)) (variable_of (get_or clause k d)) ≡ true
listed-universal p [] k d below is = absurd (omega arith)
listed-universal p (l ∷ ls) zero d below is = search (arith, or_left)
listed-universal p (l ∷ ls) (suc k) d below is = search (arith, or_right, (listed-universal p ls k d))

pub filters-agree : {X : Type 0} (p q : X → Bool) (xs : List X) → All (λ l. p l ≡ q l) xs → filter p xs ≡ filter q xs
filters-agree {X} p q [] all = refl
filters-agree {X} p q (x ∷ xs) all =
    let Same : X → Type 0 = λ l. p l ≡ q l in
    ap (λ b. cond b (x ∷ filter p xs) (filter p xs)) (All-head Same x xs all)
    ∙ ap (λ ls. cond (q x) (x ∷ ls) ls) (filters-agree p q xs (All-tail Same x xs all))

-- what is kept by the universals within is what stays
pub keeps-stays : (f : Dqbf) (s : Sight) (clause : List Literal)
    → AreWithin f s clause (map variable_of (filter (λ l. is_universal f (variable_of l)) clause))
    → filter (keeps f s) clause ≡ filter (stays f clause) clause
keeps-stays f s clause within = search (arith, filters-agree, cases_Bool, listed-universal)
