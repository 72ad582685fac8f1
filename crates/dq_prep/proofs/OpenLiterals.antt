-- The open literals of a clause, read one by one.
use Rattle.std.proofs.Common.{◌≡◌, ℕ, ◌+◌, ◌<◌, Bool, true, false, not, cond, ◌||◌, ◌&&◌, List, [], ◌∷◌, ◌++◌, take, length, get_or, refl, sym, ◌∙◌, ap, subst, arith}
use Rattle.std.proofs.lemmas.Bool.{true≢false, or_left, or_right, cases_Bool}
use Rattle.std.proofs.lemmas.List.{take_more, append-nil, length-append}
use Rattle.std.proofs.lemmas.List.Elements.{filter-append}
use Rattle.std.proofs.lemmas.List.Folds.{list_any-append}
use Rattle.dq_lits.specs.Literal.{Literal, variable_of, opposite}
use Rattle.dq_lits.specs.Formula.{Dqbf, is_universal}
use Rattle.dq_lits.specs.Derivation.{holds}
use Rattle.dq_lits.proofs.Truth.{same_literal-sound}
use Rattle.dq_prep.specs.declared.traces.Taken.{Taken}
use Rattle.dq_prep.specs.declared.roles.Role.{Role}
use Rattle.dq_prep.specs.declared.roles.Role.TheVariants.{Universal, True, False, Open}
use Rattle.dq_prep.specs.declared.roles.Opens.{Opens}
use Rattle.dq_prep.specs.declared.roles.Opens.TheVariants.{Satisfied, Nothing, One, More}
use Rattle.dq_prep.specs.Units.{taken_literals, is_satisfied, AreUnits}
use Rattle.dq_prep.specs.Roles.{is_true_role, is_false_role, role_of, is_open, open_literals, IsOpening, AreOpen, with_role}

-- no literal that was taken is on a universal
pub none-universal : (f : Dqbf) (units : List Taken) (l : Literal) → AreUnits f units
    → is_universal f (variable_of l) ≡ true → holds (taken_literals units) l ≡ false
none-universal f [] l are universal = refl
none-universal f (u ∷ us) l are universal =
    search (arith, cases_Bool, same_literal-sound, true≢false, (none-universal f us l are.1 universal))

-- by what the literal is
pushed : (opens : Opens) (universal here there satisfied : Bool) (open_ones : List Literal) (l : Literal)
    → (universal ≡ true → here ≡ false) → IsOpening satisfied open_ones opens
    → IsOpening (satisfied || (here || false)) (open_ones ++ cond (not universal && not there) (l ∷ []) [])
    (with_role opens (cond universal Universal (cond here True (cond there False Open))) l)
pushed opens true true there satisfied open_ones l none is = absurd (true≢false (none refl))
pushed opens true false there satisfied open_ones l none is = search (arith, append-nil)
pushed opens false true there satisfied open_ones l none is = or_right satisfied true refl
pushed opens false false true satisfied open_ones l none is = search (arith, append-nil)
pushed Satisfied false false false satisfied open_ones l none is = or_left satisfied false is
pushed Nothing false false false satisfied open_ones l none is = search arith
pushed (One k) false false false satisfied open_ones l none is = search arith
pushed More false false false satisfied open_ones l none is = search (arith, length-append)

-- one more literal of the clause
pub open-more : (f : Dqbf) (units : List Taken) (clause : List Literal) (i : ℕ) (l : Literal) (opens : Opens)
    (role : Role) → AreUnits f units → i < length clause → l ≡ get_or clause i l
    → role ≡ role_of f (taken_literals units) l → AreOpen f (taken_literals units) (take i clause) opens
    → AreOpen f (taken_literals units) (take (i + 1) clause) (with_role opens role l)
open-more f units clause i l opens role are below at is before =
    let trues = taken_literals units in
    let more : take (i + 1) clause ≡ take i clause ++ l ∷ [] =
    take_more clause i l below ∙ ap (λ k. take i clause ++ k ∷ []) (sym at) in
    let sat = list_any-append (holds trues) (take i clause) (l ∷ []) in
    let opened = filter-append (is_open f trues) (take i clause) (l ∷ []) in
    let step = pushed opens (is_universal f (variable_of l)) (holds trues l) (holds trues (opposite l))
    (is_satisfied trues (take i clause)) (open_literals f trues (take i clause)) l
    (none-universal f units l are) before in
    subst (λ ls. AreOpen f trues ls (with_role opens role l)) (sym more)
    (subst (λ r. AreOpen f trues (take i clause ++ l ∷ []) (with_role opens r l)) (sym is)
    (subst (λ b. IsOpening b (open_literals f trues (take i clause ++ l ∷ []))
    (with_role opens (role_of f trues l) l)) (sym sat)
    (subst (λ ls. IsOpening (is_satisfied trues (take i clause) || is_satisfied trues (l ∷ [])) ls
    (with_role opens (role_of f trues l) l))
    (sym opened) step)))

-- a literal is true by its role where it was taken
pub true-role : (f : Dqbf) (units : List Taken) (l : Literal) → AreUnits f units
    → is_true_role (role_of f (taken_literals units) l) ≡ holds (taken_literals units) l
true-role f units l are = search (arith, none-universal)

-- and false where its negation was
pub false-role : (f : Dqbf) (units : List Taken) (l : Literal) → AreUnits f units
    → holds (taken_literals units) l ≡ false
    → is_false_role (role_of f (taken_literals units) l) ≡ holds (taken_literals units) (opposite l)
false-role f units l are untaken = search (arith, none-universal, true≢false)
