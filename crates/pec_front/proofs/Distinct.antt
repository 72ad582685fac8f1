-- A clause's distinct literals say what the clause says.
use Rattle.std.proofs.Common.{◌≡◌, Bool, true, false, not, ◌||◌, List, [], ◌∷◌, ◌++◌, refl, sym, ◌∙◌, ap, arith}
use Rattle.std.specs.Prelude.{fold}
use Rattle.std.specs.List.{AllByRecursion}
use Rattle.std.proofs.lemmas.Bool.{true≢false, eqb-true}
use Rattle.std.proofs.lemmas.List.Folds.{list_any-append}
use Rattle.dq_lits.specs.Literal.{Assignment, Literal, positive, negative, literal_true, clause_true, same_literal}
use Rattle.dqdimacs_reader.specs.Building.{add_literal, distinct}
use Rattle.pec_front.proofs.Values.{contained, any-contained}
use Rattle.list_laws.proofs.Truths.{or_assoc_left}

or-nothing : (b : Bool) → b ≡ (b || false)
or-nothing true = refl
or-nothing false = refl

same-truth : (m : Assignment) (k l : Literal) → same_literal k l ≡ true → literal_true m k ≡ literal_true m l
same-truth m (positive v) (positive w) e = ap m (eqb-true v w e)
same-truth m (positive v) (negative w) e = absurd (true≢false (sym e))
same-truth m (negative v) (positive w) e = absurd (true≢false (sym e))
same-truth m (negative v) (negative w) e = ap (λ u. not (m u)) (eqb-true v w e)

add-truth : (m : Assignment) (clause : List Literal) (l : Literal) → clause_true m (add_literal clause l)
    ≡ (clause_true m clause || literal_true m l)
add-truth m clause l = search (arith, contained, any-contained, same-truth, or-nothing, list_any-append)

fold-truth : (m : Assignment) (clause literals : List Literal) → clause_true m (fold add_literal clause literals)
    ≡ (clause_true m clause || clause_true m literals)
fold-truth m clause [] = or-nothing (clause_true m clause)
fold-truth m clause (l ∷ ls) =
    fold-truth m (add_literal clause l) ls
    ∙ ap (λ b. b || clause_true m ls) (add-truth m clause l)
    ∙ or_assoc_left (clause_true m clause) (literal_true m l) (clause_true m ls)

pub distinct-truth : (m : Assignment) (clause : List Literal) → clause_true m (distinct clause) ≡ clause_true m clause
distinct-truth m clause = fold-truth m [] clause

push-part : (P : Literal → Type 0) (clause : List Literal) (l : Literal) → AllByRecursion P clause → P l
    → AllByRecursion P (clause ++ l ∷ [])
push-part P [] l all one = (one, tt)
push-part P (k ∷ ks) l all one = (all.0, push-part P ks l all.1 one)

add-each : (P : Literal → Type 0) (clause : List Literal) (l : Literal) → AllByRecursion P clause → P l
    → AllByRecursion P (add_literal clause l)
add-each P clause l all one = search (arith, push-part)

fold-each : (P : Literal → Type 0) (clause literals : List Literal) → AllByRecursion P clause
    → AllByRecursion P literals → AllByRecursion P (fold add_literal clause literals)
fold-each P clause [] all more = all
fold-each P clause (l ∷ ls) all more = fold-each P (add_literal clause l) ls (add-each P clause l all more.0) more.1

pub distinct-each : (P : Literal → Type 0) (clause : List Literal) → AllByRecursion P clause
    → AllByRecursion P (distinct clause)
distinct-each P clause all = fold-each P [] clause tt all
