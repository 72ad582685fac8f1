-- Rows that are compared by the bits that an existential sees.
use Rattle.std.proofs.Common.{◌≡◌, ◌≢◌, ℕ, zero, suc, eqb, ◌<◌, ◌==◌, Bool, true, false, List, [], ◌∷◌, ◌++◌, length, get_or, position, Option, Some, None, IsSome, refl, sym, ◌∙◌, ap, arith}
use Rattle.std.specs.List.{AllPairs, IsDistinct}
use Rattle.std.specs.Option.{IfSome}
use Rattle.std.specs.Cmp.{IsTotalOrder, bool_cmp_total}
use Rattle.std.specs.Cmp.Lexicographic.{lists_total}
use Rattle.std.specs.Ordering.{bool_cmp, ordering_then}
use Rattle.std.specs.declared.cmp.Ordering.TheVariants.{Equal}
use Rattle.std.proofs.lemmas.Bool.Decides.{Decides-eqb}
use Rattle.std.proofs.lemmas.List.{get_or_past}
use Rattle.std.proofs.lemmas.Map.Made.{IsDistinct-from_AllPairs}
use Rattle.list_laws.proofs.Quantified.{left-distinct}
use Rattle.dq_lits.specs.Formula.{Dqbf, Existential}
use Rattle.dq_lits.specs.Expansion.{row_assignment}
use Rattle.dq_lits.proofs.Choices.{same_bits-sound}
use Rattle.dq_formula.proofs.Places.{place-absent, place-found}
use Rattle.dq_formula.proofs.Restrictions.{assignment_of-place, same_bits-from_places}
use Rattle.expansion.specs.FirstRows.{sees_of, bits_cmp}

-- a universal's bit, by its place
pub bit_there : (f : Dqbf) (row : List Bool) (x at : ℕ) (bit : Bool) → length row ≡ length f.universals →
    position (λ u. u == x) f.universals ≡ Some at → bit ≡ get_or row at false
    → bit ≡ row_assignment f row x
bit_there f row x at bit whole found is = is ∙ ap (λ k. get_or row k false)
    (sym (place-found f.universals x at found).0) ∙ assignment_of-place f.universals row x whole

pub bit_nowhere : (f : Dqbf) (row : List Bool) (x : ℕ) → length row ≡ length f.universals →
    position (λ u. u == x) f.universals ≡ None → false ≡ row_assignment f row x
bit_nowhere f row x whole none =
    search (arith, place-absent, (get_or_past row), (assignment_of-place f.universals row x whole))

pub distinct_universals : (us vs : List ℕ) → AllPairs (λ v w. v ≢ w) (us ++ vs) → IsDistinct eqb us
distinct_universals us vs once = IsDistinct-from_AllPairs Decides-eqb us (left-distinct us vs once)

-- the set that an existential's form stands for
pub set_is : (o : Option Existential) (xs : List ℕ) → IsSome o → IfSome o (λ e. xs ≡ e.sees) → xs ≡ sees_of o
set_is None xs some is = cc
set_is (Some e) xs some is = is

-- the order of lists of bits
pub bits_total : IsTotalOrder bits_cmp
bits_total = lists_total bool_cmp_total

pub cmp_self : (xs : List Bool) → bits_cmp xs xs ≡ Equal
cmp_self [] = refl
cmp_self (true ∷ xs) = cmp_self xs
cmp_self (false ∷ xs) = cmp_self xs

pub cmp_equal : (xs ys : List Bool) → bits_cmp xs ys ≡ Equal → xs ≡ ys
cmp_equal [] [] e = refl
cmp_equal [] (y ∷ ys) e = cc
cmp_equal (x ∷ xs) [] e = cc
cmp_equal (true ∷ xs) (true ∷ ys) e = ap (λ zs. true ∷ zs) (cmp_equal xs ys e)
cmp_equal (true ∷ xs) (false ∷ ys) e = cc
cmp_equal (false ∷ xs) (true ∷ ys) e = cc
cmp_equal (false ∷ xs) (false ∷ ys) e = ap (λ zs. false ∷ zs) (cmp_equal xs ys e)

-- lists that agree at every place
pub cmp_from_places : (xs ys : List Bool) → length xs ≡ length ys →
    ((k : ℕ) → k < length xs → get_or xs k false ≡ get_or ys k false) → Equal ≡ bits_cmp xs ys
cmp_from_places xs ys long same = sym (ap (bits_cmp xs) (sym
    (same_bits-sound xs ys (same_bits-from_places xs ys long same))) ∙ cmp_self xs)

-- the first place where they differ decides
pub cmp_from_difference : (xs ys : List Bool) (i : ℕ) → i < length xs → i < length ys →
    ((k : ℕ) → k < i → get_or xs k false ≡ get_or ys k false)
    → (get_or xs i false ≡ get_or ys i false → ⊥) → bool_cmp (get_or xs i false) (get_or ys i false) ≡ bits_cmp xs ys
cmp_from_difference [] ys i low low' same other = absurd (omega (arith, low))
cmp_from_difference (x ∷ xs) [] i low low' same other = absurd (omega (arith, low'))
cmp_from_difference (x ∷ xs) (y ∷ ys) zero low low' same other = search arith
cmp_from_difference (x ∷ xs) (y ∷ ys) (suc i) low low' same other =
    cmp_from_difference xs ys i (omega (arith, low)) (omega (arith, low'))
    (λ k lt. same (suc k) (omega (arith, lt))) other ∙ by x y (same zero (omega arith))
  where
    by : (a b : Bool) → a ≡ b → bits_cmp xs ys ≡ ordering_then (bool_cmp a b) (bits_cmp xs ys)
    by true true e = refl
    by true false e = cc
    by false true e = cc
    by false false e = refl
