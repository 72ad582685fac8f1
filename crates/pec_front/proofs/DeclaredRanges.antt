-- Ranges of numbers that are declared one by one.
use Rattle.std.proofs.Common.{◌≡◌, ℕ, zero, suc, ◌+◌, ◌≤◌, ◌==◌, false, List, [], ◌∷◌, ◌++◌, map, refl, ap, arith, append_assoc}
use Rattle.std.specs.List.{list_any, range_with_len}
use Rattle.std.proofs.lemmas.Bool.{ne_eqb}
use Rattle.std.proofs.lemmas.List.Folds.{list_any-append}
use Rattle.dq_lits.specs.Formula.{Existential, Dqbf, declared}
use Rattle.pec_front.specs.Prefixes.{seeing}
use Rattle.pec_front.proofs.Numbers.{map-join}
use Rattle.list_laws.proofs.Numbers.{range_append}

pub range-misses : (a n v : ℕ) → a + n ≤ v → list_any (λ x. x == v) (range_with_len a n) ≡ false
range-misses a zero v low = refl
range-misses a (suc n) v low = search (arith, ne_eqb, (range-misses (a + 1) n v))

pub universal-more : (f old new : Dqbf) (x : ℕ) → old ≡ record f { universals = range_with_len 1 x }
    → new ≡ record old { universals = old.universals ++ (1 + x) ∷ [] }
    → new ≡ record f { universals = range_with_len 1 (x + 1) }
universal-more f old new x so_far added = search (arith, (range_append 1 x 1))

pub universal-new : (f old : Dqbf) (x : ℕ) → declared f ≡ [] → f.universals ≡ []
    → old ≡ record f { universals = range_with_len 1 x } → list_any (λ y. y == 1 + x) (declared old) ≡ false
universal-new f old x nothing none so_far = search (arith, list_any-append, (range-misses 1 x (1 + x)))

seeing-numbers : (us vs : List ℕ) → map (λ (y : Existential). y.variable) (map (seeing us) vs) ≡ vs
seeing-numbers us [] = refl
seeing-numbers us (v ∷ vs) = ap (λ xs. v ∷ xs) (seeing-numbers us vs)

pub seeing-more : (f old new : Dqbf) (first y : ℕ)
    → old ≡ record f { existentials = f.existentials ++ map (seeing f.universals) (range_with_len (first + 1) y) }
    → new ≡ record old {
      existentials = old.existentials ++ record { variable = first + 1 + y; sees = old.universals }
          ∷ [];
    }
    → new ≡ record f { existentials = f.existentials ++ map (seeing f.universals) (range_with_len (first + 1) (y + 1)) }
seeing-more f old new first y so_far added =
    search (arith, (append_assoc f.existentials), map-join, (range_append (first + 1) y 1))

pub seeing-new : (f old : Dqbf) (first y : ℕ) → declared f ≡ range_with_len 1 first
    → old ≡ record f { existentials = f.existentials ++ map (seeing f.universals) (range_with_len (first + 1) y) }
    → list_any (λ x. x == first + 1 + y) (declared old) ≡ false
seeing-new f old first y are so_far =
    search (
      arith,
      map-join,
      (seeing-numbers f.universals),
      (append_assoc f.universals),
      list_any-append,
      (range-misses 1 first),
      (range-misses (first + 1) y),
    )
