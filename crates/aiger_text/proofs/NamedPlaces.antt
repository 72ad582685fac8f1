-- Names beside their places.
use Rattle.std.proofs.Common.{◌≡◌, ℕ, zero, suc, ◌+◌, ◌==◌, nat_eq, nat_lt, Bool, true, false, cond, not, ◌||◌, List, [], ◌∷◌, ◌++◌, length, get_or, Option, Some, None, refl, sym, ◌∙◌, ap, ap₂, arith}
use Rattle.std.specs.List.{zip, list_any, position, position_or_len}
use Rattle.std.specs.Map.{lookup}
use Rattle.std.specs.Cmp.{nat_eq_equiv}
use Rattle.std.proofs.lemmas.Bool.{ltb_from_iff, ltb-true, lt-ltb}
use Rattle.number_tables.specs.Numbers.{has_number, place_of}

-- a set looks for a place from the other side
same_first : (place : ℕ) (places : List ℕ) →
    position_or_len (λ p. p == place) places ≡ position_or_len (nat_eq place) places
same_first place [] = refl
same_first place (p ∷ places) = search (arith, (same_first place places))

pub same_place : (place : ℕ) (places : List ℕ) → place_of places place ≡ position (nat_eq place) places
same_place place places = search (arith, nat_lt, same_first)

pub same_presence : (place : ℕ) (places : List ℕ) → has_number places place ≡ list_any (nat_eq place) places
same_presence place [] = refl
same_presence place (p ∷ places) =
    ap₂ (λ b c. b || c) (nat_eq_equiv.symm p place) (same_presence place places)

-- one place more is looked at
step : (b : Bool) (name : List ℕ) (names : List (List ℕ)) (rest : Option (List ℕ)) (at count : ℕ) →
    rest ≡ cond (nat_lt at count) (Some (get_or names at [])) None
    → cond b (Some name) rest
    ≡ cond (nat_lt (cond (not b) (1 + at) 0) (suc count)) (Some (get_or (name ∷ names) (cond (not b) (1 + at) 0) [])) None
step true name names rest at count h =
    ap (λ b. cond b (Some name) None) (sym (lt-ltb 0 (suc count) (omega arith)))
step false name names rest at count h =
    let one : suc at ≡ 1 + at = omega arith in
    let less : nat_lt (suc at) (suc count) ≡ nat_lt at count =
    ltb_from_iff ((λ h. omega (arith, ltb-true (suc at) (suc count) h)), (λ lt. lt-ltb (suc at) (suc count) (omega (arith, lt)))) in
    h ∙ ap (λ b. cond b (Some (get_or names at [])) None) (sym less)
    ∙ ap (λ n. cond (nat_lt n (suc count)) (Some (get_or (name ∷ names) n [])) None) one

-- the name of a place stands at its index
pub found_at : (places : List ℕ) (names : List (List ℕ)) (place : ℕ) → length places ≡ length names →
    lookup (nat_eq place) (zip places names)
    ≡ cond (nat_lt (position_or_len (nat_eq place) places) (length places))
    (Some (get_or names (position_or_len (nat_eq place) places) [])) None
found_at [] names place same = refl
found_at (p ∷ places) [] place same = absurd (omega (arith, same))
found_at (p ∷ places) (name ∷ names) place same = search (arith, nat_eq, (found_at places names place))

absent_here : (b : Bool) (name : List ℕ) (rest : Option (List ℕ)) → cond b (Some name) rest ≡ None →
    (b ≡ false) × (rest ≡ None)
absent_here true name rest h = cc
absent_here false name rest h = (refl, h)

-- a place without a name isn't among them
pub no_place : (places : List ℕ) (names : List (List ℕ)) (place : ℕ) → length places ≡ length names →
    lookup (nat_eq place) (zip places names) ≡ None → list_any (nat_eq place) places ≡ false
no_place [] names place same none = refl
no_place (p ∷ places) [] place same none = absurd (omega (arith, same))
no_place (p ∷ places) (name ∷ names) place same none =
    search (arith, absent_here, nat_eq, (no_place places names place))

-- one name more, behind the others
pub zip_more : (places : List ℕ) (names : List (List ℕ)) (place : ℕ) (name : List ℕ) →
    length places ≡ length names
    → zip (places ++ place ∷ []) (names ++ name ∷ []) ≡ zip places names ++ (place, name) ∷ []
zip_more [] [] place name same = refl
zip_more [] (n ∷ names) place name same = absurd (omega (arith, same))
zip_more (p ∷ places) [] place name same = absurd (omega (arith, same))
zip_more (p ∷ places) (n ∷ names) place name same = search (arith, (zip_more places names place name))

pub zip_long : (places : List ℕ) (names : List (List ℕ)) → length places ≡ length names →
    length (zip places names) ≡ length names
zip_long [] [] same = refl
zip_long [] (n ∷ names) same = absurd (omega (arith, same))
zip_long (p ∷ places) [] same = absurd (omega (arith, same))
zip_long (p ∷ places) (n ∷ names) same = ap suc (zip_long places names (omega (arith, same)))

-- what stands at an index
pub zip_at : (places : List ℕ) (names : List (List ℕ)) (i : ℕ) → length places ≡ length names →
    get_or (zip places names) i (0, []) ≡ (get_or places i 0, get_or names i [])
zip_at [] [] i same = refl
zip_at [] (n ∷ names) i same = absurd (omega (arith, same))
zip_at (p ∷ places) [] i same = absurd (omega (arith, same))
zip_at (p ∷ places) (n ∷ names) zero same = refl
zip_at (p ∷ places) (n ∷ names) (suc i) same = zip_at places names i (omega (arith, same))

at_none : (b : Bool) (at : ℕ) (name : List ℕ) → cond b (Some at) None ≡ None → cond b (Some name) None ≡ None
at_none true at name h = let e : Some at ≡ None = h in cc
at_none false at name h = refl

at_some : (b : Bool) (at i : ℕ) (names : List (List ℕ)) → cond b (Some at) None ≡ Some i →
    cond b (Some (get_or names at [])) None ≡ Some (get_or names i [])
at_some true at i names h = search arith
at_some false at i names h = let e : None ≡ Some i = h in cc

pub named_none : (places : List ℕ) (names : List (List ℕ)) (place : ℕ) → length places ≡ length names →
    position (nat_eq place) places ≡ None → lookup (nat_eq place) (zip places names) ≡ None
named_none places names place same h = search (arith, found_at, at_none, nat_lt, nat_eq)

pub named_some : (places : List ℕ) (names : List (List ℕ)) (place i : ℕ) → length places ≡ length names →
    position (nat_eq place) places ≡ Some i → lookup (nat_eq place) (zip places names) ≡ Some (get_or names i [])
named_some places names place i same h = search (arith, found_at, at_some, nat_lt, nat_eq)
