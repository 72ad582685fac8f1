-- Distinct variables, and members of a list by their places.
use Rattle.std.proofs.Common.{◌≡◌, ℕ, ◌-◌, ◌≤◌, ◌<◌, ◌≢◌, true, false, List, ◌++◌, length, take, get_or, refl, ap, sym, ◌∙◌, subst, arith, eqb, ltb, None, Some, Result, is_ok, position, IsTrue, ◌↔◌, true≢false, Contains, length-append, length-take, get_or-take}
use Rattle.std.proofs.lemmas.Bool.{eq-eqb, cases_lt, lt-ltb, ltb-true}
use Rattle.std.proofs.lemmas.List.{length-take-le, get_or_append_left, get_or-append_right}
use Rattle.std.proofs.lemmas.List.Elements.{Contains-get_or, All-contains}
use Rattle.std.proofs.lemmas.Map.Keys.{apart_from_distinct}
use Rattle.std.specs.List.{All, AllPairs, IsDistinct}
use Rattle.std.specs.List.Sorted.{IsBinarySearchResult, IsSearchInRange}
use Rattle.std.specs.Ordering.{nat_cmp}
use Rattle.list_laws.proofs.Folds.{filter-shorter}
use Rattle.dq_formula.specs.declared.dependencies.Deps.{Deps}
use Rattle.dq_formula.specs.declared.dependencies.Deps.TheVariants.{FirstOf, Listed}
use Rattle.dq_formula.specs.Dependencies.{dependencies, dependency_count, listed_universals, IsDependencySet}
use Rattle.dq_formula.proofs.Places.{place, has, has-contains, flip, place-absent, place-found, place-get_or}
use Rattle.dq_formula.proofs.Sorted.{get_or-place, place-below}
use Rattle.dq_formula.proofs.Search.{All-kept, found}

apart : (a b : ℕ) → eqb a b ≡ false → a ≢ b
apart a b e same = true≢false (sym (eq-eqb a b same) ∙ e)

-- two lists of distinct numbers with none in common
pub AllPairs-append : (us vs : List ℕ) → IsDistinct eqb us → IsDistinct eqb vs → All (λ v. has us v ≡ false) vs →
    AllPairs (λ v w. v ≢ w) (us ++ vs)
AllPairs-append us vs first second disjoint i j d l m =
    search (
      arith,
      (cases_lt j (length us)),
      (length-append us vs),
      (get_or_append_left us vs d i),
      (get_or_append_left us vs d j),
      (apart_from_distinct eqb us i j d first l),
      (get_or-append_right us vs (length us) j d),
      (has-contains us (get_or us i d)),
      (Contains-get_or us i d),
      (get_or-append_right us vs (length us) i d),
      (apart_from_distinct eqb vs (i - length us) (j - length us) d second),
      (cases_lt i (length us)),
    )

-- the first elements are elements
pub All-take_contains : (n : ℕ) (us : List ℕ) → All (Contains us) (take n us)
All-take_contains n us k d l = search (arith, (length-take n us), (get_or-take n us k d), (Contains-get_or us k d))

-- an element is among the first n where its place is below n
pub contains-take : (n : ℕ) (us : List ℕ) (x : ℕ) → IsDistinct eqb us → n ≤ length us → Contains (take n us) x →
    place us x < n
contains-take n us x distinct le m = search (arith, length-take, get_or-take, place-get_or)

pub take-contains : (n : ℕ) (us : List ℕ) (x : ℕ) → n ≤ length us → has us x ≡ true → place us x < n →
    Contains (take n us) x
take-contains n us x le among l = search (arith, (length-take n us), (get_or-take n us), (get_or-place us x x among))

-- the universals of a dependency set are universals
pub All-dependencies : (us : List ℕ) (deps : Deps) → IsDependencySet us deps → All (Contains us) (dependencies us deps)
All-dependencies us (FirstOf n) form = All-take_contains n us
All-dependencies us (Listed vs) form = All-kept us vs form

-- and are so many
pub length-dependencies : (us : List ℕ) (deps : Deps) → IsDependencySet us deps →
    length (dependencies us deps) ≡ dependency_count deps
length-dependencies us (FirstOf n) form = length-take-le n us form
length-dependencies us (Listed vs) form = refl

pub dependency_count-le : (us : List ℕ) (deps : Deps) → IsDependencySet us deps → dependency_count deps ≤ length us
dependency_count-le us (FirstOf n) form = form
dependency_count-le us (Listed vs) form = omega (arith, ap length form, filter-shorter (has vs) us)

found-at : (us : List ℕ) (x i : ℕ) → position (eqb x) us ≡ Some i → (place us x ≡ i) × (has us x ≡ true)
found-at us x i h = place-found us x i (sym (ap (λ p. position p us) (flip x)) ∙ h)

-- whether a set sees a variable that is no universal
pub sees-none : (us : List ℕ) (deps : Deps) (sees : List ℕ) (x : ℕ) → IsDependencySet us deps →
    dependencies us deps ≡ sees → position (eqb x) us ≡ None → IsTrue false ↔ Contains sees x
sees-none us deps sees x form same none = (
  (λ h. absurd (true≢false (sym h))),
  (λ m. let member : Contains us x = All-contains (Contains us) sees x
      (subst (All (Contains us)) same (All-dependencies us deps form)) m in
      let below = place-below us x (has-contains us x member) in
      let past = place-absent (λ u. eqb u x) us (sym (ap (λ p. position p us) (flip x)) ∙ none) in
      absurd (omega arith)),
)

-- a universal, by its place, where the set is the first n
pub sees-first : (us : List ℕ) (n : ℕ) (sees : List ℕ) (x i : ℕ) → IsDistinct eqb us → n ≤ length us →
    take n us ≡ sees → position (eqb x) us ≡ Some i → IsTrue (ltb i n) ↔ Contains sees x
sees-first us n sees x i distinct le same h =
    search (
      arith,
      (found-at us x i h),
      (ltb-true i n),
      (take-contains n us x le),
      (contains-take n us x distinct le),
      (lt-ltb i n),
    )

-- and by a search where they are listed
pub sees-listed : (us vs sees : List ℕ) (x i : ℕ) (r : Result ℕ ℕ) → IsDistinct eqb us → vs ≡ listed_universals us vs →
    vs ≡ sees → position (eqb x) us ≡ Some i
    → IsSearchInRange r (length vs) → IsBinarySearchResult (λ v. nat_cmp (place us v) i) vs r →
    IsTrue (is_ok r) ↔ Contains sees x
sees-listed us vs sees x i r distinct kept same h range result =
    let at = found-at us x i h in
    let result' : IsBinarySearchResult (λ v. nat_cmp (place us v) (place us x)) vs r = rw at.0 result in
    subst (λ s. IsTrue (is_ok r) ↔ Contains s x) same (found us vs x r distinct kept at.1 range result')

pub place-listed : (us vs : List ℕ) (i x : ℕ) → vs ≡ listed_universals us vs → i < length vs → x ≡ get_or vs i x →
    place us x < length us
place-listed us vs i x kept l at = place-below us x (has-contains us x
    (subst (Contains us) (sym at) (All-kept us vs kept i x l)))
