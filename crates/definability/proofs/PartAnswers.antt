-- The parts of a variable's copies, as they are made at a place of a formula.
use Rattle.std.proofs.Common.{◌≡◌, ◌≢◌, ℕ, ◌+◌, ◌<◌, ◌≤◌, ◌⊎◌, inl, inr, List, [], ◌∷◌, ◌++◌, map, length, set, get_or, slice_get, Some, None, Bool, true, false, refl, sym, ◌∙◌, ap, arith, suc, zero}
use Rattle.std.specs.List.{All, AllPairs, Contains}
use Rattle.std.proofs.lemmas.List.{length-append}
use Rattle.std.proofs.lemmas.List.Elements.{All-cons, All-nil}
use Rattle.std.proofs.lemmas.Option.{slice_get-get_or, slice_get_within}
use Rattle.list_laws.proofs.Members.{contains_cases}
use Rattle.dq_lits.specs.Literal.{Literal, positive, is_negative, opposite}
use Rattle.dq_lits.specs.Formula.{Dqbf, Existential, HasLawfulPrefix, declared}
use Rattle.dq_lits.proofs.SignedLiterals.{negated-positive}
use Rattle.hint_log.specs.Conditions.{AreLogged}
use Rattle.hint_log.specs.Entries.{Entry, Named, Given, ProofLog, with_entry, name_of}
use Rattle.hint_log.specs.Growth.{Each}
use Rattle.hint_log.specs.Naming.{AreNamedAs, named_literal}
use Rattle.hint_log.specs.Origins.{link_names}
use Rattle.hint_log.specs.declared.names.Name.TheVariants.{Selector, Copy as CopyOf}
use Rattle.hint_log.specs.declared.origins.Origin.TheVariants.{Link}
use Rattle.hint_log.proofs.NamedEntries.{named_contains}
use Rattle.oracle.specs.Calls.{IsMade, IsPlain}
use Rattle.oracle.specs.declared.groups.Group.{Group}
use Rattle.definability.specs.Copies.{AreTwins, group_variable, copies_of}
use Rattle.definability.specs.Following.{IsFollowing, CanGiveCopies, CanFollow}
use Rattle.definability.specs.Store.{StoreState, parts_at, IsStoreEntry, side_copies, copies_on, SideCopies, store_of}
use Rattle.definability.proofs.HalfSteps.{equated_following}
use Rattle.definability.proofs.LinkSteps.{linked_following}
use Rattle.definability.proofs.PartSteps.{raised, named_following, HasSameLengths}
use Rattle.definability.proofs.DeclaredPlaces.{declared_long}
use Rattle.definability.specs.declared.definability.Definability.{Definability}
use Rattle.definability.proofs.GivenClauses.{plain_copy}

once_by : (us vs : List ℕ) (ys zs : List Existential) → us ≡ vs → ys ≡ zs →
    AllPairs (λ v w. v ≢ w) (vs ++ map (λ (y : Existential). y.variable) zs) →
    AllPairs (λ v w. v ≢ w) (us ++ map (λ (y : Existential). y.variable) ys)
once_by us vs ys zs us_are ys_are once = search arith

pub once_declared : (all : Dqbf) (numbered : List ℕ) (f : Dqbf) (s : StoreState) (es : List Entry) →
    CanGiveCopies all numbered f s es → HasLawfulPrefix f → AllPairs (λ v w. v ≢ w) (declared all)
once_declared all numbered f s es h lawful = search (arith, once_by)

stored_name : (all : Dqbf) (numbered : List ℕ) (s : StoreState) (es : List Entry) (v side x : ℕ) →
    Each (IsStoreEntry all numbered s) es → Contains es (Named v (CopyOf side x)) → (k : ℕ) →
    slice_get (declared all) k ≡ Some x → side ≤ parts_at s k
stored_name all numbered s [] v side x own inside = let below = inside.1 in absurd (omega (arith, below))
stored_name all numbered s (e ∷ es) v side x own inside =
    search (arith, (stored_name all numbered s es v side x own.1), contains_cases)

pub same_declared : (all : Dqbf) (numbered : List ℕ) (f : Dqbf) (s : StoreState) (es : List Entry) →
    CanGiveCopies all numbered f s es → declared all ≡ declared f
same_declared all numbered f s es h = search arith

-- the sides' copies are as long as the declared variables
module _ (all : Dqbf) (numbered : List ℕ) (f : Dqbf) (s : StoreState) (es : List Entry)
    (h : CanGiveCopies all numbered f s es) where
  first_long : length (side_copies s 1) ≡ length (declared all)
  first_long = search (arith, length-append, declared_long)

  second_long : length (side_copies s 2) ≡ length (declared all)
  second_long = search (arith, length-append, declared_long)

module _ (f : Dqbf) (lawful : HasLawfulPrefix f) (place x : ℕ) (x_is : slice_get (declared f) place ≡ Some x)
    (s : StoreState) (log : ProofLog) (logged : AreLogged log.entries) (all : Dqbf) (numbered : List ℕ)
    (h : CanGiveCopies all numbered f s log.entries) where
  x_there : slice_get (declared all) place ≡ Some x
  x_there = ap (λ xs. slice_get xs place) (same_declared all numbered f s log.entries h) ∙ x_is

  pub inside : place < length (declared all)
  inside = slice_get_within (declared all) place x x_there

  pub fresh_copy : (side : ℕ) → parts_at s place + 1 ≡ side → (v : ℕ) →
      name_of log.entries v ≡ Some (CopyOf side x) → ⊥
  fresh_copy side next v is =
      let low = stored_name all numbered s log.entries v side x h.store.own
      (named_contains log.entries v (CopyOf side x) is) place x_there in
      let one = next in
      omega (arith, low, one)

  pub copy_named : (side : ℕ) → (side ≡ 1) ⊎ (side ≡ 2) → (l : Literal) (v : ℕ) → l ≡ positive v →
      parts_at s place + 1 ≡ side → name_of log.entries v ≡ None → (first second : SideCopies) →
      HasSameLengths s.first first → HasSameLengths s.second second →
      copies_on first second side ≡ set (side_copies s side) place l →
      ((sd : ℕ) → sd ≢ side → copies_on first second sd ≡ side_copies s sd) →
      (new : ProofLog) → new ≡ with_entry log (Named v (CopyOf side x)) →
      IsFollowing all numbered s log (raised s place side first second s.links) new
  copy_named side sides l v l_is next unnamed first second long_first long_second put same new is =
      named_following all numbered f (once_declared all numbered f s log.entries h lawful) s log h logged place x side v
      x_there sides next unnamed first second long_first long_second
      (put ∙ ap (set (side_copies s side) place) l_is) same new is

  -- both copies of a variable whose equation is given
  pub are_twins : (a b : Literal) → slice_get (side_copies s 1) place ≡ Some a → slice_get (side_copies s 2) place ≡ Some b →
      2 ≤ parts_at s place → AreTwins log.entries (record { variable = x; first = a; second = b })
  are_twins a b a_is b_is two = let many = two in (
    h.store.parts.copies 1 place x a (omega (arith, many)) x_there a_is,
    h.store.parts.copies 2 place x b many x_there b_is,
  )

  pub link_there : (g : Group) → g ≡ get_or s.links place g → slice_get s.links place ≡ Some g
  link_there g g_is =
      let long = h.store.places.links in
      let low = inside in
      slice_get-get_or s.links place g (omega (arith, long, low)) ∙ ap Some (sym g_is)

  pub link_made : (g : Group) → g ≡ get_or s.links place g → IsMade log.entries g
  link_made g g_is = h.store.groups.links place g (link_there g g_is)

  pub link_opened : (g : Group) → parts_at s place ≡ 2 → is_negative g.selector ≡ false →
      name_of log.entries (group_variable g) ≡ None → (new : ProofLog) →
      new ≡ with_entry log (Named (group_variable g) (Selector (group_variable g))) →
      IsFollowing all numbered s log (raised s place 3 s.first s.second (set s.links place g)) new
  link_opened g two plain unnamed new is =
      linked_following all numbered f s log h logged place inside g two plain unnamed new is

  pub half_given : (i : ℕ) → (i ≡ 1) ⊎ (i ≡ 2) → parts_at s place ≡ i + 2 → (g : Group) →
      g ≡ get_or s.links place g → (rest : List Literal) → AreNamedAs log.entries rest (link_names x i) →
      (new : ProofLog) → new ≡ with_entry log (Given (Link x i) (opposite g.selector ∷ rest)) →
      IsFollowing all numbered s log (raised s place (i + 3) s.first s.second s.links) new
  half_given i half next g g_is rest named new is =
      equated_following all numbered f (once_declared all numbered f s log.entries h lawful) s log h logged place x i
      x_there half next g (link_there g g_is) rest named new
      (is ∙ ap (λ l. with_entry log (Given (Link x i) (l ∷ rest))) (negated-positive g.selector (link_made g g_is).positive))

-- where the lists of a store go to
pub places_within : (f : Dqbf) (p : Definability) (es : List Entry) → CanFollow f p es → (place : ℕ) →
    place < length (declared f) →
    (place < length p.parts.items) × (place < length (copies_of p.first)) × (place < length (copies_of p.second)) ×
    (place < length p.links.items)
places_within f p es (all, numbered, h) place below =
    let same = ap length (same_declared all numbered f (store_of p) es h) in
    let parts = h.store.places.parts in
    let links = h.store.places.links in
    let first = first_long all numbered f (store_of p) es h in
    let second = second_long all numbered f (store_of p) es h in (
      omega (arith, below, same, parts),
      omega (arith, below, same, first),
      omega (arith, below, same, second),
      omega (arith, below, same, links),
    )

pub other_first : (a b c : SideCopies) (sd : ℕ) → sd ≢ 1 → copies_on a c sd ≡ copies_on b c sd
other_first a b c zero differ = refl
other_first a b c (suc zero) differ = absurd (differ refl)
other_first a b c (suc (suc zero)) differ = refl
other_first a b c (suc (suc (suc sd))) differ = refl

pub other_second : (a b c : SideCopies) (sd : ℕ) → sd ≢ 2 → copies_on c a sd ≡ copies_on c b sd
other_second a b c zero differ = refl
other_second a b c (suc zero) differ = refl
other_second a b c (suc (suc zero)) differ = absurd (differ refl)
other_second a b c (suc (suc (suc sd))) differ = refl

-- literals of an equation are no selectors
two_plain : (es : List Entry) (v : ℕ) (b d : Bool) (lits : List Literal) →
    AreNamedAs es lits (named_literal (CopyOf 1 v) b ∷ named_literal (CopyOf 2 v) d ∷ []) → All (IsPlain es) lits
two_plain es v b d [] are = λ i e below. absurd (omega (arith, below))
two_plain es v b d (l ∷ []) are = cc
two_plain es v b d (l ∷ m ∷ []) are = search (arith, All-cons, plain_copy, All-nil)
two_plain es v b d (l ∷ m ∷ k ∷ lits) are = cc

pub link_plain : (es : List Entry) (v i : ℕ) → (i ≡ 1) ⊎ (i ≡ 2) → (lits : List Literal) →
    AreNamedAs es lits (link_names v i) → All (IsPlain es) lits
link_plain es v i (inl one) lits are = search (arith, (two_plain es v true false lits))
link_plain es v i (inr two) lits are = search (arith, (two_plain es v false true lits))
