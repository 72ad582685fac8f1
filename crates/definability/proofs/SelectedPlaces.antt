-- What is selected by places, one by one.
use Rattle.std.proofs.Common.{◌≡◌, ℕ, zero, suc, ◌+◌, ◌-◌, ◌<◌, ◌≤◌, Bool, true, false, slice_get, List, [], ◌∷◌, ◌++◌, map, take, set, replicate, length, get_or, Some, refl, sym, ◌∙◌, ap, append_assoc, subst, arith}
use Rattle.std.specs.List.{All, Contains}
use Rattle.std.proofs.lemmas.List.{append-nil, take_all, take_more, map-append}
use Rattle.std.proofs.lemmas.Option.{slice_get-get_or, get_or_from_slice_get}
use Rattle.dq_lits.specs.Literal.{Assignment, Literal, positive, variable_of}
use Rattle.dq_lits.specs.Row.{bit_of}
use Rattle.oracle.specs.declared.groups.Group.{Group}
use Rattle.definability.specs.Copies.{is_copied_at}
use Rattle.definability.specs.Dividing.{AreActive}
use Rattle.definability.specs.declared.definability.Definability.{Definability}

one_more : (f : Literal → Bool) (xs : List Literal) (i n : ℕ) (d : Literal) → length xs ≡ i + suc n
    → set (map f (take i xs) ++ replicate (suc n) false) i (f (get_or xs i d)) ≡ map f
    (take (suc i) xs) ++ replicate n false
one_more f [] i n d long = absurd (omega (arith, long))
one_more f (x ∷ xs) zero n d long = refl
one_more f (x ∷ xs) (suc i) n d long = ap (λ bits. f x ∷ bits) (one_more f xs i n d (omega (arith, long)))

pub written_more : (f : Literal → Bool) (xs : List Literal) (i : ℕ) (d : Literal) (row next : List Bool) →
    i < length xs → row ≡ map f (take i xs) ++ replicate (length xs - i) false
    → next ≡ set row i (f (get_or xs i d)) → next ≡ map f (take (i + 1) xs) ++ replicate (length xs - (i + 1)) false
written_more f xs i d row next lt is next_is =
    let n = length xs - (i + 1) in
    let left : length xs - i ≡ suc n = omega (arith, lt) in
    let behind : i + 1 ≡ suc i = omega arith in
    next_is ∙ ap (λ r. set r i (f (get_or xs i d))) (is ∙ ap (λ k. map f (take i xs) ++ replicate k false) left)
    ∙ one_more f xs i n d (omega (arith, lt)) ∙ ap (λ k. map f (take k xs) ++ replicate n false) (sym behind)

pub written_all : (f : Literal → Bool) (xs : List Literal) (i : ℕ) (row : List Bool) → length xs ≤ i →
    row ≡ map f (take i xs) ++ replicate (length xs - i) false → row ≡ map f xs
written_all f xs i row past is = search (arith, replicate, append-nil, take_all)

pub mapped_more : {X : Type 0} (g : ℕ → X) (ps : List ℕ) (i p : ℕ) (old new : List X) (x : X) → i < length ps →
    get_or ps i p ≡ p → old ≡ map g (take i ps) → new ≡ old ++ x ∷ [] → x ≡ g p →
    new ≡ map g (take (i + 1) ps)
mapped_more g ps i p old new x lt at before pushed is =
    search (arith, (take_more ps i p lt), (map-append g (take i ps) (p ∷ [])))

mapped_sound : {X : Type 0} (g : ℕ → X) (ps : List ℕ) (x : X) → Contains (map g ps) x →
    (k : ℕ) × Contains ps k × (g k ≡ x)
mapped_sound g [] x (k, lt, at) = absurd (omega (arith, lt))
mapped_sound g (p ∷ ps) x (zero, lt, at) = (p, (0, omega arith, refl), at)
mapped_sound g (p ∷ ps) x (suc k, lt, at) =
    let r = mapped_sound g ps x (k, omega (arith, lt), at) in
    (r.0, (suc r.1.0, (let b = r.1.1 in omega (arith, b)), r.1.2), r.2)

mapped_complete : {X : Type 0} (g : ℕ → X) (ps : List ℕ) (k : ℕ) → Contains ps k → Contains (map g ps) (g k)
mapped_complete g [] k (i, lt, at) = absurd (omega (arith, lt))
mapped_complete g (p ∷ ps) k (zero, lt, at) = (0, omega arith, ap g at)
mapped_complete g (p ∷ ps) k (suc i, lt, at) = let r = mapped_complete g ps k (i, omega (arith, lt), at) in let b =
    r.1 in (suc r.0, omega (arith, b), r.2)

-- the equations at some places
abbrev pub no_group : Group
no_group = record { selector = positive 0 }

abbrev pub links_at : Definability → List ℕ → List Group
links_at p places = map (λ k. get_or p.links.items k no_group) places

pub all_active : (p : Definability) (places : List ℕ) (active : List Group) → All (λ k. k < length p.links.items) places →
    active ≡ (p.first.groups.items ++ p.second.groups.items) ++ links_at p places →
    AreActive p places active
all_active p places active within is = record {
  links = links_at p places;
  active_is = is ∙ append_assoc p.first.groups.items p.second.groups.items (links_at p places);
  sound = λ g among.
      let r = mapped_sound (λ k. get_or p.links.items k no_group) places g among in
      (r.0, r.1, slice_get-get_or p.links.items r.0 no_group (in_range r.0 r.1) ∙ ap Some r.2);
  complete = λ k g among at.
      subst (Contains (links_at p places)) (get_or_from_slice_get p.links.items k g no_group at)
      (mapped_complete (λ i. get_or p.links.items i no_group) places k among);
}
  where
    in_range : (k : ℕ) → Contains places k → k < length p.links.items
    in_range k (i, lt, at) = subst (λ n. n < length p.links.items) at (within i k lt)

-- one more equation behind the others
pub active_more : (p : Definability) (places : List ℕ) (i place : ℕ) (old new : List Group) (g : Group) → i < length places →
    get_or places i place ≡ place → old ≡ (p.first.groups.items ++ p.second.groups.items) ++ links_at p (take i places) →
    new ≡ old ++ g ∷ [] → g ≡ get_or p.links.items place no_group →
    new ≡ (p.first.groups.items ++ p.second.groups.items) ++ links_at p (take (i + 1) places)
active_more p places i place old new g lt at before pushed is = search (arith, append_assoc, mapped_more)

-- the bits of the first so many places are written
pub record AreBitsSoFar (values : Assignment) (flags others : List Bool) (lits : List Literal) (i : ℕ)
    (row : List Bool) : Type 0 where
  pub long : length row ≡ length lits
  pub copied : (k : ℕ) (l : Literal) → k < i → is_copied_at flags k ≡ true → slice_get lits k ≡ Some l →
      bit_of row k ≡ values (variable_of l)
  pub rest : (k : ℕ) → is_copied_at flags k ≡ false → bit_of row k ≡ bit_of others k
