-- A store gets room for further clauses and frames.
use Rattle.std.proofs.Common.{◌≡◌, ℕ, zero, suc, ◌-◌, inl, List, [], ◌∷◌, ◌++◌, map, replicate, slice_get, slice_index_or, Option, Some, None, refl, sym, ap, subst, arith, ◌<◌, false, length, get_or, is_some, ◌∙◌}
use Rattle.std.specs.List.{Contains}
use Rattle.list_laws.proofs.Elements.{zeros_there}
use Rattle.dq_lits.specs.Formula.{Dqbf}
use Rattle.hint_log.specs.Conditions.{AreLogged}
use Rattle.hint_log.specs.Entries.{ProofLog}
use Rattle.hint_log.specs.ProductiveSession.{frame_of}
use Rattle.oracle.specs.declared.groups.Group.{Group}
use Rattle.definability.specs.Copies.{group_variable}
use Rattle.definability.specs.Following.{IsFollowing}
use Rattle.definability.specs.Store.{StoreState, HasGiven, HasGroup, Slot, of_frame, of_link, both_groups, IsPartialStore}
use Rattle.definability.specs.declared.frames.Sides.{Sides}
use Rattle.definability.proofs.PreservedStores.{IsGrown, entries_kept}
use Rattle.definability.proofs.StoreSteps.{following_same}
use Rattle.std.proofs.lemmas.List.{append_assoc}
use Rattle.std.proofs.lemmas.Option.{slice_get-get_or}

more_zeros : (xs : List ℕ) (n k : ℕ) → slice_index_or (xs ++ replicate n 0) k 0 ≡ slice_index_or xs k 0
more_zeros [] n k = zeros_there n k
more_zeros (x ∷ xs) n zero = refl
more_zeros (x ∷ xs) n (suc k) = more_zeros xs n k

no_frame : (n k : ℕ) (x : Sides) → slice_get (replicate n None) k ≡ Some (Some x) → ⊥
no_frame zero k x is = cc
no_frame (suc n) zero x is = cc
no_frame (suc n) (suc k) x is = no_frame n k x is

old_frame : (xs : List (Option Sides)) (n k : ℕ) (x : Sides) → slice_get (xs ++ replicate n None) k ≡ Some (Some x) →
    slice_get xs k ≡ Some (Some x)
old_frame [] n k x is = absurd (no_frame n k x is)
old_frame (y ∷ xs) n zero x is = is
old_frame (y ∷ xs) n (suc k) x is = old_frame xs n k x is

kept_frame : (xs : List (Option Sides)) (n k : ℕ) (x : Sides) → slice_get xs k ≡ Some (Some x) →
    slice_get (xs ++ replicate n None) k ≡ Some (Some x)
kept_frame [] n k x is = cc
kept_frame (y ∷ xs) n zero x is = is
kept_frame (y ∷ xs) n (suc k) x is = kept_frame xs n k x is

no_numbers : (n : ℕ) → both_groups (replicate n None) ≡ []
no_numbers zero = refl
no_numbers (suc n) = no_numbers n

same_numbers : (xs : List (Option Sides)) (n : ℕ) → both_groups (xs ++ replicate n None) ≡ both_groups xs
same_numbers [] n = no_numbers n
same_numbers (None ∷ xs) n = same_numbers xs n
same_numbers (Some x ∷ xs) n = ap (λ ys. group_variable x.first ∷ group_variable x.second ∷ ys) (same_numbers xs n)

module _ (all : Dqbf) (numbered : List ℕ) (s : StoreState) (log : ProofLog) (store : IsPartialStore all numbered s log.entries)
    (logged : AreLogged log.entries) (m n : ℕ) where
  abbrev pub roomier : StoreState
  roomier = record s { given = s.given ++ replicate m 0; frames = s.frames ++ replicate n None }

  kept_group : (slot : Slot) (g : Group) → HasGroup s slot g → HasGroup roomier slot g
  kept_group (of_frame side F) g (x, x_is, g_is) = (x, kept_frame s.frames n F x x_is, g_is)
  kept_group (of_link k) g has = has

  old_group : (slot : Slot) (g : Group) → HasGroup roomier slot g → HasGroup s slot g
  old_group (of_frame side F) g (x, x_is, g_is) = (x, old_frame s.frames n F x x_is, g_is)
  old_group (of_link k) g has = has

  more : (side j : ℕ) → HasGiven s side j → HasGiven roomier side j
  more side j has =
      let same = more_zeros s.given m (j - 1) in
      let low = has.within in
      record { from_one = has.from_one; within = omega (arith, same, low) }

  less : (side j : ℕ) → HasGiven roomier side j → HasGiven s side j
  less side j has =
      let same = more_zeros s.given m (j - 1) in
      let low = has.within in
      record { from_one = has.from_one; within = omega (arith, same, low) }

  grown : IsGrown s roomier
  grown = record {
    kept_groups = kept_group;
    more_given = more;
    more_parts = λ k. omega arith;
    kept_links = λ k g low is. is;
  }

  numbers : both_groups (s.frames ++ replicate n None) ≡ both_groups s.frames
  numbers = same_numbers s.frames n

  roomier_store : IsPartialStore all numbered roomier log.entries
  roomier_store = record {
    places = store.places;
    whole = store.whole;
    parts = store.parts;
    groups = search (arith, old_group);
    givens = λ side j one has.
        let there = store.givens side j one (less side j has) in
        record {
          clause = there.clause;
          clause_is = there.clause_is;
          covered = there.covered;
          group = there.group;
          has_group = kept_group (of_frame side (frame_of numbered j)) there.group there.has_group;
          given = there.given;
        };
    own = entries_kept all numbered s roomier grown log.entries (λ slot g has. inl (old_group slot g has)) logged
        store.own;
    active = λ g has. subst (λ ns. Contains ns (group_variable g)) (sym numbers) (store.active g has);
  }

  pub roomier_following : (new : ProofLog) → new ≡ log → IsFollowing all numbered s log roomier new
  roomier_following new is = following_same all numbered s roomier log new is
      (λ g has. inl (subst (λ ns. Contains (ns ++ map group_variable s.links) g) numbers has)) roomier_store grown
      (λ k flag. flag)

replicate_last : {X : Type 0} (n : ℕ) (x : X) → replicate n x ++ x ∷ [] ≡ replicate (suc n) x
replicate_last zero x = refl
replicate_last (suc n) x = ap (λ xs. x ∷ xs) (replicate_last n x)

-- so many equal elements were put behind a list
abbrev pub IsLonger : {X : Type 0} → X → List X → List X → Type 0
IsLonger x old new = (n : ℕ) × (new ≡ old ++ replicate n x)

pub longer_more : {X : Type 0} (x : X) (old now new : List X) → IsLonger x old now → new ≡ now ++ x ∷ [] →
    IsLonger x old new
longer_more x old now new (n, is) pushed = (
  suc n,
  pushed ∙ ap (λ xs. xs ++ x ∷ []) is ∙ append_assoc old (replicate n x) (x ∷ [])
      ∙ ap (λ xs. old ++ xs) (replicate_last n x),
)

-- a place that is found empty
pub free_at : {X : Type 0} (xs : List (Option X)) (place : ℕ) → place < length xs → (o : Option X) →
    o ≡ get_or xs place o → is_some o ≡ false → slice_get xs place ≡ Some None
free_at xs place below None is none = slice_get-get_or xs place None below ∙ ap Some (sym is)
free_at xs place below (Some x) is none = cc
