-- The groups of a store were made, and stand apart from others that were made since.
use Rattle.std.proofs.Common.{◌≡◌, ◌⊎◌, ℕ, zero, suc, inl, inr, List, [], ◌∷◌, ◌++◌, map, slice_get, Option, None, Some, refl, subst, arith}
use Rattle.std.specs.List.{Contains}
use Rattle.hint_log.specs.Entries.{Entry, name_of}
use Rattle.dq_lits.specs.Formula.{Dqbf}
use Rattle.dq_lits.specs.Literal.{variable_of}
use Rattle.oracle.specs.Calls.{IsMade}
use Rattle.oracle.specs.declared.groups.Group.{Group}
use Rattle.circuit_cnf.specs.declared.checkers.Checker.{Checker}
use Rattle.circuit_cnf.specs.Checking.{IsChecker, gate_groups}
use Rattle.dq_session.specs.Databases.{DatabaseState}
use Rattle.dq_session.specs.Changes.{groups_of}
use Rattle.definability.specs.Copies.{group_variable}
use Rattle.definability.specs.Store.{StoreState, of_frame, both_groups, store_groups, store_of, copy_groups, IsStore, IsCopyStore}
use Rattle.definability.specs.declared.frames.Sides.{Sides}
use Rattle.definability.specs.declared.definability.Definability.{Definability}
use Rattle.repair_loop.specs.SearchStates.{AreApart}

abbrev HasName : List Entry → ℕ → Type 0
HasName es n = name_of es n ≡ None → ⊥

made_named : (es : List Entry) (g : Group) → IsMade es g → HasName es (group_variable g)
made_named es g made none = let is = made.named in cc

both_made : (es : List Entry) (frames : List (Option Sides)) →
    ((k : ℕ) (sides : Sides) → slice_get frames k ≡ Some (Some sides) → IsMade es sides.first × IsMade es sides.second) →
    (n : ℕ) → Contains (both_groups frames) n → HasName es n
both_made es [] made n (k, below, is) = absurd (omega (arith, below))
both_made es (None ∷ frames) made n has = both_made es frames (λ k sides is. made (suc k) sides is) n has
both_made es (Some sides ∷ frames) made n (zero, below, is) =
    subst (HasName es) is (made_named es sides.first (made 0 sides refl).0)
both_made es (Some sides ∷ frames) made n (suc zero, below, is) =
    subst (HasName es) is (made_named es sides.second (made 0 sides refl).1)
both_made es (Some sides ∷ frames) made n (suc (suc k), below, is) =
    both_made es frames (λ k sides is. made (suc k) sides is) n (k, omega (arith, below), is)

links_made : (es : List Entry) (links : List Group) →
    ((k : ℕ) (g : Group) → slice_get links k ≡ Some g → IsMade es g) → (n : ℕ) →
    Contains (map group_variable links) n → HasName es n
links_made es [] made n (k, below, is) = absurd (omega (arith, below))
links_made es (g ∷ links) made n (zero, below, is) = subst (HasName es) is (made_named es g (made 0 g refl))
links_made es (g ∷ links) made n (suc k, below, is) =
    links_made es links (λ k h is. made (suc k) h is) n (k, omega (arith, below), is)

in_either : (xs ys : List ℕ) (n : ℕ) → Contains (xs ++ ys) n → Contains xs n ⊎ Contains ys n
in_either [] ys n has = inr has
in_either (x ∷ xs) ys n (zero, below, is) = inl (0, omega arith, is)
in_either (x ∷ xs) ys n (suc k, below, is) = by (in_either xs ys n (k, omega (arith, below), is))
  where
    by : Contains xs n ⊎ Contains ys n → Contains (x ∷ xs) n ⊎ Contains ys n
    by (inl (j, less, here)) = inl (suc j, omega (arith, less), here)
    by (inr there) = inr there

pub stored_named : (all : Dqbf) (numbered : List ℕ) (s : StoreState) (es : List Entry) → IsStore all numbered s es →
    (n : ℕ) → Contains (store_groups s) n → name_of es n ≡ None → ⊥
stored_named all numbered s es store n has = by (in_either (both_groups s.frames) (map group_variable s.links) n has)
  where
    sides_made : (k : ℕ) (sides : Sides) → slice_get s.frames k ≡ Some (Some sides) →
        IsMade es sides.first × IsMade es sides.second
    sides_made k sides is = (
      store.groups.made (of_frame 1 k) sides.first (sides, is, refl),
      store.groups.made (of_frame 2 k) sides.second (sides, is, refl),
    )

    by : Contains (both_groups s.frames) n ⊎ Contains (map group_variable s.links) n → HasName es n
    by (inl there) = both_made es s.frames sides_made n there
    by (inr there) = links_made es s.links store.groups.links n there

-- groups that were made since are none of those
pub apart_still : (f all : Dqbf) (numbered : List ℕ) (b after : DatabaseState) (c : Checker) (p : Definability) (es : List Entry)
    → IsChecker f c es → IsCopyStore all numbered p es
    → ((n : ℕ) → Contains (groups_of after) n → Contains (groups_of b) n ⊎ (name_of es n ≡ None))
    → AreApart b c p → AreApart after c p
apart_still f all numbered b after c p es checked stored fresh apart = record {
  gates = λ g mine inside. gates g mine (fresh (variable_of g.selector) inside);
  copies = λ g mine inside. copies g mine (fresh g inside);
  copies_gates = apart.copies_gates;
}
  where
    gates : (g : Group) → Contains (gate_groups c) g →
        Contains (groups_of b) (variable_of g.selector) ⊎ (name_of es (variable_of g.selector) ≡ None) → ⊥
    gates g mine (inl before) = apart.gates g mine before
    gates g mine (inr none) = let is = (checked.gates.made g mine).named in cc

    copies : (g : ℕ) → Contains (copy_groups p) g → Contains (groups_of b) g ⊎ (name_of es g ≡ None) → ⊥
    copies g mine (inl before) = apart.copies g mine before
    copies g mine (inr none) = stored_named all numbered (store_of p) es stored g mine none
