-- Copies have one group where their clauses are of one frame, and they are of one side.
use Rattle.std.proofs.Common.{◌≡◌, ℕ, zero, suc, inl, inr, List, [], ◌∷◌, ◌++◌, map, Some, refl, sym, ◌∙◌, ap, subst, arith}
use Rattle.std.specs.List.{Contains}
use Rattle.std.proofs.lemmas.List.Elements.{Contains-append_cases, Contains-append_left, Contains-append_right}
use Rattle.std.proofs.lemmas.Option.{slice_get-get_or}
use Rattle.list_laws.proofs.Members.{contains_cases}
use Rattle.dq_lits.specs.Literal.{Literal, negative}
use Rattle.dq_lits.specs.Formula.{Dqbf}
use Rattle.hint_log.specs.Entries.{Entry, Given}
use Rattle.hint_log.specs.Growth.{Each}
use Rattle.hint_log.specs.ProductiveSession.{frame_of}
use Rattle.hint_log.specs.declared.origins.Origin.TheVariants.{Copy}
use Rattle.log_laws.specs.Engines.{IsInGroup}
use Rattle.oracle.specs.declared.groups.Group.{Group}
use Rattle.definability.specs.Copies.{all_groups, group_variable}
use Rattle.definability.specs.Leaving.{CopiesAreGrouped, CopiesAreStored, ActiveGroupsAreStored}
use Rattle.definability.specs.Store.{StoreState, store_of, HasGroup, Slot, of_frame, of_link, both_groups, store_groups, IsStoreEntry}
use Rattle.definability.proofs.PreservedStores.{has_number, link_number}
use Rattle.log_laws.proofs.Kept.{in_one_group}

-- the slot of a copy that was given
pub record IsInSlot (numbered : List ℕ) (s : StoreState) (side j : ℕ) (c : List Literal) : Type 0 where
  pub group : Group
  pub has_group : HasGroup s (of_frame side (frame_of numbered j)) group
  pub in_group : IsInGroup (group_variable group) c

pub copy_slot : (all : Dqbf) (numbered : List ℕ) (s : StoreState) (es : List Entry) (side j : ℕ) (c : List Literal) →
    Each (IsStoreEntry all numbered s) es → Contains es (Given (Copy side j) c) → IsInSlot numbered s side j c
copy_slot all numbered s [] side j c own inside = let below = inside.1 in absurd (omega (arith, below))
copy_slot all numbered s (e ∷ es) side j c own inside =
    search (arith, (copy_slot all numbered s es side j c own.1), contains_cases)

slot_parts : (side F side' F' : ℕ) → of_frame side F ≡ of_frame side' F' → (F ≡ F') × (side ≡ side')
slot_parts side F side' F' same = (cc, cc)

pub one_group : (s : StoreState) (slot : Slot) (g h : Group) → HasGroup s slot g → HasGroup s slot h → g ≡ h
one_group s (of_frame side F) g h (x, x_is, g_is) (y, y_is, h_is) = search arith
one_group s (of_link k) g h has has' = let both : Some g ≡ Some h = sym has.1 ∙ has'.1 in cc

pub grouped : CopiesAreGrouped
grouped all numbered p entries store side j side' j' group group' rest rest' inside inside' =
    let s = store_of p in
    let a = copy_slot all numbered s entries side j (negative group ∷ rest) store.own inside in
    let b = copy_slot all numbered s entries side' j' (negative group' ∷ rest') store.own inside' in
    let a_is : group_variable a.group ≡ group =
    in_one_group (group_variable a.group) group (negative group ∷ rest) a.in_group (rest, refl) in
    let b_is : group_variable b.group ≡ group' =
    in_one_group (group_variable b.group) group' (negative group' ∷ rest') b.in_group (rest', refl) in (
      (λ same. slot_parts side (frame_of numbered j) side' (frame_of numbered j')
          (store.groups.apart (of_frame side (frame_of numbered j)) (of_frame side' (frame_of numbered j')) a.group b.group a.has_group b.has_group (a_is ∙ same ∙ sym b_is))),
      (λ alike.
          let slots : of_frame side' (frame_of numbered j') ≡ of_frame side (frame_of numbered j) =
          ap (λ n. of_frame n (frame_of numbered j')) (sym alike.1) ∙ ap (of_frame side) (sym alike.0) in
          sym a_is
          ∙ ap group_variable (one_group s (of_frame side (frame_of numbered j)) a.group b.group a.has_group
          (subst (λ x. HasGroup s x b.group) slots b.has_group)) ∙ b_is),
    )

pub stored : CopiesAreStored
stored all numbered p entries store side j group rest inside =
    let s = store_of p in
    let a = copy_slot all numbered s entries side j (negative group ∷ rest) store.own inside in
    subst (Contains (store_groups s))
    (in_one_group (group_variable a.group) group (negative group ∷ rest) a.in_group (rest, refl))
    (has_number s (of_frame side (frame_of numbered j)) a.group a.has_group)

number_there : (numbers : List ℕ) (gs : List Group) → ((g : Group) → Contains gs g → Contains numbers (group_variable g))
    → (n : ℕ) → Contains (map group_variable gs) n → Contains numbers n
number_there numbers [] each n (k, below, at) = absurd (omega (arith, below))
number_there numbers (g ∷ gs) each n (zero, below, at) = subst (Contains numbers) at (each g (0, omega arith, refl))
number_there numbers (g ∷ gs) each n (suc k, below, at) = number_there numbers gs
    (λ h among. each h (suc among.0, (let less = among.1 in omega (arith, less)), among.2)) n
    (k, omega (arith, below), at)

pub active_stored : ActiveGroupsAreStored
active_stored all numbered p entries store n among = number_there (store_groups s) (all_groups p) each n among
  where
    s : StoreState
    s = store_of p

    of_links : List ℕ
    of_links = map group_variable p.links.items

    each : (g : Group) → Contains (all_groups p) g → Contains (store_groups s) (group_variable g)
    each g there =
        elim (Contains-append_cases p.first.groups.items (p.second.groups.items ++ p.links.items) g there) [
          | inl first ↦ Contains-append_left (both_groups s.frames) of_links (group_variable g) (store.active g
              (Contains-append_left p.first.groups.items p.second.groups.items g first))
          | inr behind ↦ elim (Contains-append_cases p.second.groups.items p.links.items g behind) [
            | inl second ↦ Contains-append_left (both_groups s.frames) of_links (group_variable g) (store.active g
                (Contains-append_right p.first.groups.items p.second.groups.items g second))
            | inr link ↦ Contains-append_right (both_groups s.frames) of_links (group_variable g)
                (link_number p.links.items link.0 g (slice_get-get_or p.links.items link.0 g link.1 ∙ ap Some link.2))
          ]
        ]
