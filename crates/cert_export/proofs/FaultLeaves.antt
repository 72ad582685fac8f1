-- Leaves of the variables in faults.
use Rattle.std.proofs.Common.{◌≡◌, ℕ, ◌+◌, ◌≤◌, ◌<◌, ◌⊎◌, inl, inr, true, false, List, take, length, get_or, Option, None, Some, IsSome, is_some, refl, sym, ◌∙◌, subst, arith}
use Rattle.std.specs.List.{Contains}
use Rattle.std.specs.Prelude.{slice_index_or}
use Rattle.std.specs.Option.{option_map}
use Rattle.std.proofs.lemmas.List.{take_all, take_more}
use Rattle.list_laws.proofs.Members.{last_or_inside}
use Rattle.dq_lits.specs.Formula.{Dqbf}
use Rattle.hint_log.specs.Entries.{Entry, origin_at}
use Rattle.hint_log.specs.declared.origins.Leaf.{Leaf}
use Rattle.hint_log.specs.declared.origins.Leaf.TheVariants.{Constant}
use Rattle.hint_log.specs.declared.origins.Origin.TheVariants.{Fault}
use Rattle.number_tables.specs.Numbers.{has_number, place_of}
use Rattle.number_tables.proofs.NumberPlaces.{placed}
use Rattle.cert_export.specs.FaultLeaves.{LeafTable, leaf_of, IsLeafAt, AreLeavesAmong, HasLeavesAmong, BeginsGroup, IsFaultOfGroup, AreOfGroup}

pub has_leaf : (t : LeafTable) (v : ℕ) → has_number t.variables v ≡ true → IsSome (leaf_of t v)
has_leaf t v there = by_option (place_of t.variables v) (placed t.variables v ∙ there) where
  by_option : (o : Option ℕ) → is_some o ≡ true → IsSome (option_map
      (λ place. slice_index_or t.leaves place (Constant false)) o)
  by_option None h = cc
  by_option (Some p) h = refl

-- leaves of the first so many ids
pub record LeavesSoFar (f : Dqbf) (entries : List Entry) (ids : List ℕ) (t : LeafTable) (i : ℕ) : Type 0 where
  pub sound : AreLeavesAmong f entries ids t
  pub whole : HasLeavesAmong f entries (take i ids) t

kept_some : (s t : LeafTable) → ((v : ℕ) (out : Leaf) → leaf_of s v ≡ Some out → leaf_of t v ≡ Some out) → (v : ℕ) →
    IsSome (leaf_of s v) → IsSome (leaf_of t v)
kept_some s t kept v there = search arith

pub one_leaf_more : (f : Dqbf) (entries : List Entry) (ids : List ℕ) (s t : LeafTable) (i id : ℕ) → i < length ids →
    id ≡ get_or ids i id → LeavesSoFar f entries ids s i
    → ((v : ℕ) (out : Leaf) → leaf_of s v ≡ Some out → leaf_of t v ≡ Some out)
    → ((v : ℕ) (out : Leaf) → IsLeafAt f entries id v out → IsSome (leaf_of t v))
    → ((v : ℕ) (out : Leaf) → leaf_of t v ≡ Some out → (leaf_of s v ≡ Some out) ⊎ IsLeafAt f entries id v out) →
    LeavesSoFar f entries ids t (i + 1)
one_leaf_more f entries ids s t i id below id_is so_far kept there only = record {
  sound = search arith;
  whole = λ v out h. elim (last_or_inside (take i ids) (get_or ids i id) h.id
      (subst (λ xs. Contains xs h.id) (take_more ids i id below) h.among)) [
        | inl before ↦ kept_some s t kept v (so_far.whole v out (record { id = h.id; among = before; at = h.at }))
        | inr same ↦ there v out (subst (λ n. IsLeafAt f entries n v out) (sym (id_is ∙ same)) h.at)
      ];
}

pub all_leaves : (f : Dqbf) (entries : List Entry) (ids : List ℕ) (t : LeafTable) (i : ℕ) → length ids ≤ i →
    LeavesSoFar f entries ids t i → HasLeavesAmong f entries ids t
all_leaves f entries ids t i past so_far v out h =
    so_far.whole v out (record {
      id = h.id;
      among = subst (λ xs. Contains xs h.id) (sym (take_all i ids past)) h.among;
      at = h.at;
    })

-- a clause begins with one literal
same_group : (entries : List Entry) (id g h : ℕ) → BeginsGroup entries id g → BeginsGroup entries id h → g ≡ h
same_group entries id g h one other = search arith

-- the group of one fault is that of all
pub found_group : (entries : List Entry) (ids : List ℕ) (id g : ℕ) → (group : ℕ) × AreOfGroup entries ids group →
    Contains ids id → IsFaultOfGroup entries id g → AreOfGroup entries ids g
found_group entries ids id g one inside own = search (arith, same_group)

pub no_group : (entries : List Entry) (ids : List ℕ) (i g : ℕ) → length ids ≤ i →
    ((h j k : ℕ) (out : Leaf) → Contains (take i ids) h → origin_at entries h ≡ Some (Fault j k out) → ⊥) →
    AreOfGroup entries ids g
no_group entries ids i g past none id j k out inside at = absurd
    (none id j k out (subst (λ xs. Contains xs id) (sym (take_all i ids past)) inside) at)
