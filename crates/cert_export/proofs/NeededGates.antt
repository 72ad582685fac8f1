-- What an exported circuit and its proof rest on at once: the gates of the leaves, and those of the
-- ids.
use Rattle.std.proofs.Common.{◌≡◌, ℕ, ◌+◌, ◌≤◌, ◌<◌, true, false, true≢false, List, length, get_or, take, subst, arith}
use Rattle.std.specs.List.{All}
use Rattle.std.proofs.lemmas.List.{take_all, take_more}
use Rattle.std.proofs.lemmas.List.Elements.{All-push}
use Rattle.hint_log.specs.Entries.{Entry}
use Rattle.hint_log.specs.Pending.{is_pending}
use Rattle.hint_log.specs.declared.origins.Leaf.{Leaf}
use Rattle.hint_log.specs.declared.origins.Leaf.TheVariants.{Constant, Literal as LeafLiteral}
use Rattle.hint_log.specs.declared.pending.Pending.{Pending}
use Rattle.dq_lits.specs.Literal.{variable_of}
use Rattle.cert_export.specs.Needed.{WantsGates, IsLeafWanted, IsIdWanted, HasRoots}
use Rattle.cert_export.proofs.GatePlaces.{still_wanted}

pub both_added : (entries : List Entry) (old mid new : Pending) → WantsGates entries old mid →
    WantsGates entries mid new → WantsGates entries old new
both_added entries old mid new first second = search arith

-- what is wanted by the first so many elements is there
pub record AddedSoFar {X : Type 0} (entries : List Entry) (P : Pending → X → Type 0) (xs : List X) (old new : Pending)
    (i : ℕ) : Type 0 where
  pub grew : WantsGates entries old new
  pub there : All (P new) (take i xs)

abbrev Stays : {X : Type 0} → (Pending → X → Type 0) → Type 0
Stays {X} P = (a b : Pending) → ((p : ℕ) → is_pending a p ≡ true → is_pending b p ≡ true) → (x : X) → P a x → P b x

pub one_added : {X : Type 0} (entries : List Entry) (P : Pending → X → Type 0) → Stays P →
    (xs : List X) (old mid new : Pending) (i : ℕ) (x : X) → i < length xs → x ≡ get_or xs i x →
    AddedSoFar entries P xs old mid i → WantsGates entries mid new → P new x → AddedSoFar entries P xs old new (i + 1)
one_added entries P stays xs old mid new i x below x_is so_far grew here =
    search (
      arith,
      (both_added entries old mid new so_far.grew grew),
      (take_more xs i x below),
      (All-push (P new) (take i xs) (get_or xs i x)),
    )

pub all_added : {X : Type 0} (entries : List Entry) (P : Pending → X → Type 0) (xs : List X) (old new : Pending)
    (i : ℕ) → length xs ≤ i → AddedSoFar entries P xs old new i → All (P new) xs
all_added entries P xs old new i past so_far = subst (All (P new)) (take_all i xs past) so_far.there

pub leaf_stays : (entries : List Entry) → Stays (IsLeafWanted entries)
leaf_stays entries a b kept (Constant c) h = tt
leaf_stays entries a b kept (LeafLiteral l) h = still_wanted entries (variable_of l) a b kept h

pub id_stays : (entries : List Entry) → Stays (IsIdWanted entries)
id_stays entries a b kept id h v i at = still_wanted entries v a b kept (h v i at)

-- roots that were added one kind after the other
pub roots_added : (entries : List Entry) (ids : List ℕ) (leaves : List Leaf) (none mid new : Pending) →
    ((p : ℕ) → is_pending none p ≡ false) → WantsGates entries none mid → All (IsLeafWanted entries mid) leaves →
    WantsGates entries mid new → All (IsIdWanted entries new) ids → HasRoots entries ids leaves new
roots_added entries ids leaves none mid new empty first there second given = search (arith, both_added, true≢false)
