-- Steps of a store that follows a session: places of lists that are set, and how steps compose.
use Rattle.std.proofs.Common.{◌≡◌, ◌≢◌, ℕ, zero, suc, ◌<◌, true, ◌⊎◌, inl, inr, List, [], ◌∷◌, length, set, slice_get, Some, None, refl, sym, ◌∙◌, ap, subst, arith, ◌++◌}
use Rattle.std.specs.List.{Contains}
use Rattle.dq_lits.specs.Literal.{Literal}
use Rattle.dq_lits.specs.Formula.{Dqbf}
use Rattle.hint_log.specs.Entries.{Entry, Named, Given, Learned, Answer, ProofLog, with_entry, name_of}
use Rattle.hint_log.specs.ProductiveLog.{fault_groups, fault_room}
use Rattle.hint_log.proofs.NamedEntries.{unnamed_before}
use Rattle.log_laws.specs.Engines.{copies}
use Rattle.log_laws.specs.Sessions.{IsInOneOf, IsAddedLive}
use Rattle.log_laws.proofs.Kept.{each_of_weaker, name_cases}
use Rattle.log_laws.proofs.LargerLogs.{grown_by, grown_by_none, grown_then}
use Rattle.definability.specs.Copies.{is_copied_at}
use Rattle.definability.specs.Following.{AreOldOrNew, IsFollowing, CanGiveCopies, is_copy_entry, IsCopyAdded}
use Rattle.definability.specs.Store.{StoreState, store_groups, IsPartialStore}
use Rattle.definability.specs.Growing.{HasCopied}
use Rattle.list_laws.proofs.Members.{contains_cases}
use Rattle.definability.proofs.PreservedStores.{IsGrown}
use Rattle.hint_log.specs.Growth.{EachOf, Grew}

-- what stands in a list after one place was set
pub set_cases : {X : Type 0} (xs : List X) (i k : ℕ) (y z : X) → slice_get (set xs i y) k ≡ Some z →
    ((k ≡ i) × (y ≡ z)) ⊎ ((k ≢ i) × (slice_get xs k ≡ Some z))
set_cases [] i k y z is = cc
set_cases (x ∷ xs) zero zero y z is = inl (refl, cc)
set_cases (x ∷ xs) zero (suc k) y z is = inr ((λ e. omega (arith, e)), is)
set_cases (x ∷ xs) (suc i) zero y z is = inr ((λ e. omega (arith, e)), is)
set_cases {X} (x ∷ xs) (suc i) (suc k) y z is = search (arith, (set_cases xs i k y z is))

pub set_there : {X : Type 0} (xs : List X) (i k : ℕ) (y z : X) → k ≢ i → slice_get xs k ≡ Some z →
    slice_get (set xs i y) k ≡ Some z
set_there [] i k y z apart is = is
set_there (x ∷ xs) zero zero y z apart is = absurd (apart refl)
set_there (x ∷ xs) zero (suc k) y z apart is = is
set_there (x ∷ xs) (suc i) zero y z apart is = is
set_there (x ∷ xs) (suc i) (suc k) y z apart is = set_there xs i k y z (λ e. apart (ap suc e)) is

pub set_here : {X : Type 0} (xs : List X) (i : ℕ) (y : X) → i < length xs → slice_get (set xs i y) i ≡ Some y
set_here [] i y below = absurd (omega (arith, below))
set_here (z ∷ xs) zero y below = refl
set_here (z ∷ xs) (suc i) y below = set_here xs i y (omega (arith, below))

-- only copies are named, and only their clauses given
pub copied_none : (es : List Entry) → HasCopied es es
copied_none es = record { names = λ v n is. inl is; givens = λ o c inside. inl inside }

pub copied_then : (a b c : List Entry) → HasCopied a b → HasCopied b c → HasCopied a c
copied_then a b c x y = record {
  names = λ v n is. elim (y.names v n is) [ inl before ↦ x.names v n before | inr new ↦ inr new ];
  givens = λ o d inside. elim (y.givens o d inside) [ inl before ↦ x.givens o d before | inr new ↦ inr new ];
}

pub copied_entry : (e : Entry) (es : List Entry) → is_copy_entry e ≡ true → HasCopied es (e ∷ es)
copied_entry (Named w m) es own = search (arith, name_cases, contains_cases)
copied_entry (Given origin d) es own = search (arith, contains_cases)
copied_entry _ es own = cc

pub copied_all : (P : List Entry → Entry → Type 0) → ((earlier : List Entry) (e : Entry) → P earlier e →
    is_copy_entry e ≡ true) → (more old : List Entry) → EachOf P more old → HasCopied old (more ++ old)
copied_all P own [] old each = copied_none old
copied_all P own (e ∷ more) old each = search (arith, copied_then, (copied_all P own more old each.1), copied_entry)

pub live_grew : (all : Dqbf) (groups : List ℕ) (old new : ProofLog) → Grew (IsCopyAdded all groups old.entries) old new →
    Grew (IsAddedLive all copies groups true old.entries) old new
live_grew all groups old new grew = search (arith, each_of_weaker)

-- a step without an entry, and with one
pub following_same : (all : Dqbf) (numbered : List ℕ) (s t : StoreState) (log new : ProofLog) → new ≡ log →
    AreOldOrNew s t log.entries → IsPartialStore all numbered t log.entries → IsGrown s t
    → ((k : ℕ) → is_copied_at s.copied k ≡ true → is_copied_at t.copied k ≡ true)
    → IsFollowing all numbered s log t new
following_same all numbered s t log new is groups store grown copied = search (arith, grown_by_none)

pub following_none : (all : Dqbf) (numbered : List ℕ) (s : StoreState) (log new : ProofLog) → new ≡ log →
    IsPartialStore all numbered s log.entries → IsFollowing all numbered s log s new
following_none all numbered s log new is store = search (arith, following_same)

pub following_entry : (all : Dqbf) (numbered : List ℕ) (s t : StoreState) (log new : ProofLog) (e : Entry) →
    new ≡ with_entry log e → IsAddedLive all copies (store_groups s) true log.entries log.entries e
    → is_copy_entry e ≡ true → fault_groups (e ∷ log.entries) ≡ fault_groups log.entries
    → fault_room (e ∷ log.entries) ≡ fault_room log.entries → AreOldOrNew s t log.entries
    → IsPartialStore all numbered t (e ∷ log.entries) → IsGrown s t
    → ((k : ℕ) → is_copied_at s.copied k ≡ true → is_copied_at t.copied k ≡ true)
    → IsFollowing all numbered s log t new
following_entry all numbered s t log new e is added own faults room groups store grown copied =
    subst (IsFollowing all numbered s log t) (sym is) (record {
      grew = grown_by (IsCopyAdded all (store_groups s) log.entries) log (with_entry log e) e refl (added, own);
      new_groups = groups;
      names = λ v none. unnamed_before e log.entries v none;
      faults = faults;
      room = room;
      store = store;
      given = grown.more_given;
      parts = grown.more_parts;
      copied = copied;
    })

module _ (all : Dqbf) (numbered : List ℕ) (a b c : StoreState) (first middle last : ProofLog)
    (x : IsFollowing all numbered a first b middle) (y : IsFollowing all numbered b middle c last) where
  old_group : (g : ℕ) → Contains (store_groups b) g ⊎ (name_of middle.entries g ≡ None) →
      Contains (store_groups a) g ⊎ (name_of first.entries g ≡ None)
  old_group g (inl has) = x.new_groups g has
  old_group g (inr none) = inr (x.names g none)

  in_one_of : (d : List Literal) → IsInOneOf (store_groups b) middle.entries d →
      IsInOneOf (store_groups a) first.entries d
  in_one_of d (g, inside, which) = (g, inside, old_group g which)

  added : (earlier : List Entry) (e : Entry)
      → IsAddedLive all copies (store_groups b) true middle.entries earlier e
      → IsAddedLive all copies (store_groups a) true first.entries earlier e
  added earlier (Named v n) h = h
  added earlier (Given origin d) h = record {
    own = h.own;
    in_group = in_one_of d h.in_group;
    matches_origin = h.matches_origin;
    not_repeated = h.not_repeated;
  }
  added earlier (Learned d hs) h = tt
  added earlier (Answer d hs) h = h
  added earlier _ h = absurd h

  pub following_then : IsFollowing all numbered a first c last
  following_then = record {
    grew = grown_then (IsCopyAdded all (store_groups a) first.entries) first middle last x.grew (record {
      more = y.grew.more;
      grown = y.grew.grown;
      each = each_of_weaker (IsCopyAdded all (store_groups b) middle.entries)
          (IsCopyAdded all (store_groups a) first.entries) (λ earlier e h. (added earlier e h.0, h.1)) y.grew.more
          middle.entries y.grew.each;
      limit = y.grew.limit;
    });
    new_groups = λ g has. old_group g (y.new_groups g has);
    names = λ v none. x.names v (y.names v none);
    faults = y.faults ∙ x.faults;
    room = y.room ∙ x.room;
    store = y.store;
    given = λ side j has. y.given side j (x.given side j has);
    parts = λ k. let one = x.parts k in let two = y.parts k in omega (arith, one, two);
    copied = λ k has. y.copied k (x.copied k has);
  }

-- what a call asks for holds behind another one
pub standing_on : (all : Dqbf) (numbered : List ℕ) (f : Dqbf) (s t : StoreState) (old new : ProofLog) →
    CanGiveCopies all numbered f s old.entries → IsFollowing all numbered s old t new → CanGiveCopies all numbered f t new.entries
standing_on all numbered f s t old new h x = search arith
