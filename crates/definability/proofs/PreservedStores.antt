-- A store of copies stands where others add to the log.
use Rattle.std.proofs.Common.{◌≡◌, ◌≢◌, ℕ, zero, suc, Bool, false, ◌⊎◌, inl, inr, List, [], ◌∷◌, ◌++◌, map, slice_get, Option, Some, None, sym, ◌∙◌, ap, subst, arith, length, ◌<◌, ◌≤◌, slice_index_or, refl, true}
use Rattle.std.specs.List.{Contains}
use Rattle.std.proofs.lemmas.List.Elements.{Contains-append_left, Contains-append_right}
use Rattle.list_laws.proofs.Members.{contains_later}
use Rattle.dq_lits.specs.Literal.{Literal}
use Rattle.dq_lits.specs.Formula.{Dqbf, declared}
use Rattle.hint_log.specs.Entries.{Entry, Named, Given, Round, Begun, name_of}
use Rattle.hint_log.specs.Growth.{EachOf, Each}
use Rattle.hint_log.specs.Naming.{NamedLiteral}
use Rattle.hint_log.specs.declared.names.Name.{Name}
use Rattle.hint_log.specs.declared.names.Name.TheVariants.{Copy as CopyOf}
use Rattle.hint_log.specs.declared.origins.Origin.{Origin}
use Rattle.hint_log.specs.declared.origins.Origin.TheVariants.{Instance, Gate, Fault, Copy, Link}
use Rattle.log_laws.specs.Engines.{Engine, copies, same_engine, origin_engine, name_engine, is_engine}
use Rattle.log_laws.specs.Sessions.{IsInOneOf, IsAddedLive}
use Rattle.log_laws.proofs.Kept.{NamesStay, named_stay, name_stays_by, literal_stays, in_unnamed, in_one_group}
use Rattle.oracle.specs.declared.groups.Group.{Group}
use Rattle.definability.specs.Copies.{IsGivenIn, group_variable, is_copied_at}
use Rattle.definability.specs.Leaving.{EnginesLeaveStores, RoundsLeaveStores, BeginningsLeaveStores}
use Rattle.definability.specs.Store.{StoreState, store_of, HasGroup, side_group, Slot, of_frame, of_link, both_groups, store_groups, IsStoredName, IsInNoGroup, IsStoreEntry, HasParts, AreStoreGroups, IsGivenThere, IsStore, IsStoreTo, IsPartialStore, parts_at, HasGiven, IsStoredCopy, IsStoredLink}
use Rattle.definability.specs.declared.frames.Sides.{Sides}
use Rattle.definability.specs.Following.{AreComplete}
use Rattle.definability.proofs.KeptPlaces.{flag_past}
use Rattle.std.proofs.lemmas.Bool.{cases_lt}
use Rattle.std.proofs.lemmas.List.{length-append}
use Rattle.dq_formula.specs.Prefix.{existential_variables}
use Rattle.hint_log.specs.Conditions.{AreNamed, MayFollow}
use Rattle.hint_log.specs.ProductiveSession.{frame_of}
use Rattle.hint_log.proofs.NamedEntries.{unnamed_before}
use Rattle.oracle.proofs.MadeGroups.{made_stays}

-- names stay, and clauses
pub record AreKept (old new : List Entry) : Type 0 where
  pub names : NamesStay old new
  pub contains : (e : Entry) → Contains old e → Contains new e

pub kept_by : (e : Entry) (es : List Entry) → NamesStay es (e ∷ es) → AreKept es (e ∷ es)
kept_by e es names = record { names = names; contains = λ x. contains_later e x es }

pub given_in_stays : (old new : List Entry) → AreKept old new → (group : ℕ) (origin : Origin) (names : List NamedLiteral)
    → IsGivenIn old group origin names → IsGivenIn new group origin names
given_in_stays old new kept group origin names given = search (arith, named_stay)

module _ (all : Dqbf) (numbered : List ℕ) (s : StoreState) (old new : List Entry) (kept : AreKept old new) where
  pub parts_stay : HasParts all s old → HasParts all s new
  parts_stay h = record {
    copies = λ side k x l low x_is l_is. literal_stays old new kept.names l _ (h.copies side k x l low x_is l_is);
    equations = λ k x i g low one two x_is g_is.
        given_in_stays old new kept (group_variable g) _ _ (h.equations k x i g low one two x_is g_is);
  }

  pub groups_stay : AreStoreGroups s old → AreStoreGroups s new
  groups_stay h = record {
    made = λ slot g has. made_stays old new g kept.names (h.made slot g has);
    links = λ k g is. made_stays old new g kept.names (h.links k g is);
    apart = h.apart;
  }

  pub given_stays : (side j : ℕ) → IsGivenThere all numbered s old side j → IsGivenThere all numbered s new side j
  given_stays side j h = search (arith, given_in_stays)

-- an entry that is none of the store's business
pub store_stands : (count : ℕ) (all : Dqbf) (numbered : List ℕ) (s : StoreState) (e : Entry) (es : List Entry)
    → NamesStay es (e ∷ es) → IsStoreEntry all numbered s es e → IsStoreTo count all numbered s es
    → IsStoreTo count all numbered s (e ∷ es)
store_stands count all numbered s e es names own store =
    let kept = kept_by e es names in
    record {
      places = store.places;
      whole = store.whole;
      parts = parts_stay all numbered s es (e ∷ es) kept store.parts;
      groups = groups_stay all numbered s es (e ∷ es) kept store.groups;
      givens = λ side j one has. given_stays all numbered s es (e ∷ es) kept side j (store.givens side j one has);
      own = (own, store.own);
      active = store.active;
    }

-- a group's number stands among those of all groups
frame_first : (frames : List (Option Sides)) (F : ℕ) (sides : Sides) → slice_get frames F ≡ Some (Some sides) →
    Contains (both_groups frames) (group_variable sides.first)
frame_first [] F sides is = cc
frame_first (None ∷ frames) zero sides is = cc
frame_first (Some x ∷ frames) zero sides is = search arith
frame_first (None ∷ frames) (suc F) sides is = frame_first frames F sides is
frame_first (Some x ∷ frames) (suc F) sides is =
    let r = frame_first frames F sides is in let below = r.1 in (suc (suc r.0), omega (arith, below), r.2)

frame_second : (frames : List (Option Sides)) (F : ℕ) (sides : Sides) → slice_get frames F ≡ Some (Some sides) →
    Contains (both_groups frames) (group_variable sides.second)
frame_second [] F sides is = cc
frame_second (None ∷ frames) zero sides is = cc
frame_second (Some x ∷ frames) zero sides is =
    let same : x ≡ sides = cc in (1, omega arith, ap (λ (y : Sides). group_variable y.second) same)
frame_second (None ∷ frames) (suc F) sides is = frame_second frames F sides is
frame_second (Some x ∷ frames) (suc F) sides is =
    let r = frame_second frames F sides is in let below = r.1 in (suc (suc r.0), omega (arith, below), r.2)

pub link_number : (links : List Group) (k : ℕ) (g : Group) → slice_get links k ≡ Some g →
    Contains (map group_variable links) (group_variable g)
link_number [] k g is = cc
link_number (x ∷ links) zero g is = let same : x ≡ g = cc in (0, omega arith, ap group_variable same)
link_number (x ∷ links) (suc k) g is =
    let r = link_number links k g is in let below = r.1 in (suc r.0, omega (arith, below), r.2)

pub side_number : (s : StoreState) (side F : ℕ) (sides : Sides) (g : Group) → slice_get s.frames F ≡ Some (Some sides)
    → side_group side sides ≡ Some g → Contains (both_groups s.frames) (group_variable g)
side_number s zero F sides g is there = cc
side_number s (suc zero) F sides g is there = search (arith, frame_first)
side_number s (suc (suc zero)) F sides g is there = search (arith, frame_second)
side_number s (suc (suc (suc side))) F sides g is there = cc

pub has_number : (s : StoreState) (slot : Slot) (g : Group) → HasGroup s slot g → Contains (store_groups s) (group_variable g)
has_number s (of_frame side F) g has = Contains-append_left (both_groups s.frames) (map group_variable s.links) _
    (side_number s side F has.0 g has.1 has.2)
has_number s (of_link k) g has = Contains-append_right (both_groups s.frames) (map group_variable s.links) _
    (link_number s.links k g has.1)

-- other engines
pub other_name : (all : Dqbf) (s : StoreState) (n : Name) → (is_engine copies (name_engine n) ≡ true → ⊥) →
    IsStoredName all s n
other_name all s (CopyOf side x) off = absurd (off refl)
other_name all s _ off = tt

pub other_given : (all : Dqbf) (numbered : List ℕ) (s : StoreState) (earlier : List Entry) (origin : Origin)
    (c : List Literal) → (same_engine copies (origin_engine origin) ≡ true → ⊥) → IsInNoGroup s c →
    IsStoreEntry all numbered s earlier (Given origin c)
other_given all numbered s earlier (Instance k j) c off h = h
other_given all numbered s earlier (Gate v i) c off h = h
other_given all numbered s earlier (Fault j i leaf) c off h = h
other_given all numbered s earlier _ c off h = absurd (off refl)

not_copies : (engine other : Engine) → same_engine engine copies ≡ false → other ≡ engine →
    same_engine copies other ≡ true → ⊥
not_copies copies other apart is own = cc
not_copies x other apart is own = let e : same_engine copies x ≡ true = ap (same_engine copies) (sym is) ∙ own in cc

name_off : (engine : Engine) (o : Option Engine) → same_engine engine copies ≡ false →
    (o ≡ None) ⊎ (o ≡ Some engine) → is_engine copies o ≡ true → ⊥
name_off engine None apart which own = cc
name_off engine (Some other) apart (inl none) own = cc
name_off engine (Some other) apart (inr is) own = search (arith, not_copies)

module _ (all : Dqbf) (numbered : List ℕ) (s : StoreState) (any : Dqbf) (engine : Engine) (groups : List ℕ)
    (silent : Bool) (old : List Entry) (other : same_engine engine copies ≡ false)
    (apart : (g h : ℕ) → Contains (store_groups s) g → Contains groups h → g ≢ h)
    (store : IsStore all numbered s old) where
  off : (c : List Literal) → IsInOneOf groups old c → IsInNoGroup s c
  off c (g, inside, inl given) slot mine has mine_too =
      apart (group_variable mine) g (has_number s slot mine has) given
      (in_one_group (group_variable mine) g c mine_too inside)
  off c (g, inside, inr none) slot mine has mine_too =
      let same = in_one_group (group_variable mine) g c mine_too inside in
      let gone : name_of old (group_variable mine) ≡ None = ap (name_of old) same ∙ none in
      let named = (store.groups.made slot mine has).named in
      cc

  foreign : (earlier : List Entry) (e : Entry) → IsAddedLive any engine groups silent old earlier e →
      NamesStay earlier (e ∷ earlier) × IsStoreEntry all numbered s earlier e
  foreign earlier (Named v n) h = (name_stays_by earlier v n h.unnamed, other_name all s n (name_off engine (name_engine n) other h.own))
  foreign earlier (Given origin c) h = (
    (λ v n is. is),
    other_given all numbered s earlier origin c (not_copies engine (origin_engine origin) other h.own) (off c h.in_group),
  )
  foreign earlier (Round r bits j) h = absurd h
  foreign earlier (Begun live) h = absurd h
  foreign earlier _ h = ((λ v n is. is), tt)

  all_foreign : (more : List Entry) → EachOf (IsAddedLive any engine groups silent old) more old →
      IsStore all numbered s (more ++ old)
  all_foreign [] each = store
  all_foreign (e ∷ more) each =
      let h = foreign (more ++ old) e each.0 in
      store_stands (length (declared all)) all numbered s e (more ++ old) h.0 h.1 (all_foreign more each.1)

pub engines_left : EnginesLeaveStores
engines_left all any numbered p engine groups silent old new grew other apart store =
    subst (IsStore all numbered (store_of p)) (sym grew.grown)
    (all_foreign all numbered (store_of p) any engine groups silent old.entries other apart store grew.more grew.each)

pub rounds_left : RoundsLeaveStores
rounds_left all numbered p entries row values j store = search (arith, store_stands)

pub beginnings_left : BeginningsLeaveStores
beginnings_left all numbered p entries live store = search (arith, store_stands)

-- which variables with copies have all parts, told for more variables or for fewer
pub store_to : (m n : ℕ) (all : Dqbf) (numbered : List ℕ) (s : StoreState) (es : List Entry) →
    IsStoreTo m all numbered s es → ((k : ℕ) → k < n → is_copied_at s.copied k ≡ true → 5 ≤ parts_at s k) →
    IsStoreTo n all numbered s es
store_to m n all numbered s es store whole = search arith

pub partial : (all : Dqbf) (numbered : List ℕ) (s : StoreState) (es : List Entry) → IsStore all numbered s es →
    IsPartialStore all numbered s es
partial all numbered s es store = store_to (length (declared all)) (length all.universals) all numbered s es store
    (λ k below. store.whole k (let parts = length-append all.universals (existential_variables all) in
    omega (arith, below, parts)))

-- where all existentials have copies
pub completed : (all : Dqbf) (numbered : List ℕ) (s : StoreState) (es : List Entry) →
    IsPartialStore all numbered s es → AreComplete all s → IsStore all numbered s es
completed all numbered s es store complete =
    store_to (length all.universals) (length (declared all)) all numbered s es store
    (λ k below flag. elim (cases_lt k (length all.universals)) [
      | inl universal ↦ store.whole k universal flag
      | inr past ↦ complete k past
    ])

pub index_past : (xs : List ℕ) (i d : ℕ) → length xs ≤ i → slice_index_or xs i d ≡ d
index_past [] i d past = refl
index_past (x ∷ xs) zero d past = absurd (omega (arith, past))
index_past (x ∷ xs) (suc i) d past = index_past xs i d (omega (arith, past))

pub complete_store : (all : Dqbf) (numbered : List ℕ) (s : StoreState) (es : List Entry) →
    IsStore all numbered s es → AreComplete all s
complete_store all numbered s es store k past = search (arith, cases_lt, flag_past, index_past)

-- clauses, groups and parts stay, and there may be further ones
pub record IsGrown (s t : StoreState) : Type 0 where
  pub kept_groups : (slot : Slot) (g : Group) → HasGroup s slot g → HasGroup t slot g
  pub more_given : (side j : ℕ) → HasGiven s side j → HasGiven t side j
  pub more_parts : (k : ℕ) → parts_at s k ≤ parts_at t k
  pub kept_links : (k : ℕ) (g : Group) → 3 ≤ parts_at s k → slice_get s.links k ≡ Some g → slice_get t.links k ≡ Some g

-- a group that is there now was there, or has no name yet
abbrev pub AreNewGroups : StoreState → StoreState → List Entry → Type 0
AreNewGroups s t es =
    (slot : Slot) (g : Group) → HasGroup t slot g → HasGroup s slot g ⊎ (name_of es (group_variable g) ≡ None)

module _ (all : Dqbf) (numbered : List ℕ) (s t : StoreState) (grown : IsGrown s t) where
  name_kept : (n : Name) → IsStoredName all s n → IsStoredName all t n
  name_kept (CopyOf side x) h = search arith
  name_kept _ h = tt

  copy_kept : (earlier : List Entry) (side j : ℕ) (c : List Literal) → IsStoredCopy all numbered s earlier side j c →
      IsStoredCopy all numbered t earlier side j c
  copy_kept earlier side j c h = record {
    right = h.right;
    given = grown.more_given side j h.given;
    group = h.group;
    has_group = grown.kept_groups (of_frame side (frame_of numbered j)) h.group h.has_group;
    in_group = h.in_group;
  }

  link_kept : (earlier : List Entry) (x i : ℕ) (c : List Literal) → IsStoredLink all s earlier x i c →
      IsStoredLink all t earlier x i c
  link_kept earlier x i c h = search arith

  no_group : (earlier : List Entry) (c : List Literal) → AreNewGroups s t earlier → AreNamed earlier c →
      IsInNoGroup s c → IsInNoGroup t c
  no_group earlier c new named none slot g has inside = by (new slot g has)
    where
      by : HasGroup s slot g ⊎ (name_of earlier (group_variable g) ≡ None) → ⊥
      by (inl old) = none slot g old inside
      by (inr unnamed) = in_unnamed earlier (group_variable g) c named unnamed inside

  entry_kept : (earlier : List Entry) (e : Entry) → AreNewGroups s t earlier → MayFollow earlier e →
      IsStoreEntry all numbered s earlier e → IsStoreEntry all numbered t earlier e
  entry_kept earlier (Named v n) new may h = name_kept n h
  entry_kept earlier (Given (Copy side j) c) new may h = copy_kept earlier side j c h
  entry_kept earlier (Given (Link x i) c) new may h = link_kept earlier x i c h
  entry_kept earlier (Given _ c) new may h = no_group earlier c new may h
  entry_kept earlier _ new may h = tt

  new_before : (e : Entry) (es : List Entry) → AreNewGroups s t (e ∷ es) → AreNewGroups s t es
  new_before e es new slot g has = search (arith, unnamed_before)

  pub entries_kept : (es : List Entry) → AreNewGroups s t es → Each MayFollow es → Each (IsStoreEntry all numbered s) es →
      Each (IsStoreEntry all numbered t) es
  entries_kept [] new logged h = tt
  entries_kept (e ∷ es) new logged h = search (arith, entry_kept, new_before, (entries_kept es))
