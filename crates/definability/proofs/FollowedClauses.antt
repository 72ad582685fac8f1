-- What is known while the clauses of a formula are followed.
use Rattle.std.proofs.Common.{◌≡◌, ℕ, zero, suc, ◌+◌, ◌-◌, ◌≤◌, Bool, true, ◌⊎◌, inl, inr, List, ◌∷◌, ◌++◌, length, replicate, set, slice_get, slice_index_or, Some, None, refl, sym, ◌∙◌, ap, subst, arith, ◌<◌, false, [], map, get_or, Option}
use Rattle.std.specs.List.{All, filter_map, cons_option}
use Rattle.std.proofs.lemmas.List.{length-map}
use Rattle.list_laws.proofs.Elements.{kept_there}
use Rattle.list_laws.proofs.Quantified.{one_place}
use Rattle.dq_lits.specs.Literal.{Literal, variable_of, opposite}
use Rattle.dq_lits.specs.Formula.{Dqbf, Existential, HasLawfulPrefix, declared}
use Rattle.dq_lits.proofs.SignedLiterals.{negated-positive}
use Rattle.dq_formula.specs.Prefix.{existential_variables}
use Rattle.hint_log.specs.Conditions.{AreLogged}
use Rattle.hint_log.specs.Entries.{Entry, Given, ProofLog, with_entry}
use Rattle.hint_log.specs.Naming.{AreNamedAs, named_literal, name_literal, numbered_from_one}
use Rattle.hint_log.specs.ProductiveSession.{frame_of}
use Rattle.hint_log.specs.declared.origins.Origin.TheVariants.{Copy}
use Rattle.oracle.specs.Calls.{IsMade}
use Rattle.oracle.specs.declared.groups.Group.{Group}
use Rattle.definability.specs.Copies.{AreCopies, AreCopiesOf, IsCopied, copy_names, is_copied_at, copies_of}
use Rattle.definability.specs.Following.{IsFollowing, IsLiveClause, CanGiveCopies, HasMore, CanFollow, IsReceiving, CanReceive, Receives, AreComplete, AreGiven, IsLiveFormula}
use Rattle.definability.specs.Preservation.{IsMarkedMore}
use Rattle.definability.specs.Store.{StoreState, store_of, side_group, HasGroup, of_frame, IsPartialStore, side_copies, parts_at, IsStore, HasGiven}
use Rattle.definability.specs.declared.copies.MatrixCopy.{MatrixCopy}
use Rattle.definability.specs.declared.following.LiveClause.{LiveClause}
use Rattle.definability.specs.declared.frames.Sides.{Sides}
use Rattle.definability.specs.declared.definability.Definability.{Definability}
use Rattle.definability.proofs.DeclaredPlaces.{at_second, declared_long}
use Rattle.definability.proofs.GivenSteps.{given_following}
use Rattle.definability.proofs.RoomSteps.{roomier_following}
use Rattle.definability.proofs.StoreSteps.{following_then, standing_on}
use Rattle.definability.proofs.CopiedVariables.{by_places}
use Rattle.definability.proofs.PartAnswers.{same_declared}
use Rattle.std.proofs.lemmas.Option.{slice_get_within, slice_get-get_or}
use Rattle.definability.specs.Making.{AreCopiedFrom}
use Rattle.std.proofs.lemmas.Bool.{cases_lt}
use Rattle.definability.proofs.KeptPlaces.{flag_past}
use Rattle.definability.proofs.PreservedStores.{index_past, complete_store, partial}
use Rattle.hint_log.specs.declared.names.Name.TheVariants.{Copy as CopyOf}
use Rattle.std.proofs.lemmas.List.Elements.{All-contains}
use Rattle.list_laws.proofs.Members.{element_at}
use Rattle.definability.specs.Growing.{HasFewFaults}

pub following_on : (all : Dqbf) (numbered : List ℕ) (f : Dqbf) (a b c : StoreState) (first middle last : ProofLog) →
    CanGiveCopies all numbered f a first.entries → IsFollowing all numbered a first b middle →
    (CanGiveCopies all numbered f b middle.entries → IsFollowing all numbered b middle c last) →
    IsFollowing all numbered a first c last
following_on all numbered f a b c first middle last h x step = search (arith, following_then, standing_on)

-- a call that makes copies, behind another one
pub more_none : (f : Dqbf) (p : Definability) (old new : ProofLog) → new ≡ old → HasMore f p old p new
more_none f p old new is = search arith

pub more_then : (f : Dqbf) (p q r : Definability) (first middle last : ProofLog) → HasMore f p first q middle →
    HasMore f q middle r last → HasMore f p first r last
more_then f p q r first middle last x y = record {
  follows = λ all numbered h. following_on all numbered f (store_of p) (store_of q) (store_of r) first middle last h
      (x.follows all numbered h) (y.follows all numbered);
  given = y.given ∙ x.given;
  frames = y.frames ∙ x.frames;
  first_groups = y.first_groups ∙ x.first_groups;
  second_groups = y.second_groups ∙ x.second_groups;
}

pub can_still : (f : Dqbf) (p q : Definability) (old new : ProofLog) → CanFollow f p old.entries → HasMore f p old q new →
    CanFollow f q new.entries
can_still f p q old new (all, numbered, h) x =
    (all, numbered, standing_on all numbered f (store_of p) (store_of q) old new h (x.follows all numbered h))

-- the same for a call that gives a clause
pub receiving_on : (all : Dqbf) (numbered : List ℕ) (f : Dqbf) (s t : StoreState) (clause : LiveClause)
    (old new : ProofLog) → IsReceiving all numbered f s clause old.entries → IsFollowing all numbered s old t new →
    IsReceiving all numbered f t clause new.entries
receiving_on all numbered f s t clause old new h x = search (arith, standing_on)

pub received_then : (f : Dqbf) (p q r : Definability) (clause : LiveClause) (first middle last : ProofLog) →
    Receives f p first clause q middle → Receives f q middle clause r last → Receives f p first clause r last
received_then f p q r clause first middle last x y all numbered h =
    let step = x all numbered h in
    following_then all numbered (store_of p) (store_of q) (store_of r) first middle last step
    (y all numbered (receiving_on all numbered f (store_of p) (store_of q) clause first middle h step))

pub can_receive : (f : Dqbf) (p q : Definability) (clause : LiveClause) (old new : ProofLog) →
    CanReceive f p clause old.entries → Receives f p old clause q new → CanReceive f q clause new.entries
can_receive f p q clause old new (all, numbered, h) x = (
  all,
  numbered,
  receiving_on all numbered f (store_of p) (store_of q) clause old new h (x all numbered h),
)

-- by a call that makes copies
pub more_receives : (f : Dqbf) (p q : Definability) (clause : LiveClause) (old new : ProofLog) → HasMore f p old q new →
    Receives f p old clause q new
more_receives f p q clause old new x all numbered h = x.follows all numbered h.standing

pub marked_more : (f : Dqbf) (p q : Definability) (old new : ProofLog) → CanFollow f p old.entries → HasMore f p old q new →
    IsMarkedMore p.copied.items q.copied.items
marked_more f p q old new (all, numbered, h) x =
    let step = x.follows all numbered h in
    record { as_many = step.store.places.flags ∙ sym h.store.places.flags; stays = step.copied }

-- a store in which all existentials have copies follows as one
pub followed_store : (all : Dqbf) (numbered : List ℕ) (s t : StoreState) (old new : ProofLog) →
    IsStore all numbered s old.entries → IsFollowing all numbered s old t new → IsStore all numbered t new.entries
followed_store all numbered s t old new store x = search (arith, complete_store)

-- copies of variables that are made one after another
abbrev pub AreCopiedTo : ℕ → ℕ → Definability → Type 0
AreCopiedTo from to p =
    (k : ℕ) → from ≤ k → k < to → (5 ≤ parts_at (store_of p) k) × (is_copied_at p.copied.items k ≡ true)

pub copied_next : (f : Dqbf) (from to : ℕ) (p q : Definability) (old new : ProofLog) → CanFollow f p old.entries →
    HasMore f p old q new → AreCopiedTo from to p → 5 ≤ parts_at (store_of q) to →
    is_copied_at q.copied.items to ≡ true → AreCopiedTo from (to + 1) q
copied_next f from to p q old new (all, numbered, h) x before parts flag k low less = elim (cases_lt k to) [
  | inl early ↦ (
      let step = x.follows all numbered h in
      let there = before k low early in
      let many = there.0 in
      let more = step.parts k in
      (omega (arith, many, more), step.copied k there.1))
  | inr late ↦ search arith
]

pub copied_from : (f : Dqbf) (from to : ℕ) (p : Definability) (es : List Entry) → CanFollow f p es →
    length (declared f) ≤ to → AreCopiedTo from to p → AreCopiedFrom from p
copied_from f from to p es (all, numbered, h) past copied =
    search (arith, cases_lt, index_past, flag_past, same_declared, declared_long)

-- a universal that has copies where it was found
pub universal_copied : (f : Dqbf) → HasLawfulPrefix f → (flags : List Bool) (v place : ℕ) →
    slice_get f.universals place ≡ Some v → is_copied_at flags place ≡ true → IsCopied f flags v
universal_copied f lawful flags v place v_is flag k k_is =
    let same = one_place (declared f) k place v lawful.declared_once k_is
    (kept_there f.universals (existential_variables f) place v v_is) in
    ap (is_copied_at flags) same ∙ flag

pub flags_long : (all : Dqbf) (numbered : List ℕ) (f : Dqbf) (s : StoreState) (es : List Entry) →
    CanGiveCopies all numbered f s es → length s.copied ≡ length f.universals
flags_long all numbered f s es h = h.store.places.flags ∙ ap length h.universals

pub one_or_two : (n : ℕ) → 1 ≤ n → n ≤ 2 → (n ≡ 1) ⊎ (n ≡ 2)
one_or_two zero low high = absurd (omega (arith, low))
one_or_two (suc zero) low high = inl refl
one_or_two (suc (suc zero)) low high = inr refl
one_or_two (suc (suc (suc n))) low high = absurd (omega (arith, high))

-- room that was made
pub room_made : (all : Dqbf) (numbered : List ℕ) (p q : Definability) (log : ProofLog) → IsPartialStore all numbered (store_of p) log.entries
    → AreLogged log.entries → q ≡ record p { given = q.given; frames = q.frames }
    → ((m : ℕ) × (q.given.items ≡ p.given.items ++ replicate m 0))
    → ((n : ℕ) × (q.frames.items ≡ p.frames.items ++ replicate n None))
    → IsFollowing all numbered (store_of p) log (store_of q) log
room_made all numbered p q log store logged same (m, given) (n, frames) =
    subst (λ t. IsFollowing all numbered (store_of p) log t log) (sym (ap store_of same
    ∙ ap (λ gs. record (store_of p) { given = gs; frames = q.frames.items }) given
    ∙ ap (λ fs. record (store_of p) { given = p.given.items ++ replicate m 0; frames = fs }) frames))
    (roomier_following all numbered (store_of p) log store logged m n log refl)

-- the copy of the matrix on a side
module _ (all : Dqbf) (numbered : List ℕ) (f : Dqbf) (p : Definability) (log : ProofLog)
    (h : CanGiveCopies all numbered f (store_of p) log.entries) (complete : AreComplete all (store_of p)) (side : ℕ)
    (sides : (side ≡ 1) ⊎ (side ≡ 2)) (copy : MatrixCopy) (first : side ≡ 1 → copy ≡ p.first)
    (second : side ≡ 2 → copy ≡ p.second) where
  abbrev s : StoreState
  s = store_of p

  -- what both sides have, this one has
  by_side : (P : MatrixCopy → ℕ → Type 0) → P p.first 1 → P p.second 2 → P copy side
  by_side P one two = search arith

  few : side ≤ 2
  few = elim sides [ inl one ↦ omega (arith, one) | inr two ↦ omega (arith, two) ]

  pub side_universals_long : length copy.universals.items ≡ length f.universals
  side_universals_long = search (arith, by_side)

  pub side_existentials_long : length copy.existentials.items ≡ length f.existentials
  side_existentials_long = search (arith, by_side)

  -- the copy at a place
  at_side : (k : ℕ) (l : Literal) → slice_get (copies_of copy) k ≡ Some l → slice_get (side_copies s side) k ≡ Some l
  at_side k l is = search (arith, by_side)

  named_there : (k v : ℕ) (l : Literal) → 5 ≤ parts_at s k → slice_get (declared f) k ≡ Some v →
      slice_get (copies_of copy) k ≡ Some l → name_literal log.entries l ≡ Some (named_literal (CopyOf side v) false)
  named_there k v l low v_is l_is = search (arith, same_declared, at_side)

  pub side_copied : AreCopies log.entries side p.copied.items f.universals copy.universals.items
  side_copied = record {
    long = side_universals_long;
    named = λ k v l flag v_is l_is.
        let below = slice_get_within f.universals k v v_is in
        let long = ap length h.universals in
        named_there k v l (h.store.whole k (omega (arith, below, long)) flag)
        (kept_there f.universals (existential_variables f) k v v_is)
        (kept_there copy.universals.items copy.existentials.items k l l_is);
  }

  pub side_existentials : AreCopiesOf log.entries side (existential_variables f) copy.existentials.items
  side_existentials = by_places log.entries side (existential_variables f) copy.existentials.items
      (side_existentials_long ∙ sym (length-map f.existentials (λ (y : Existential). y.variable)))
      (λ k v l v_is l_is.
      let long = ap length h.universals in
      let same = side_universals_long in
      named_there (length f.universals + k) v l (complete (length f.universals + k) (omega (arith, long)))
      (at_second f.universals (existential_variables f) k v v_is)
      (subst (λ n. slice_get (copies_of copy) (n + k) ≡ Some l) same
      (at_second copy.universals.items copy.existentials.items k l l_is)))

  module _ (clause : LiveClause) (live : IsLiveClause all numbered f clause) (open_sides : Sides)
      (opened : slice_get p.frames.items clause.frame ≡ Some (Some open_sides)) (g : Group)
      (g_is : side_group side open_sides ≡ Some g) where
    pub group_there : HasGroup (store_of p) (of_frame side (frame_of numbered clause.number)) g
    group_there = (open_sides, ap (slice_get p.frames.items) (sym live.frame_is) ∙ opened, g_is)

    pub group_made : IsMade log.entries g
    group_made = h.store.groups.made (of_frame side (frame_of numbered clause.number)) g group_there

    pub copy_given : AreLogged log.entries → clause.number ≤ length p.given.items →
        slice_index_or p.given.items (clause.number - 1) 0 + 1 ≡ side → (c : List Literal) →
        slice_get f.matrix clause.place ≡ Some c → All (λ l. IsCopied f p.copied.items (variable_of l)) c →
        (rest : List Literal) → AreNamedAs log.entries rest (copy_names side c) → (new : ProofLog) →
        new ≡ with_entry log (Given (Copy side clause.number) (opposite g.selector ∷ rest)) →
        IsFollowing all numbered (store_of p) log
        (record (store_of p) { given = set p.given.items (clause.number - 1) side }) new
    copy_given logged room next c c_is covered rest named new is =
        let low = live.from_one in
        let high = room in
        given_following all numbered f (store_of p) log h logged side clause.number low (omega (arith, low, high)) sides
        next c (live.clause_is ∙ c_is)
        (λ k d lt j j_is. covered k d lt j (ap (λ xs. slice_get xs j)
        (sym (same_declared all numbered f s log.entries h)) ∙ j_is)) g group_there rest named
        new (is ∙ ap (λ l. with_entry log (Given (Copy side clause.number) (l ∷ rest)))
        (negated-positive g.selector group_made.positive))

-- where all pass, what stands at a place is what its element gives
abbrev AllPass : {X Y : Type 0} → (X → Option Y) → List X → Type 0
AllPass {X} {Y} h xs = (i : ℕ) (x : X) → slice_get xs i ≡ Some x → (y : Y) × (h x ≡ Some y)

passed_at : {X Y : Type 0} (h : X → Option Y) (xs : List X) → AllPass h xs → (i : ℕ) (x : X) →
    slice_get xs i ≡ Some x → slice_get (filter_map h xs) i ≡ h x
passed_at h [] pass i x is = cc
passed_at {X} {Y} h (z ∷ xs) pass i x is =
    by (λ k at. passed_at h xs (λ m y there. pass (suc m) y there) k x at) i is (pass 0 z refl)
  where
    by : ((k : ℕ) → slice_get xs k ≡ Some x → slice_get (filter_map h xs) k ≡ h x) → (k : ℕ) →
        slice_get (z ∷ xs) k ≡ Some x → (y : Y) × (h z ≡ Some y) →
        slice_get (cons_option (h z) (filter_map h xs)) k ≡ h x
    by later zero at (y, z_is) =
        let same : z ≡ x = cc in
        ap (λ o. slice_get (cons_option o (filter_map h xs)) 0) z_is ∙ sym z_is ∙ ap h same
    by later (suc k) at (y, z_is) =
        ap (λ o. slice_get (cons_option o (filter_map h xs)) (suc k)) z_is ∙ later k at

mapped_at : (h : ℕ → ℕ) (xs : List ℕ) (i x : ℕ) → slice_get xs i ≡ Some x → slice_get (map h xs) i ≡ Some (h x)
mapped_at h [] i x is = cc
mapped_at h (y ∷ xs) zero x is = let same : y ≡ x = cc in ap (λ z. Some (h z)) same
mapped_at h (y ∷ xs) (suc i) x is = mapped_at h xs i x is

numbered_there : (m : List (List Literal)) (j : ℕ) → 1 ≤ j → j ≤ length m →
    (c : List Literal) × (numbered_from_one m j ≡ Some c)
numbered_there m zero low high = absurd (omega (arith, low))
numbered_there m (suc i) low high = (get_or m i [], slice_get-get_or m i [] (omega (arith, high)))

module _ (all : Dqbf) (numbered : List ℕ) (f : Dqbf) (live frames : List ℕ)
    (now : IsLiveFormula all numbered f live frames) where
  in_range : (i j : ℕ) → slice_get live i ≡ Some j → (1 ≤ j) × (j ≤ length all.matrix)
  in_range i j is = All-contains (λ n. (1 ≤ n) × (n ≤ length all.matrix)) live j now.numbers.numbers
      (element_at live i j is)

  all_pass : AllPass (numbered_from_one all.matrix) live
  all_pass i j is = let r = in_range i j is in numbered_there all.matrix j r.0 r.1

  at_place : (i j : ℕ) → slice_get live i ≡ Some j → slice_get f.matrix i ≡ numbered_from_one all.matrix j
  at_place i j is = ap (λ (h : Dqbf). slice_get h.matrix i) now.formula_is
      ∙ passed_at (numbered_from_one all.matrix) live all_pass i j is

  pub live_clause : (i j F : ℕ) → slice_get live i ≡ Some j → slice_get frames i ≡ Some F →
      IsLiveClause all numbered f (record { place = i; number = j; frame = F })
  live_clause i j F j_is F_is =
      let r = all_pass i j j_is in
      let both : Some F ≡ Some (frame_of numbered j) =
      sym F_is ∙ ap (λ fs. slice_get fs i) now.frames_are ∙ mapped_at (frame_of numbered) live i j j_is in
      record {
        from_one = (in_range i j j_is).0;
        within = slice_get_within f.matrix i r.0 (at_place i j j_is ∙ r.1);
        clause_is = sym (at_place i j j_is);
        frame_is = cc;
      }

  pub live_standing : (s : StoreState) (es : List Entry) → IsStore all numbered s es → HasFewFaults es →
      CanGiveCopies all numbered f s es
  live_standing s es store few = record {
    store = partial all numbered s es store;
    universals = sym (ap (λ (h : Dqbf). h.universals) now.formula_is);
    existentials = sym (ap (λ (h : Dqbf). h.existentials) now.formula_is);
    few = few;
  }

-- both copies of the first so many clauses were given
abbrev pub AreGivenSoFar : StoreState → List ℕ → ℕ → Type 0
AreGivenSoFar s live i = (k j : ℕ) → k < i → slice_get live k ≡ Some j → HasGiven s 2 j

pub given_none : (s : StoreState) (live : List ℕ) → AreGivenSoFar s live 0
given_none s live k j less is = absurd (omega (arith, less))

pub given_one : (s t : StoreState) (live : List ℕ) (i m : ℕ) → ((side j : ℕ) → HasGiven s side j → HasGiven t side j)
    → slice_get live i ≡ Some m → HasGiven t 2 m → AreGivenSoFar s live i → AreGivenSoFar t live (i + 1)
given_one s t live i m kept is has before k j less j_is = by (cases_lt k i)
  where
    by : (k < i) ⊎ (i ≤ k) → HasGiven t 2 j
    by (inl earlier) = kept 2 j (before k j earlier j_is)
    by (inr late) =
        let same : k ≡ i = omega (arith, less, late) in
        let both : Some m ≡ Some j = sym is ∙ ap (slice_get live) (sym same) ∙ j_is in
        let m_is : m ≡ j = cc in
        subst (HasGiven t 2) m_is has

pub given_all : (s : StoreState) (live : List ℕ) (i : ℕ) → length live ≤ i → AreGivenSoFar s live i → AreGiven s live
given_all s live i past given k d below = search (arith, slice_get-get_or)

pub all_given_at : (s : StoreState) (live : List ℕ) (i : ℕ) → i < length live → AreGiven s live →
    HasGiven s 2 (slice_index_or live i 0)
all_given_at s live i below given = given i 0 below

module _ (all : Dqbf) (numbered : List ℕ) (f : Dqbf) (live frames : List ℕ)
    (now : IsLiveFormula all numbered f live frames) where
  pub frames_long : length frames ≡ length live
  frames_long = ap length now.frames_are ∙ length-map live (frame_of numbered)

  pub clause_at : (i : ℕ) → i < length live → IsLiveClause all numbered f
      (record { place = i; number = slice_index_or live i 0; frame = slice_index_or frames i 0 })
  clause_at i below =
      let long = frames_long in
      live_clause all numbered f live frames now i (slice_index_or live i 0) (slice_index_or frames i 0)
      (slice_get-get_or live i 0 below) (slice_get-get_or frames i 0 (omega (arith, below, long)))

  pub live_receiving : (s m : StoreState) (old middle : ProofLog) → IsStore all numbered s old.entries →
      HasFewFaults old.entries → IsFollowing all numbered s old m middle → (i : ℕ) → i < length live →
      IsReceiving all numbered f m
      (record { place = i; number = slice_index_or live i 0; frame = slice_index_or frames i 0 }) middle.entries
  live_receiving s m old middle store few x i below = receiving_on all numbered f s m _ old middle (record {
    standing = live_standing all numbered f live frames now s old.entries store few;
    complete = complete_store all numbered s old.entries store;
    live = clause_at i below;
  }) x

  pub followed : (s m n : StoreState) (old middle new : ProofLog) → IsStore all numbered s old.entries →
      HasFewFaults old.entries → IsFollowing all numbered s old m middle → (i : ℕ) → i < length live →
      (IsReceiving all numbered f m
      (record { place = i; number = slice_index_or live i 0; frame = slice_index_or frames i 0 }) middle.entries →
      IsFollowing all numbered m middle n new) → IsFollowing all numbered s old n new
  followed s m n old middle new store few x i below step =
      following_then all numbered s m n old middle new x (step (live_receiving s m old middle store few x i below))
