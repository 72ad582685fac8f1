-- A clause of a store is given on one side more.
use Rattle.std.proofs.Common.{◌≡◌, ◌≢◌, ℕ, ◌+◌, ◌-◌, ◌<◌, ◌≤◌, ◌⊎◌, inl, inr, List, [], ◌∷◌, length, set, slice_index_or, Some, refl, sym, ap, subst, arith}
use Rattle.std.specs.List.{All, Contains}
use Rattle.std.proofs.lemmas.List.{get_or-set_same, get_or-set_other}
use Rattle.list_laws.proofs.Numbers.{same_or_not}
use Rattle.list_laws.proofs.Members.{contains_first, contains_cases}
use Rattle.dq_lits.specs.Literal.{Literal, negative, variable_of}
use Rattle.dq_lits.specs.Formula.{Dqbf}
use Rattle.hint_log.specs.Conditions.{AreLogged}
use Rattle.hint_log.specs.Entries.{Entry, Given, ProofLog, with_entry}
use Rattle.hint_log.specs.Growth.{Each}
use Rattle.hint_log.specs.Naming.{AreNamedAs, numbered_from_one}
use Rattle.hint_log.specs.ProductiveLog.{MatchesOrigin}
use Rattle.hint_log.specs.ProductiveSession.{frame_of}
use Rattle.hint_log.specs.declared.origins.Origin.TheVariants.{Copy}
use Rattle.log_laws.proofs.Kept.{NamesStay}
use Rattle.oracle.specs.declared.groups.Group.{Group}
use Rattle.definability.specs.Copies.{IsCopied, copy_names, group_variable}
use Rattle.definability.specs.Following.{IsFollowing, CanGiveCopies}
use Rattle.definability.specs.Store.{StoreState, HasGiven, HasGroup, of_frame, IsStoreEntry, IsGivenThere, IsPartialStore}
use Rattle.definability.proofs.PreservedStores.{IsGrown, entries_kept, kept_by, given_stays, groups_stay, has_number, parts_stay}
use Rattle.definability.proofs.StoreSteps.{following_entry}

-- a copy in the log is noted
noted_copy : (all : Dqbf) (numbered : List ℕ) (s : StoreState) (es : List Entry) (side j : ℕ) (c : List Literal) →
    Each (IsStoreEntry all numbered s) es → Contains es (Given (Copy side j) c) → HasGiven s side j
noted_copy all numbered s [] side j c own inside = let below = inside.1 in absurd (omega (arith, below))
noted_copy all numbered s (e ∷ es) side j c own inside =
    search (arith, (noted_copy all numbered s es side j c own.1), contains_cases)

module _ (all : Dqbf) (numbered : List ℕ) (f : Dqbf) (s : StoreState) (log : ProofLog)
    (h : CanGiveCopies all numbered f s log.entries) (logged : AreLogged log.entries) (side j : ℕ) (low : 1 ≤ j)
    (within : j - 1 < length s.given) (sides : (side ≡ 1) ⊎ (side ≡ 2))
    (next : slice_index_or s.given (j - 1) 0 + 1 ≡ side) (clause : List Literal)
    (clause_is : numbered_from_one all.matrix j ≡ Some clause)
    (covered : All (λ l. IsCopied all s.copied (variable_of l)) clause) (g : Group)
    (has_group : HasGroup s (of_frame side (frame_of numbered j)) g) (rest : List Literal)
    (named : AreNamedAs log.entries rest (copy_names side clause)) where
  abbrev pub given_more : StoreState
  given_more = record s { given = set s.given (j - 1) side }

  abbrev e : Entry
  e = Given (Copy side j) (negative (group_variable g) ∷ rest)

  abbrev es : List Entry
  es = log.entries

  names : NamesStay es (e ∷ es)
  names v n is = is

  here : slice_index_or given_more.given (j - 1) 0 ≡ side
  here = get_or-set_same s.given (j - 1) side 0 within

  other : (k : ℕ) → k ≢ j - 1 → slice_index_or given_more.given k 0 ≡ slice_index_or s.given k 0
  other k differ = get_or-set_other s.given (j - 1) k side 0 differ

  more : (sd i : ℕ) → HasGiven s sd i → HasGiven given_more sd i
  more sd i has = by (same_or_not (i - 1) (j - 1))
    where
      by : ((i - 1) ≡ (j - 1)) ⊎ ((i - 1) ≢ (j - 1)) → HasGiven given_more sd i
      by (inl same) =
          let now = here in
          let there = ap (λ k. slice_index_or given_more.given k 0) same in
          let before = ap (λ k. slice_index_or s.given k 0) same in
          let one = next in
          let old = has.within in
          record { from_one = has.from_one; within = omega (arith, now, there, before, one, old) }
      by (inr differ) =
          let same = other (i - 1) differ in
          let old = has.within in
          record { from_one = has.from_one; within = omega (arith, same, old) }

  -- what is given now was, or is the new one
  which : (sd i : ℕ) → 1 ≤ i → HasGiven given_more sd i → HasGiven s sd i ⊎ ((sd ≡ side) × (i ≡ j))
  which sd i one has = by (same_or_not (i - 1) (j - 1)) (same_or_not sd side)
    where
      by : ((i - 1) ≡ (j - 1)) ⊎ ((i - 1) ≢ (j - 1)) → (sd ≡ side) ⊎ (sd ≢ side) →
          HasGiven s sd i ⊎ ((sd ≡ side) × (i ≡ j))
      by (inl same) (inl last) = let from = low in inr (last, omega (arith, same, one, from))
      by (inl same) (inr before) =
          let now = here in
          let there = ap (λ k. slice_index_or given_more.given k 0) same in
          let old = ap (λ k. slice_index_or s.given k 0) same in
          let step = next in
          let less = has.within in
          inl (record { from_one = has.from_one; within = omega (arith, now, there, old, step, less, before) })
      by (inr differ) any =
          let same = other (i - 1) differ in
          let less = has.within in
          inl (record { from_one = has.from_one; within = omega (arith, same, less) })

  grown : IsGrown s given_more
  grown = record {
    kept_groups = λ slot m has. has;
    more_given = more;
    more_parts = λ k. omega arith;
    kept_links = λ k m few is. is;
  }

  right : MatchesOrigin all es (Given (Copy side j) (negative (group_variable g) ∷ rest))
  right = record {
    group = group_variable g;
    rest = rest;
    clause_is = refl;
    is_group = (h.store.groups.made (of_frame side (frame_of numbered j)) g has_group).named;
    rest_is = (sides, record { clause = clause; clause_is = clause_is; named = named });
    one_leaf = λ v a b a' b' leaf leaf' rest' is. cc;
  }

  from_one : 1 ≤ side
  from_one = elim sides [ inl one ↦ omega (arith, one) | inr two ↦ omega (arith, two) ]

  own : IsStoreEntry all numbered given_more es e
  own =
      let now = here in
      record {
        right = right;
        given = record { from_one = from_one; within = omega (arith, now) };
        group = g;
        has_group = has_group;
        in_group = (rest, refl);
      }

  first : (d : List Literal) → Contains es (Given (Copy side j) d) → ⊥
  first d inside =
      let has = (noted_copy all numbered s es side j d h.store.own inside).within in
      let step = next in
      omega (arith, has, step)

  given_there : (sd i : ℕ) → 1 ≤ i → HasGiven s sd i ⊎ ((sd ≡ side) × (i ≡ j)) →
      IsGivenThere all numbered given_more (e ∷ es) sd i
  given_there sd i one (inl old) =
      given_stays all numbered s es (e ∷ es) (kept_by e es names) sd i (h.store.givens sd i one old)
  given_there sd i one (inr (sd_is, i_is)) =
      subst (λ n. IsGivenThere all numbered given_more (e ∷ es) n i) (sym sd_is)
      (subst (λ n. IsGivenThere all numbered given_more (e ∷ es) side n) (sym i_is) (record {
        clause = clause;
        clause_is = clause_is;
        covered = covered;
        group = g;
        has_group = has_group;
        given = record { rest = rest; given = contains_first e es; named = named };
      }))

  given_store : IsPartialStore all numbered given_more (e ∷ es)
  given_store = record {
    places = h.store.places;
    whole = h.store.whole;
    parts = parts_stay all numbered s es (e ∷ es) (kept_by e es names) h.store.parts;
    groups = groups_stay all numbered s es (e ∷ es) (kept_by e es names) h.store.groups;
    givens = λ sd i one has. given_there sd i one (which sd i one has);
    own = (own, entries_kept all numbered s given_more grown es (λ slot m has. inl has) logged h.store.own);
    active = h.store.active;
  }

  pub given_following : (new : ProofLog) → new ≡ with_entry log e → IsFollowing all numbered s log given_more new
  given_following new is = following_entry all numbered s given_more log new e is
      (record {
        own = refl;
        in_group = (
          group_variable g,
          (rest, refl),
          inl (has_number s (of_frame side (frame_of numbered j)) g has_group),
        );
        matches_origin = right;
        not_repeated = record { first = λ no_fault d inside. first d inside; groups = h.few };
      }) refl refl refl (λ n has. inl has) given_store grown (λ k flag. flag)
