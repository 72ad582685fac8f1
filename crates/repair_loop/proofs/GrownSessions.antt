-- A session stays one where clauses are numbered behind all others: what the log says of clauses it
-- says of those that were numbered before.
use Rattle.std.proofs.Common.{◌≡◌, ℕ, zero, suc, ◌+◌, ◌-◌, ◌≤◌, false, List, [], ◌∷◌, ◌++◌, length, Option, None, Some, IsSome, refl, sym, ◌∙◌, ap, arith}
use Rattle.std.specs.List.{All, Contains, filter_map, cons_option}
use Rattle.std.proofs.lemmas.List.{length-append, get_or_append_left}
use Rattle.std.proofs.lemmas.List.Elements.{All-head, All-tail}
use Rattle.dq_lits.specs.Literal.{Literal, negative}
use Rattle.dq_lits.specs.Formula.{Dqbf}
use Rattle.hint_log.specs.Entries.{Entry, Named, Given, Round, Begun}
use Rattle.hint_log.specs.Growth.{Each}
use Rattle.hint_log.specs.Live.{live_numbers, with_matrix, formula_by, live_formula, AreNumbers}
use Rattle.hint_log.specs.Naming.{numbered_from_one}
use Rattle.hint_log.specs.Origins.{IsRestOf, IsOriginsClause}
use Rattle.hint_log.specs.ProductiveLog.{is_fault}
use Rattle.hint_log.specs.ProductiveSession.{MatchesLiveOrigin, RefutesNewLiveRow, FollowsLiveModel, AreGroupedByFrames, IsProductiveSession, frame_of}
use Rattle.hint_log.specs.declared.origins.Origin.{Origin}
use Rattle.hint_log.specs.declared.origins.Origin.TheVariants.{Instance, Fault, Copy, Differ}
use Rattle.hint_log.proofs.NamedEntries.{live_are_numbers, each_one, numbered_low}
use Rattle.dq_session.proofs.AddedClauses.{numbered_more}
use Rattle.repair_loop.specs.SearchStates.{IsOfSearch}

numbered_same : (xs ys : List (List Literal)) (j : ℕ) → 1 ≤ j → j ≤ length xs →
    numbered_from_one (xs ++ ys) j ≡ numbered_from_one xs j
numbered_same xs ys zero low high = absurd (omega (arith, low))
numbered_same [] ys (suc i) low high = absurd (omega (arith, high))
numbered_same (x ∷ xs) ys (suc zero) low high = refl
numbered_same (x ∷ xs) ys (suc (suc i)) low high = numbered_same xs ys (suc i) (omega arith) (omega (arith, high))

clauses_same : (xs ys : List (List Literal)) (live : List ℕ) → All (λ j. (1 ≤ j) × (j ≤ length xs)) live →
    filter_map (numbered_from_one (xs ++ ys)) live ≡ filter_map (numbered_from_one xs) live
clauses_same xs ys [] few = refl
clauses_same xs ys (j ∷ live) few =
    let here = All-head (λ j. (1 ≤ j) × (j ≤ length xs)) j live few in
    let later = clauses_same xs ys live (All-tail (λ j. (1 ≤ j) × (j ≤ length xs)) j live few) in
    ap (λ o. cons_option o (filter_map (numbered_from_one (xs ++ ys)) live)) (numbered_same xs ys j here.0 here.1)
    ∙ ap (cons_option (numbered_from_one xs j)) later

module _ (all : Dqbf) (more : List (List Literal)) where
  abbrev longer : Dqbf
  longer = with_matrix all (all.matrix ++ more)

  abbrev is_longer : length longer.matrix ≡ length all.matrix + length more
  is_longer = length-append all.matrix more

  -- a search's formula is what it was
  same_formula : (es : List Entry) → Each (MatchesLiveOrigin all) es → IsSome (live_numbers es) →
      live_formula longer es ≡ live_formula all es
  same_formula es given some = by (live_numbers es) refl some
    where
      by : (o : Option (List ℕ)) → live_numbers es ≡ o → IsSome o → formula_by longer (live_numbers es) ≡ formula_by all
          (live_numbers es)
      by None is some = cc
      by (Some live) is some =
          let numbers = live_are_numbers all es live given is in
          ap (formula_by longer) is
          ∙ ap (with_matrix all) (clauses_same all.matrix more live numbers.numbers)
          ∙ sym (ap (formula_by all) is)

  rest_stays : (earlier : List Entry) (group : ℕ) (origin : Origin) (rest : List Literal) → is_fault origin ≡ false →
      IsRestOf all earlier group origin rest → IsRestOf longer earlier group origin rest
  rest_stays earlier group (Instance k j) rest other is = search (arith, numbered_more)
  rest_stays earlier group (Fault j i leaf) rest other is = cc
  rest_stays earlier group (Copy side j) rest other is = search (arith, numbered_more)
  rest_stays earlier group (Differ y leaf part) rest other is = search arith
  rest_stays earlier group _ rest other is = is

  no_leaf : (origin : Origin) (j i : ℕ) (leaf : _) → is_fault origin ≡ false → origin ≡ Fault j i leaf → ⊥
  no_leaf origin j i leaf other same = let is : is_fault origin ≡ is_fault (Fault j i leaf) = ap is_fault same in cc

  origin_stays : (earlier : List Entry) (origin : Origin) (c : List Literal) → is_fault origin ≡ false →
      IsOriginsClause all earlier origin c → IsOriginsClause longer earlier origin c
  origin_stays earlier origin c other is = search (arith, rest_stays, no_leaf)

  given_stays : (earlier : List Entry) (origin : Origin) (c : List Literal) → Each (MatchesLiveOrigin all) earlier →
      IsOfSearch earlier (Given origin c) → MatchesLiveOrigin all earlier (Given origin c) →
      MatchesLiveOrigin longer earlier (Given origin c)
  given_stays earlier (Fault j i leaf) c before tried is = search (arith, same_formula)
  given_stays earlier (Differ y leaf part) c before tried is = search (arith, origin_stays)
  given_stays earlier e c before tried is = origin_stays earlier e c refl is

  numbers_stay : (live : List ℕ) → AreNumbers all live → AreNumbers longer live
  numbers_stay live are = record {
    ascending = are.ascending;
    numbers = λ k d below. let r = are.numbers k d below in let high = r.1 in let long = is_longer in
        (r.0, omega (arith, high, long));
  }

  origins_stay : (es : List Entry) → Each IsOfSearch es → Each (MatchesLiveOrigin all) es →
      Each (MatchesLiveOrigin longer) es
  origins_stay [] tried given = tt
  origins_stay (Named v n ∷ es) tried given = (given.0, origins_stay es tried.1 given.1)
  origins_stay (Given origin c ∷ es) tried given = search (arith, given_stays, (origins_stay es tried.1 given.1))
  origins_stay (Begun live ∷ es) tried given = (numbers_stay live given.0, origins_stay es tried.1 given.1)
  origins_stay (_ ∷ es) tried given = (tt, origins_stay es tried.1 given.1)

  rows_stay : (es : List Entry) → Each IsOfSearch es → Each (MatchesLiveOrigin all) es →
      Each (RefutesNewLiveRow all) es → Each (RefutesNewLiveRow longer) es
  rows_stay [] tried given rows = tt
  rows_stay (Round row values j ∷ es) tried given rows =
      search (arith, same_formula, (rows_stay es tried.1 given.1 rows.1))
  rows_stay (_ ∷ es) tried given rows = (tt, rows_stay es tried.1 given.1 rows.1)

  models_stay : (es : List Entry) → Each IsOfSearch es → Each (MatchesLiveOrigin all) es →
      Each (FollowsLiveModel all) es → Each (FollowsLiveModel longer) es
  models_stay [] tried given models = tt
  models_stay (Round row values j ∷ es) tried given models =
      search (arith, same_formula, (models_stay es tried.1 given.1 models.1))
  models_stay (_ ∷ es) tried given models = (tt, models_stay es tried.1 given.1 models.1)

  module _ (frames added : List ℕ) (many : length frames ≡ length all.matrix) (es : List Entry)
      (given : Each (MatchesLiveOrigin all) es) where
    frame_stays : (j : ℕ) → 1 ≤ j → j ≤ length all.matrix → frame_of (frames ++ added) j ≡ frame_of frames j
    frame_stays j low high = get_or_append_left frames added 0 (j - 1) (omega (arith, low, high, many))

    instance_frame : (k j : ℕ) (c : List Literal) → Contains es (Given (Instance k j) c) →
        frame_of (frames ++ added) j ≡ frame_of frames j
    instance_frame k j c has =
        let there = each_one (MatchesLiveOrigin all) es (Given (Instance k j) c) given has in
        let inside = numbered_low all.matrix j there.1.rest_is.clause there.1.rest_is.clause_is in
        frame_stays j inside.0 inside.1

    copy_frame : (side j : ℕ) (c : List Literal) → Contains es (Given (Copy side j) c) →
        frame_of (frames ++ added) j ≡ frame_of frames j
    copy_frame side j c has =
        let there = each_one (MatchesLiveOrigin all) es (Given (Copy side j) c) given has in
        let inside = numbered_low all.matrix j there.1.rest_is.1.clause there.1.rest_is.1.clause_is in
        frame_stays j inside.0 inside.1

    groups_stay : AreGroupedByFrames frames es → AreGroupedByFrames (frames ++ added) es
    groups_stay are = record {
      instances = λ k j k' j' group group' rest rest' has has'.
          let here = instance_frame k j (negative group ∷ rest) has in
          let there = instance_frame k' j' (negative group' ∷ rest') has' in
          let both = are.instances k j k' j' group group' rest rest' has has' in
          (λ same. here ∙ both.0 same ∙ sym there, λ same. both.1 (sym here ∙ same ∙ there));
      copies = λ side j side' j' group group' rest rest' has has'.
          let here = copy_frame side j (negative group ∷ rest) has in
          let there = copy_frame side' j' (negative group' ∷ rest') has' in
          let both = are.copies side j side' j' group group' rest rest' has has' in (
            λ same. let r = both.0 same in (here ∙ r.0 ∙ sym there, r.1),
            λ same. both.1 (sym here ∙ same.0 ∙ there, same.1),
          );
      apart = are.apart;
    }

  pub session_grows : (frames added : List ℕ) → length frames ≡ length all.matrix → (es : List Entry) →
      Each IsOfSearch es → IsProductiveSession all frames es → IsProductiveSession longer (frames ++ added) es
  session_grows frames added many es tried s = search (arith, origins_stay, rows_stay, models_stay, groups_stay)
