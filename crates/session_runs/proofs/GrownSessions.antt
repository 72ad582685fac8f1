-- A session's log where more clauses are numbered.
use Rattle.std.proofs.Common.{◌≡◌, ℕ, zero, suc, ◌-◌, ◌≤◌, ◌<◌, List, [], ◌∷◌, ◌++◌, length, slice_get, Some, IsSome, refl, sym, ◌∙◌, ap, subst, arith}
use Rattle.std.specs.List.{All, Contains, filter_map, cons_option}
use Rattle.std.proofs.lemmas.List.{get_or_append_left}
use Rattle.std.proofs.lemmas.List.Elements.{All-head, All-tail}
use Rattle.list_laws.proofs.Elements.{kept_there}
use Rattle.list_laws.proofs.Options.{some_same, some_of}
use Rattle.dq_lits.specs.Literal.{Literal, negative}
use Rattle.dq_lits.specs.Formula.{Dqbf}
use Rattle.hint_log.specs.Deciding.{DecidesTrue}
use Rattle.hint_log.specs.Entries.{Entry, Named, Given, Answer, Round, Begun}
use Rattle.hint_log.specs.Growth.{Each}
use Rattle.hint_log.specs.Live.{with_matrix, formula_of, formula_by, live_numbers, live_formula, AreNumbers}
use Rattle.hint_log.specs.Naming.{numbered_from_one}
use Rattle.hint_log.specs.ProductiveLog.{IsRightlyNamed}
use Rattle.hint_log.specs.ProductiveSession.{MatchesLiveOrigin, RefutesNewLiveRow, FollowsLiveModel, IsSinceBeginning, frame_of, AreGroupedByFrames, DecidesLiveTrue, IsUndecidedSince}
use Rattle.hint_log.specs.declared.names.Name.{Name}
use Rattle.hint_log.specs.declared.names.Name.TheVariants.{Input}
use Rattle.hint_log.specs.declared.origins.Origin.{Origin}
use Rattle.hint_log.specs.declared.origins.Origin.TheVariants.{Instance, Fault, Copy}
use Rattle.hint_log.proofs.NamedEntries.{each_one, number_below}
use Rattle.session_runs.specs.LargerSessions.{IsOfSearch, SessionsTakeClauses, UndecidedTakesClauses}

pub numbered-more : {X : Type 0} (xs ys : List X) (j : ℕ) (x : X) → numbered_from_one xs j ≡ Some x
    → numbered_from_one (xs ++ ys) j ≡ Some x
numbered-more xs ys zero x is = cc
numbered-more xs ys (suc k) x is = kept_there xs ys k x is

slice-same : {X : Type 0} (xs ys : List X) (k : ℕ) → k < length xs → slice_get xs k ≡ slice_get (xs ++ ys) k
slice-same [] ys k below = absurd (omega (arith, below))
slice-same (x ∷ xs) ys zero below = refl
slice-same (x ∷ xs) ys (suc k) below = slice-same xs ys k (omega (arith, below))

numbered-same : {X : Type 0} (xs ys : List X) (j : ℕ) → 1 ≤ j → j ≤ length xs
    → numbered_from_one xs j ≡ numbered_from_one (xs ++ ys) j
numbered-same xs ys zero low high = refl
numbered-same xs ys (suc k) low high = slice-same xs ys k (omega (arith, high))

module _ (all : Dqbf) (more : List (List Literal)) where
  abbrev larger : Dqbf
  larger = with_matrix all (all.matrix ++ more)

  found-more : (live : List ℕ) → All (λ j. (1 ≤ j) × (j ≤ length all.matrix)) live
      → filter_map (numbered_from_one all.matrix) live ≡ filter_map (numbered_from_one (all.matrix ++ more)) live
  found-more [] within = refl
  found-more (j ∷ js) within =
      let In : ℕ → Type 0 = λ j. (1 ≤ j) × (j ≤ length all.matrix) in
      let here = All-head In j js within in
      ap (λ o. cons_option o (filter_map (numbered_from_one all.matrix) js))
      (numbered-same all.matrix more j here.0 here.1)
      ∙ ap (cons_option (numbered_from_one (all.matrix ++ more) j)) (found-more js (All-tail In j js within))

  pub same-live : (live : List ℕ) → AreNumbers all live → formula_of all live ≡ formula_of larger live
  same-live live numbers = ap (with_matrix all) (found-more live numbers.numbers)

  pub live-are : (es : List Entry) → Each (MatchesLiveOrigin all) es → (live : List ℕ)
      → live_numbers es ≡ Some live → AreNumbers all live
  live-are [] each live is = cc
  live-are (Begun l ∷ es) each live is = subst (AreNumbers all) (some_same l live is) each.0
  live-are (_ ∷ es) each live is = live-are es each.1 live is

  same-formula : (es : List Entry) → Each (MatchesLiveOrigin all) es → IsSome (live_numbers es)
      → live_formula all es ≡ live_formula larger es
  same-formula es each some =
      let (live, is) = some_of (live_numbers es) some in
      ap (formula_by all) is ∙ same-live live (live-are es each live is) ∙ sym (ap (formula_by larger) is)

  named-more : (n : Name) → IsRightlyNamed all n → IsRightlyNamed larger n
  named-more (Input x) h = h
  named-more _ h = tt

  given-more : (es : List Entry) (o : Origin) (c : List Literal) → Each (MatchesLiveOrigin all) es
      → IsOfSearch es (Given o c) → MatchesLiveOrigin all es (Given o c) → MatchesLiveOrigin larger es (Given o c)
  given-more es (Instance k j) c before within m = search (arith, numbered-more)
  given-more es (Fault j i leaf) c before within m = search (arith, same-formula)
  given-more es (Copy side j) c before within m = search (arith, numbered-more)
  given-more es _ c before within m = search arith

  pub origins-more : (es : List Entry) → Each IsOfSearch es → Each (MatchesLiveOrigin all) es
      → Each (MatchesLiveOrigin larger) es
  origins-more [] within each = tt
  origins-more (Named v n ∷ es) within each = (named-more n each.0, origins-more es within.1 each.1)
  origins-more (Given o c ∷ es) within each = search (arith, given-more, (origins-more es within.1 each.1))
  origins-more (Begun live ∷ es) within each =
      let long = length-larger in (
        record {
          ascending = each.0.ascending;
          numbers = λ k d below. let h = each.0.numbers k d below in let high = h.1 in (h.0, omega (arith, high, long));
        },
        origins-more es within.1 each.1,
      )
    where
      length-larger : length all.matrix ≤ length (all.matrix ++ more)
      length-larger = longer all.matrix more
        where
          longer : {X : Type 0} (xs ys : List X) → length xs ≤ length (xs ++ ys)
          longer [] ys = omega arith
          longer (x ∷ xs) ys = let rest = longer xs ys in omega (arith, rest)
  origins-more (_ ∷ es) within each = (tt, origins-more es within.1 each.1)

  pub rows-more : (es : List Entry) → Each IsOfSearch es → Each (MatchesLiveOrigin all) es
      → Each (RefutesNewLiveRow all) es → Each (RefutesNewLiveRow larger) es
  rows-more [] within each rows = tt
  rows-more (Round row values j ∷ es) within each rows =
      search (arith, same-formula, (rows-more es within.1 each.1 rows.1))
  rows-more (_ ∷ es) within each rows = (tt, rows-more es within.1 each.1 rows.1)

  pub models-more : (es : List Entry) → Each IsOfSearch es → Each (MatchesLiveOrigin all) es
      → Each (FollowsLiveModel all) es → Each (FollowsLiveModel larger) es
  models-more [] within each models = tt
  models-more (Round row values j ∷ es) within each models =
      search (arith, same-formula, (models-more es within.1 each.1 models.1))
  models-more (_ ∷ es) within each models = (tt, models-more es within.1 each.1 models.1)

  module _ (frames more_frames : List ℕ) (es : List Entry) (many : length frames ≡ length all.matrix)
      (each : Each (MatchesLiveOrigin all) es) where
    instance-within : (k j : ℕ) (c : List Literal) → Contains es (Given (Instance k j) c)
        → (1 ≤ j) × (j ≤ length all.matrix)
    instance-within k j c has =
        let at = each_one (MatchesLiveOrigin all) es (Given (Instance k j) c) each has in
        number_below all.matrix j at.1.rest_is.clause at.1.rest_is.clause_is

    copy-within : (side j : ℕ) (c : List Literal) → Contains es (Given (Copy side j) c)
        → (1 ≤ j) × (j ≤ length all.matrix)
    copy-within side j c has =
        let at = each_one (MatchesLiveOrigin all) es (Given (Copy side j) c) each has in
        number_below all.matrix j at.1.rest_is.1.clause at.1.rest_is.1.clause_is

    frame-same : (j : ℕ) → (1 ≤ j) × (j ≤ length all.matrix) → frame_of (frames ++ more_frames) j ≡ frame_of frames j
    frame-same j (low, high) = get_or_append_left frames more_frames 0 (j - 1) (omega (arith, low, high, many))

    groups-more : AreGroupedByFrames frames es → AreGroupedByFrames (frames ++ more_frames) es
    groups-more grouped = record {
      instances = λ k j k' j' group group' rest rest' here there.
          let old = grouped.instances k j k' j' group group' rest rest' here there in
          let same = frame-same j (instance-within k j (negative group ∷ rest) here) in
          let same' = frame-same j' (instance-within k' j' (negative group' ∷ rest') there) in
          (λ e. same ∙ old.0 e ∙ sym same', λ e. old.1 (sym same ∙ e ∙ same'));
      copies = λ side j side' j' group group' rest rest' here there.
          let old = grouped.copies side j side' j' group group' rest rest' here there in
          let same = frame-same j (copy-within side j (negative group ∷ rest) here) in
          let same' = frame-same j' (copy-within side' j' (negative group' ∷ rest') there) in (
            λ e. (same ∙ (old.0 e).0 ∙ sym same', (old.0 e).1),
            λ e. old.1 (sym same ∙ e.0 ∙ same', e.1),
          );
      apart = grouped.apart;
    }

  undecided-more : (live : List ℕ) → AreNumbers all live → (es : List Entry) → live_numbers es ≡ Some live
      → IsUndecidedSince all es → IsUndecidedSince larger es
  undecided-more live numbers [] is undecided = tt
  undecided-more live numbers (Answer c hints ∷ es) is undecided = (
    undecided.0,
    λ d. undecided.1 (as-before d),
    undecided-more live numbers es is undecided.2,
  )
    where
      Shows : Dqbf → Type 0
      Shows f = (d : DecidesTrue f es c hints) × IsSinceBeginning es d.rests.group

      same : live_formula larger es ≡ live_formula all es
      same = ap (formula_by larger) is ∙ sym (same-live live numbers) ∙ sym (ap (formula_by all) is)

      as-before : DecidesLiveTrue larger es c hints → DecidesLiveTrue all es c hints
      as-before d =
          let moved = subst Shows same (d.decides, d.current) in
          record { decides = moved.0; current = moved.1 }
  undecided-more live numbers (Begun l ∷ es) is undecided = tt
  undecided-more live numbers (_ ∷ es) is undecided = undecided-more live numbers es is undecided

pub sessions-take-clauses : SessionsTakeClauses
sessions-take-clauses all frames more more_frames es many within session =
    search (arith, origins-more, rows-more, models-more, groups-more)

pub undecided-takes-clauses : UndecidedTakesClauses
undecided-takes-clauses all frames live more es session is undecided = search (arith, undecided-more, live-are)
