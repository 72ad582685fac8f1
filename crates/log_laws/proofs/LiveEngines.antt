-- What engines add to the log of a session.
use Rattle.std.proofs.Common.{◌≡◌, ℕ, ◌==◌, Bool, true, false, cond, ◌⊎◌, inl, inr, List, [], ◌∷◌, ◌++◌, Option, Some, None, refl, sym, subst, arith}
use Rattle.std.proofs.lemmas.Bool.{eqb-true}
use Rattle.dq_lits.specs.Literal.{Literal}
use Rattle.dq_lits.specs.Formula.{Dqbf}
use Rattle.hint_log.specs.Deciding.{DecidesTrue}
use Rattle.hint_log.specs.Entries.{Entry, Named, Given, Learned, Answer, Round, Begun, name_of}
use Rattle.hint_log.specs.Growth.{EachOf}
use Rattle.hint_log.specs.Live.{live_numbers, before_beginning, formula_by, live_formula}
use Rattle.hint_log.specs.Naming.{rows_of}
use Rattle.hint_log.specs.Origins.{IsOriginsClause}
use Rattle.hint_log.specs.ProductiveLog.{RefutesNewRow, FollowsModel, IsNotRepeated, IsRightlyNamed}
use Rattle.hint_log.specs.ProductiveSession.{MatchesLiveOrigin, IsUndecidedSince, DecidesLiveFalse, DecidesLiveTrue}
use Rattle.hint_log.specs.declared.names.Name.{Name}
use Rattle.hint_log.specs.declared.names.Name.TheVariants.{Input}
use Rattle.hint_log.specs.declared.origins.Origin.{Origin}
use Rattle.hint_log.specs.declared.origins.Origin.TheVariants.{Gate, Fault}
use Rattle.log_laws.specs.Engines.{Engine, circuits, IsInGroup, IsGivenBy, IsAddedBy}
use Rattle.log_laws.specs.Sessions.{IsInOneOf, IsAddedLive, LeavesSession, EnginesLeaveSessions, CircuitsAddLive}
use Rattle.log_laws.proofs.LargerLogs.{each_grown, live_kept}
use Rattle.log_laws.proofs.LiveAnswers.{gate_of_any}

module _ (all : Dqbf) (engine : Engine) (groups : List ℕ) (silent : Bool) (old : List Entry) where
  abbrev Added : List Entry → Entry → Type 0
  Added earlier e = IsAddedLive all engine groups silent old earlier e

  right_origin : (earlier : List Entry) (e : Entry) → Added earlier e → MatchesLiveOrigin all earlier e
  right_origin earlier (Named v n) h = h.rightly
  right_origin earlier (Given origin c) h = h.matches_origin
  right_origin earlier (Learned c hints) h = tt
  right_origin earlier (Answer c hints) h = tt
  right_origin earlier _ h = absurd h

  no_row : (f : Dqbf) (earlier : List Entry) (e : Entry) → Added earlier e → RefutesNewRow f earlier e
  no_row f earlier (Round row values j) h = absurd h
  no_row f earlier (Begun live) h = absurd h
  no_row f earlier _ h = tt

  no_model : (f : Dqbf) (earlier : List Entry) (e : Entry) → Added earlier e → FollowsModel f earlier e
  no_model f earlier (Round row values j) h = absurd h
  no_model f earlier (Begun live) h = absurd h
  no_model f earlier _ h = tt

  first_given : (earlier : List Entry) (e : Entry) → Added earlier e → IsNotRepeated earlier e
  first_given earlier (Given origin c) h = h.not_repeated
  first_given earlier (Round row values j) h = absurd h
  first_given earlier (Begun live) h = absurd h
  first_given earlier _ h = tt

  undecided_since : silent ≡ true → (more : List Entry) → EachOf Added more old → IsUndecidedSince all old →
      IsUndecidedSince all (more ++ old)
  undecided_since s [] h u = u
  undecided_since s (Answer c hints ∷ more) h u = let both = h.0 s in (both.0, both.1, undecided_since s more h.1 u)
  undecided_since s (Round row values j ∷ more) h u = absurd h.0
  undecided_since s (Begun live ∷ more) h u = absurd h.0
  undecided_since s (_ ∷ more) h u = undecided_since s more h.1 u

  same_rows : (more : List Entry) → EachOf Added more old → rows_of (more ++ old) ≡ rows_of old
  same_rows [] h = refl
  same_rows (Round row values j ∷ more) h = absurd h.0
  same_rows (Begun live ∷ more) h = absurd h.0
  same_rows (_ ∷ more) h = same_rows more h.1

  same_live : (more : List Entry) → EachOf Added more old → live_numbers (more ++ old) ≡ live_numbers old
  same_live [] h = refl
  same_live (Round row values j ∷ more) h = absurd h.0
  same_live (Begun live ∷ more) h = absurd h.0
  same_live (_ ∷ more) h = same_live more h.1

  same_before : (more : List Entry) → EachOf Added more old → before_beginning (more ++ old) ≡ before_beginning old
  same_before [] h = refl
  same_before (Round row values j ∷ more) h = absurd h.0
  same_before (Begun live ∷ more) h = absurd h.0
  same_before (_ ∷ more) h = same_before more h.1

  same_name : (v : ℕ) (n : Name) (more : List Entry) → EachOf Added more old → name_of old v ≡ Some n →
      name_of (more ++ old) v ≡ Some n
  same_name v n [] h is = is
  same_name v n (Named w m ∷ more) h is = by_bit (v == w) refl (same_name v n more h.1 is) where
    by_bit : (b : Bool) → (v == w) ≡ b → name_of (more ++ old) v ≡ Some n →
        cond b (Some m) (name_of (more ++ old) v) ≡ Some n
    by_bit true e before = search (arith, eqb-true)
    by_bit false e before = before
  same_name v n (Round row values j ∷ more) h is = absurd h.0
  same_name v n (Begun live ∷ more) h is = absurd h.0
  same_name v n (_ ∷ more) h is = same_name v n more h.1 is

pub sessions_left : EnginesLeaveSessions
sessions_left all engine groups silent old new grew =
    let P : List Entry → List Entry → Type 0 = λ a b. LeavesSession all engine groups silent a b in
    let Q : List Entry → Entry → Type 0 = IsAddedLive all engine groups silent old.entries in
    let kept : LeavesSession all engine groups silent old.entries (grew.more ++ old.entries) = record {
      origins = search (arith, each_grown, right_origin);
      new_rows = search (arith, each_grown);
      models = search (arith, each_grown);
      givens = search (arith, each_grown, first_given);
      decisions = λ s. undecided_since all engine groups silent old.entries s grew.more grew.each;
      rows = same_rows all engine groups silent old.entries grew.more grew.each;
      names = λ v name. same_name all engine groups silent old.entries v name grew.more grew.each;
      live = same_live all engine groups silent old.entries grew.more grew.each;
      before = same_before all engine groups silent old.entries grew.more grew.each;
    } in
    subst (LeavesSession all engine groups silent old.entries) (sym grew.grown) kept

-- the universals of a search's formula are those of all
rightly : (all : Dqbf) (o : Option (List ℕ)) (n : Name) → IsRightlyNamed (formula_by all o) n → IsRightlyNamed all n
rightly all None n h = h
rightly all (Some live) (Input x) h = h
rightly all (Some live) _ h = tt

module _ (all : Dqbf) (group : ℕ) (silent : Bool) (old : List Entry) where
  abbrev By : List Entry → Entry → Type 0
  By earlier e = IsAddedBy (live_formula all old) circuits group silent old earlier e

  origin_live : (more : List Entry) (origin : Origin) (c : List Literal) → EachOf By more old →
      IsGivenBy (live_formula all old) circuits group old (more ++ old) origin c
      → MatchesLiveOrigin all (more ++ old) (Given origin c)
  origin_live more (Gate v i) c each h = gate_of_any (live_formula all old) all (more ++ old) v i c h.matches_origin
  origin_live more (Fault j i leaf) c each h =
      let live = live_kept (live_formula all old) circuits group silent old more each in
      subst (λ o. IsOriginsClause (formula_by all o) (more ++ old) (Fault j i leaf) c) (sym live) h.matches_origin
  origin_live more _ c each h = let own = h.own in cc

  one_of : (c : List Literal) → (g : ℕ) × IsInGroup g c × ((g ≡ group) ⊎ (name_of old g ≡ None)) →
      IsInOneOf (group ∷ []) old c
  one_of c (g, inside, where_it_is) = (
    g,
    inside,
    elim where_it_is
        [ inl same ↦ inl (0, omega arith, sym same) | inr none ↦ inr none ],
  )

  added_live : (more : List Entry) (e : Entry) → EachOf By more old → By (more ++ old) e →
      IsAddedLive all circuits (group ∷ []) silent old (more ++ old) e
  added_live more (Named v n) each h = search arith
  added_live more (Given origin c) each h = search (arith, origin_live)
  added_live more (Learned c hints) each h = tt
  added_live more (Answer c hints) each h = λ s.
      let both = h s in
      let live = live_kept (live_formula all old) circuits group silent old more each in (
        (λ (d : DecidesLiveFalse (more ++ old) c hints). both.0 d.decides),
        (λ (d : DecidesLiveTrue all (more ++ old) c hints). both.1
            (subst (λ o. DecidesTrue (formula_by all o) (more ++ old) c hints) live d.decides)),
      )
  added_live more _ each h = absurd h

  all_live : (more : List Entry) → EachOf By more old → EachOf
      (IsAddedLive all circuits (group ∷ []) silent old) more old
  all_live [] each = tt
  all_live (e ∷ more) each = (added_live more e each.1 each.0, all_live more each.1)

pub circuits_live : CircuitsAddLive
circuits_live all group silent old new grew = search (arith, all_live)
