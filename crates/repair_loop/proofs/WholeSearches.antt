-- Where each search is about all clauses, a session's points are those of a log for one formula.
use Rattle.std.proofs.Common.{◌≡◌, ℕ, Bool, true, List, [], ◌∷◌, None, refl, sym, ◌∙◌, ap, subst, arith}
use Rattle.dq_lits.specs.Formula.{Dqbf}
use Rattle.dq_lits.specs.Literal.{Literal}
use Rattle.hint_log.specs.Deciding.{IsUndecided}
use Rattle.hint_log.specs.Entries.{Entry, Named, Given, Begun, ProofLog}
use Rattle.hint_log.specs.Growth.{Each, Grew}
use Rattle.hint_log.specs.Live.{live_numbers, live_formula, formula_of}
use Rattle.hint_log.specs.ProductiveLog.{MatchesOrigin, RefutesNewRow, FollowsModel, IsNotRepeated, IsProductiveLog}
use Rattle.hint_log.specs.ProductiveSession.{MatchesLiveOrigin, RefutesNewLiveRow, FollowsLiveModel, IsUndecidedSince}
use Rattle.hint_log.specs.declared.origins.Origin.{Origin}
use Rattle.hint_log.specs.declared.origins.Origin.TheVariants.{Fault}
use Rattle.log_laws.specs.Engines.{Engine, EnginesLeaveRest, IsAddedBy, instances}
use Rattle.log_laws.specs.Sessions.{EnginesLeaveSessions, PlainLogsAreSessions, IsAddedLive}
use Rattle.oracle.specs.Searched.{IsSearched}
use Rattle.dq_session.specs.Databases.{DatabaseState}
use Rattle.repair_loop.specs.SearchStates.{IsKept, IsFirstDatabase}

-- a search that begins is about all clauses
abbrev pub IsWhole : Dqbf → List Entry → Entry → Type 0
IsWhole f earlier (Begun live) = formula_of f live ≡ f
IsWhole f earlier _ = Unit {0}

-- the points that the engines and the loop keep, for one formula
pub record IsPlain (f : Dqbf) (entries : List Entry) : Type 0 where
  pub origins : Each (MatchesOrigin f) entries
  pub new_rows : Each (RefutesNewRow f) entries
  pub models : Each (FollowsModel f) entries
  pub givens : Each IsNotRepeated entries

pub whole_formula : (f : Dqbf) (es : List Entry) → Each (IsWhole f) es → live_formula f es ≡ f
whole_formula f [] whole = refl
whole_formula f (Begun live ∷ es) whole = whole.0
whole_formula f (_ ∷ es) whole = whole_formula f es whole.1

plain_given : (f : Dqbf) (earlier : List Entry) (origin : Origin) (c : List Literal) → Each (IsWhole f) earlier →
    MatchesLiveOrigin f earlier (Given origin c) → MatchesOrigin f earlier (Given origin c)
plain_given f earlier (Fault j i leaf) c whole is = search (arith, whole_formula)
plain_given f earlier _ c whole is = is

plain_origins : (f : Dqbf) (es : List Entry) → Each (IsWhole f) es → Each (MatchesLiveOrigin f) es →
    Each (MatchesOrigin f) es
plain_origins f [] whole each = tt
plain_origins f (Named v n ∷ es) whole each = (each.0, plain_origins f es whole.1 each.1)
plain_origins f (Given origin c ∷ es) whole each = search (arith, plain_given, (plain_origins f es whole.1 each.1))
plain_origins f (_ ∷ es) whole each = (tt, plain_origins f es whole.1 each.1)

plain_rows : (f : Dqbf) (es : List Entry) → Each (IsWhole f) es → Each (RefutesNewLiveRow f) es →
    Each (RefutesNewRow f) es
plain_rows f [] whole each = tt
plain_rows f (e ∷ es) whole each = search (arith, whole_formula, (plain_rows f es whole.1 each.1))

plain_models : (f : Dqbf) (es : List Entry) → Each (IsWhole f) es → Each (FollowsLiveModel f) es →
    Each (FollowsModel f) es
plain_models f [] whole each = tt
plain_models f (e ∷ es) whole each = search (arith, whole_formula, (plain_models f es whole.1 each.1))

pub plainly : (f : Dqbf) (es : List Entry) → Each (IsWhole f) es → IsKept f es → IsPlain f es
plainly f es whole kept = search (arith, plain_origins, plain_rows, plain_models)

-- with what the solver keeps of its log, the log is productive
pub productive : (f : Dqbf) (entries : List Entry) → IsPlain f entries → IsSearched entries → IsProductiveLog f entries
productive f entries kept searched = record {
  givens_match_origins = kept.origins;
  lemmas_are_derived = searched.derived;
  lemmas_are_new = searched.new;
  rounds_refute_new_rows = kept.new_rows;
  rounds_follow_a_model = kept.models;
  givens_are_not_repeated = kept.givens;
}

-- no search began
pub none_whole : (f : Dqbf) (es : List Entry) → live_numbers es ≡ None → Each (IsWhole f) es
none_whole f [] none = tt
none_whole f (Begun live ∷ es) none = cc
none_whole f (_ ∷ es) none = (tt, none_whole f es none)

pub still_plain : EnginesLeaveRest → (f : Dqbf) (engine : Engine) (group : ℕ) (silent : Bool) (old new : ProofLog) →
    Grew (IsAddedBy f engine group silent old.entries) old new → IsPlain f old.entries → IsPlain f new.entries
still_plain law f engine group silent old new grew kept =
    let left = law f engine group silent old new grew in
    record {
      origins = left.origins kept.origins;
      new_rows = left.new_rows kept.new_rows;
      models = left.models kept.models;
      givens = left.givens kept.givens;
    }

-- a file's database alone
pub record IsFirstLog (f : Dqbf) (entries : List Entry) : Type 0 where
  pub none : live_numbers entries ≡ None
  pub kept : IsKept f entries
  pub plain : IsPlain f entries
  pub undecided : IsUndecided f entries

-- what a file's database adds to an empty log
pub alone_log : EnginesLeaveSessions → PlainLogsAreSessions → (f : Dqbf) (before after : ProofLog) →
    before.entries ≡ [] → Grew (IsAddedLive f instances [] true before.entries) before after →
    IsFirstLog f after.entries
alone_log law plain f before after empty grew =
    let left = law f instances [] true before after grew in
    let none : live_numbers after.entries ≡ None = left.live ∙ ap live_numbers empty in
    let kept : IsKept f after.entries = search arith in
    let since = left.decisions refl (subst (IsUndecidedSince f) (sym empty) tt) in
    record {
      none = none;
      kept = kept;
      plain = plainly f after.entries (none_whole f after.entries none) kept;
      undecided = (plain f [] after.entries none).2.1 since;
    }

pub first_log : EnginesLeaveSessions → PlainLogsAreSessions → (f : Dqbf) (b : DatabaseState) (es : List Entry) →
    IsFirstDatabase f b es → IsFirstLog f es
first_log law plain f b es first =
    subst (IsFirstLog f) first.entries_are (alone_log law plain f first.before first.after first.empty first.alone)
