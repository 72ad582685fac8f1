-- A log before the first search.
use Rattle.std.proofs.Common.{◌≡◌, ◌∷◌, [], List, true, None, refl, sym, subst, arith}
use Rattle.dq_lits.specs.Formula.{Dqbf}
use Rattle.hint_log.specs.Entries.{Entry, Named, Given, Learned, Answer, Round, Begun, ProofLog, beginnings_of}
use Rattle.hint_log.specs.Growth.{Each, Grew}
use Rattle.hint_log.specs.Live.{live_numbers}
use Rattle.hint_log.specs.ProductiveLog.{MatchesOrigin, RefutesNewRow, FollowsModel, IsNotRepeated, IsProductiveLog}
use Rattle.hint_log.specs.declared.origins.Origin.TheVariants.{Fault}
use Rattle.log_laws.specs.Engines.{instances}
use Rattle.log_laws.specs.Sessions.{IsAddedLive}
use Rattle.log_laws.proofs.LargerLogs.{each_grown}
use Rattle.oracle.specs.Searched.{IsSearched}
use Rattle.dq_session.specs.Databases.{DatabaseState, IsDatabase}
use Rattle.dq_session.specs.Changes.{begun}
use Rattle.repair_loop.specs.SearchStates.{IsFirstDatabase}

module _ (f : Dqbf) (old : List Entry) where
  abbrev Added : List Entry → Entry → Type 0
  Added earlier e = IsAddedLive f instances [] true old earlier e

  right : (es : List Entry) (e : Entry) → Added es e → MatchesOrigin f es e
  right es (Named v n) h = h.rightly
  right es (Given (Fault j i leaf) c) h = let own = h.own in cc
  right es (Learned c hints) h = tt
  right es (Answer c hints) h = tt
  right es (Given _ c) h = h.matches_origin
  right es _ h = absurd h

  no-row : (es : List Entry) (e : Entry) → Added es e → RefutesNewRow f es e
  no-row es (Round row values j) h = absurd h
  no-row es (Begun live) h = absurd h
  no-row es _ h = tt

  no-model : (es : List Entry) (e : Entry) → Added es e → FollowsModel f es e
  no-model es (Round row values j) h = absurd h
  no-model es (Begun live) h = absurd h
  no-model es _ h = tt

  first-given : (es : List Entry) (e : Entry) → Added es e → IsNotRepeated es e
  first-given es (Given o c) h = h.not_repeated
  first-given es (Round row values j) h = absurd h
  first-given es (Begun live) h = absurd h
  first-given es _ h = tt

-- a database's beginning is productive work
pub first-productive : (f : Dqbf) (old new : ProofLog) → old.entries ≡ []
    → Grew (IsAddedLive f instances [] true old.entries) old new → IsSearched new.entries
    → IsProductiveLog f new.entries
first-productive f old new empty grew searched =
    let P = IsAddedLive f instances [] true old.entries in
    let grown : (Q : List Entry → Entry → Type 0) → ((es : List Entry) (e : Entry) → P es e → Q es e)
    → Each Q new.entries =
    λ Q step. subst (Each Q) (sym grew.grown)
    (each_grown P Q step grew.more old.entries grew.each (subst (Each Q) (sym empty) tt)) in
    record {
      givens_match_origins = grown (MatchesOrigin f) (right f old.entries);
      lemmas_are_derived = searched.derived;
      lemmas_are_new = searched.new;
      rounds_refute_new_rows = grown (RefutesNewRow f) (no-row f old.entries);
      rounds_follow_a_model = grown (FollowsModel f) (no-model f old.entries);
      givens_are_not_repeated = grown IsNotRepeated (first-given f old.entries);
    }

-- where no clauses are live, no search began
pub none-begun-yet : (es : List Entry) → live_numbers es ≡ None → beginnings_of es ≡ 0
none-begun-yet [] none = refl
none-begun-yet (Begun live ∷ es) none = cc
none-begun-yet (_ ∷ es) none = none-begun-yet es none

pub first-database : (f : Dqbf) (old new : ProofLog) (b : DatabaseState) → old.entries ≡ []
    → Grew (IsAddedLive f instances [] true old.entries) old new → b ≡ begun f b.table → b.table.rows ≡ []
    → IsDatabase b new.entries → IsFirstDatabase f b new.entries
first-database f old new b empty grew begun-is no-rows database = search arith
