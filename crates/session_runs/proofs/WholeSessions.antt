-- What holds over the clauses so far holds over all that a script numbers.
use Rattle.std.proofs.Common.{◌≡◌, ℕ, List, ◌++◌, length, replicate, Some, sym, ◌∙◌, ap, subst, subst₂, arith}
use Rattle.std.proofs.lemmas.List.{length-append, length-replicate}
use Rattle.dq_lits.specs.Formula.{Dqbf}
use Rattle.hint_log.specs.Entries.{Entry}
use Rattle.hint_log.specs.Growth.{Each}
use Rattle.hint_log.specs.Live.{with_matrix, live_numbers}
use Rattle.hint_log.specs.ProductiveSession.{IsProductiveSession, IsUndecidedSince}
use Rattle.script_text.specs.Commands.{ScriptCommand}
use Rattle.dq_session.specs.Databases.{DatabaseState, all_of, frames_of}
use Rattle.session_runs.specs.Laws.{FollowingDatabasesStand}
use Rattle.session_runs.specs.LargerSessions.{IsOfSearch, SessionsTakeClauses, UndecidedTakesClauses}
use Rattle.session_runs.specs.Numbering.{all_clauses, all_frames}
use Rattle.session_runs.proofs.GrownSessions.{origins-more, rows-more, models-more}
use Rattle.session_runs.proofs.SessionInvariant.{clauses-come, frames-come}
use Rattle.session_runs.specs.Blocks.{Search}
use Rattle.session_runs.specs.SessionFiles.{IsWorkOver}
use Rattle.session_runs.specs.Followed.{IsFollowed}

module _ (stand : FollowingDatabasesStand) (f : Dqbf) (commands left : List ScriptCommand) (b : DatabaseState)
    (searches : List Search) (is : IsFollowed f commands left b searches) where
  so-far : all_of b ≡ with_matrix f is.numbering.clauses
  so-far = search arith

  all-is : is.numbering.clauses ++ (clauses-come is.numbering left).0 ≡ (all_clauses f commands).matrix
  all-is = sym (clauses-come is.numbering left).1 ∙ ap (λ n. n.clauses) is.rest

  frames-are : is.numbering.frames ++ (frames-come is.numbering left).0 ≡ all_frames f commands
  frames-are = sym (frames-come is.numbering left).1 ∙ ap (λ n. n.frames) is.rest

  one-each : length b.frames ≡ length b.added → length is.numbering.frames ≡ length is.numbering.clauses
  one-each many = search (arith, length-append, replicate, length-replicate)

  pub whole-session : SessionsTakeClauses → (entries : List Entry) → length b.frames ≡ length b.added
      → Each IsOfSearch entries → IsProductiveSession (all_of b) (frames_of b) entries
      → IsProductiveSession (all_clauses f commands) (all_frames f commands) entries
  whole-session law entries many within session =
      let here : IsProductiveSession (with_matrix f is.numbering.clauses) is.numbering.frames entries =
      subst₂ (λ all frames. IsProductiveSession all frames entries) so-far is.follows.frames session in
      subst₂ (λ m frames. IsProductiveSession (with_matrix f m) frames entries) all-is frames-are
      (law (with_matrix f is.numbering.clauses) is.numbering.frames (clauses-come is.numbering left).0
      (frames-come is.numbering left).0 entries (one-each many) within here)

  pub whole-work : (entries : List Entry) → Each IsOfSearch entries → IsWorkOver (all_of b) entries
      → IsWorkOver (all_clauses f commands) entries
  whole-work entries within work =
      let more = (clauses-come is.numbering left).0 in
      let all = with_matrix f is.numbering.clauses in
      let here : IsWorkOver (with_matrix f is.numbering.clauses) entries =
      subst (λ g. IsWorkOver g entries) so-far work in
      subst (λ m. IsWorkOver (with_matrix f m) entries) all-is
      (record {
        kept = record {
          origins = origins-more all more entries within here.kept.origins;
          new_rows = rows-more all more entries within here.kept.origins here.kept.new_rows;
          models = models-more all more entries within here.kept.origins here.kept.models;
          givens = here.kept.givens;
        };
        lemmas_are_derived = here.lemmas_are_derived;
        lemmas_are_new = here.lemmas_are_new;
      })

  pub whole-undecided : UndecidedTakesClauses → (entries : List Entry) (live : List ℕ)
      → IsProductiveSession (all_of b) (frames_of b) entries → live_numbers entries ≡ Some live
      → IsUndecidedSince (all_of b) entries → IsUndecidedSince (all_clauses f commands) entries
  whole-undecided law entries live session named undecided =
      subst (λ m. IsUndecidedSince (with_matrix f m) entries) all-is
      (law (with_matrix f is.numbering.clauses) (frames_of b) live (clauses-come is.numbering left).0 entries
      (subst (λ all. IsProductiveSession all (frames_of b) entries) so-far session) named
      (subst (λ all. IsUndecidedSince all entries) so-far undecided))
