-- What a search over a database's live instances shows.
use Rattle.std.specs.Prelude.{◌≡◌, ℕ, List, ◌∷◌}
use Rattle.std.specs.List.{Contains}
use Rattle.dq_lits.specs.Literal.{Literal}
use Rattle.hint_log.specs.Deciding.{ReachesGiven, DecidesFalse}
use Rattle.hint_log.specs.Entries.{Entry, Answer, last_id}
use Rattle.hint_log.specs.declared.origins.Origin.TheVariants.{Instance}
use Rattle.dq_session.specs.Databases.{DatabaseState, live_of}

-- the last entry is an answer that rests on instances of live clauses alone
pub record IsRefutedLive (b : DatabaseState) (entries : List Entry) (id : ℕ) : Type 0 where
  pub clause : List Literal
  pub hints : List ℕ
  pub earlier : List Entry
  pub answered : entries ≡ Answer clause hints ∷ earlier
  pub last : id ≡ last_id entries
  pub decides : DecidesFalse earlier clause hints
  pub live : (k j : ℕ) (c : List Literal) → ReachesGiven earlier hints (Instance k j) c
      → Contains (live_of b) j
