-- A clause that is added to a database.
use Rattle.std.proofs.Common.{◌≡◌, ℕ, zero, suc, ◌+◌, ◌-◌, ◌≤◌, ◌<◌, ◌⊎◌, inl, inr, Bool, false, List, [], ◌∷◌, ◌++◌, length, replicate, slice_get, get_or, Some, refl, sym, ◌∙◌, ap, subst, arith, append_assoc}
use Rattle.std.specs.List.{All, Contains, list_any}
use Rattle.std.proofs.lemmas.Bool.{cases_lt}
use Rattle.std.proofs.lemmas.List.{length-append, length-replicate, get_or_append_left}
use Rattle.std.proofs.lemmas.List.Elements.{All-append, All-cons, All-nil}
use Rattle.std.proofs.lemmas.Option.{slice_get_within}
use Rattle.list_laws.proofs.Elements.{old_or_last, kept_there}
use Rattle.dq_lits.specs.Literal.{Literal, variable_of}
use Rattle.dq_lits.specs.Formula.{declared}
use Rattle.dq_lits.specs.Expansion.{universal_literal_true}
use Rattle.hint_log.specs.Entries.{Entry}
use Rattle.hint_log.specs.Naming.{numbered_from_one}
use Rattle.hint_log.specs.ProductiveSession.{frame_of}
use Rattle.hint_log.proofs.NamedEntries.{numbered_low}
use Rattle.log_laws.specs.Engines.{instances, part}
use Rattle.oracle.specs.declared.groups.Group.{Group}
use Rattle.expansion.specs.Table.{HasInstance}
use Rattle.dq_session.specs.Databases.{DatabaseState, frames_of, number_at, frame_at, given_at, HasGroup, number_of, IsDatabase}
use Rattle.dq_session.specs.Changes.{newest, with_clause}
use Rattle.dq_session.specs.Changing.{ClausesCome}
use Rattle.dq_session.proofs.GrownDatabases.{IsGrown, entries_same}
use Rattle.dq_session.proofs.Stacks.{clause_added, same_frame}

pub numbered_more : (xs ys : List (List Literal)) (j : ℕ) (c : List Literal) → numbered_from_one xs j ≡ Some c →
    numbered_from_one (xs ++ ys) j ≡ Some c
numbered_more xs ys zero c is = cc
numbered_more xs ys (suc i) c is = kept_there xs ys i c is

zero_behind : (xs : List ℕ) (p : ℕ) → length xs ≤ p → get_or (xs ++ 0 ∷ []) p 0 ≡ 0
zero_behind [] zero past = refl
zero_behind [] (suc p) past = refl
zero_behind (x ∷ xs) zero past = absurd (omega (arith, past))
zero_behind (x ∷ xs) (suc p) past = zero_behind xs p (omega (arith, past))

module _ (b : DatabaseState) (clause : List Literal) (entries : List Entry) (some_open : 1 ≤ length b.open_frames)
    (bound : All (λ l. Contains (declared b.file) (variable_of l)) clause) (database : IsDatabase b entries) where
  abbrev after : DatabaseState
  after = with_clause b clause

  abbrev matrix : List (List Literal)
  matrix = b.file.matrix

  longer : matrix ++ (b.added ++ clause ∷ []) ≡ (matrix ++ b.added) ++ clause ∷ []
  longer = sym (append_assoc matrix b.added (clause ∷ []))

  abbrev zeros : List ℕ
  zeros = replicate (length matrix) 0

  many : length (zeros ++ b.frames) ≡ length (matrix ++ b.added)
  many =
      let left = length-append zeros b.frames in
      let right = length-append matrix b.added in
      let none = length-replicate {A = ℕ} (length matrix) 0 in
      let same = database.stack.many_frames in
      omega (arith, left, right, none, same)

  frame_stays : (j : ℕ) (c : List Literal) → numbered_from_one (matrix ++ b.added) j ≡ Some c →
      frame_of (frames_of after) j ≡ frame_of (frames_of b) j
  frame_stays j c is =
      let inside = numbered_low (matrix ++ b.added) j c is in
      let few = many in
      let low = inside.0 in
      let high = inside.1 in
      ap (λ fs. get_or fs (j - 1) 0) (sym (append_assoc zeros b.frames ((newest b).number ∷ [])))
      ∙ get_or_append_left (zeros ++ b.frames) ((newest b).number ∷ []) 0 (j - 1) (omega (arith, low, high, few))

  given_stays : (place : ℕ) → place < length b.added → given_at after place ≡ given_at b place
  given_stays place below = search (arith, get_or_append_left)

  grown : IsGrown b b.table after.added after.frames after.given b.groups b.open_frames after.live
  grown = record {
    table_group = refl;
    clauses = λ j c is. subst (λ m. numbered_from_one m j ≡ Some c) (sym longer)
        (numbered_more (matrix ++ b.added) (clause ∷ []) j c is);
    same_frames = frame_stays;
    more_given = λ place c is. let inside = numbered_low (matrix ++ b.added) (number_at b place) c is in
        let high = inside.1 in let long = length-append matrix b.added in
        let same = given_stays place (omega (arith, high, long)) in omega (arith, same);
    kept_groups = λ frame g has. has;
  }

  done : (place : ℕ) → given_at after place ≤ length b.table.rows
  done place = by (cases_lt place (length b.given))
    where
      by : (place < length b.given) ⊎ (length b.given ≤ place) → given_at after place ≤ length b.table.rows
      by (inl below) =
          let same = get_or_append_left b.given (0 ∷ []) 0 place below in
          let before = database.done place in
          omega (arith, same, before)
      by (inr past) = let none = zero_behind b.given place past in omega (arith, none)

  pub clause_database : IsDatabase after entries
  clause_database = record {
    well_formed = record {
      prefix = search arith;
      bound = subst (All (All (λ l. Contains (declared b.file) (variable_of l)))) (sym longer)
          (All-append (All (λ l. Contains (declared b.file) (variable_of l))) (matrix ++ b.added) (clause ∷ [])
          database.well_formed.bound (All-cons (All (λ l. Contains (declared b.file) (variable_of l))) clause [] bound
          (All-nil (All (λ l. Contains (declared b.file) (variable_of l))))));
    };
    stack = clause_added b clause database.stack some_open;
    table = database.table;
    groups = search arith;
    givens = entries_same b b.table after.added after.frames after.given b.groups b.open_frames after.live grown
        (λ frame g has. has) entries database.givens;
    done = done;
    instances = λ k place row c row_is c_is less live. instance k place row c row_is
        (old_or_last b.added clause c place c_is) less live;
  }
    where
      instance : (k place : ℕ) (row : List Bool) (c : List Literal) → slice_get b.table.rows k ≡ Some row
          → (slice_get b.added place ≡ Some c) ⊎ ((place ≡ length b.added) × (clause ≡ c))
          → k < given_at after place → list_any (universal_literal_true b.file row) c ≡ false
          → (g : Group) × HasGroup b (frame_at after place) g
          × HasInstance b.file (number_of g) b.table.rows (part instances entries) k (length matrix + place) row c
      instance k place row c row_is (inl c_is) less live =
          let below = slice_get_within b.added place c c_is in
          let same = given_stays place below in
          let r = database.instances k place row c row_is c_is (omega (arith, less, same)) live in
          (r.0, subst (λ f. HasGroup b f r.0) (sym (same_frame b clause database.stack some_open place below)) r.1, r.2)
      instance k place row c row_is (inr (here, same)) less live = search (arith, zero_behind)

pub clauses_come : ClausesCome
clauses_come b clause entries some_open bound database = clause_database b clause entries some_open bound database
