-- The points of a search over the groups of open frames.
use Rattle.std.proofs.Common.{◌≡◌, ℕ, zero, suc, ◌+◌, ◌-◌, ◌≤◌, ◌<◌, ◌⊎◌, inl, inr, Bool, true, false, not, ◌||◌, cond, List, [], ◌∷◌, ◌++◌, map, length, slice_get, slice_index_or, Option, Some, None, refl, sym, ◌∙◌, ap, subst, arith}
use Rattle.std.specs.List.{All, Contains, list_any, filter_map}
use Rattle.std.specs.Option.{option_map}
use Rattle.std.proofs.lemmas.List.{get_or_default}
use Rattle.std.proofs.lemmas.List.Elements.{All-contains}
use Rattle.std.proofs.lemmas.Option.{slice_get-get_or, slice_get_within, get_or_from_slice_get, slice_get-map}
use Rattle.list_laws.proofs.Members.{contains_map, contains-filter_map, filter_map-from, element_at}
use Rattle.dq_lits.specs.Literal.{Literal, Assignment, positive, negative, variable_of, literal_true, clause_true}
use Rattle.dq_lits.specs.Derivation.{MakesTrue}
use Rattle.dq_lits.specs.Row.{assignment_of}
use Rattle.dq_lits.specs.Formula.{Dqbf, declared, IsWellFormed}
use Rattle.dq_lits.specs.Expansion.{universal_literal_true, pair_literal, InstanceHolds, IsExpansionModel, pair_number}
use Rattle.dq_lits.proofs.TrueClauses.{positive_true}
use Rattle.hint_log.specs.Conditions.{AreLogged}
use Rattle.hint_log.specs.Entries.{Entry, Given, Learned, Answer, clause_at}
use Rattle.hint_log.specs.Growth.{EachOf}
use Rattle.hint_log.specs.Naming.{numbered_from_one, rows_of}
use Rattle.hint_log.specs.declared.origins.Origin.TheVariants.{Instance}
use Rattle.log_laws.specs.Engines.{instances, part}
use Rattle.log_laws.proofs.Found.{numbered_among}
use Rattle.oracle.specs.declared.groups.Group.{Group}
use Rattle.expansion.specs.Searches.{switches, IsSearchEntry}
use Rattle.expansion.specs.Table.{HasInstance, ArePoints}
use Rattle.expansion.proofs.InstanceModels.{own_entry, pair_values}
use Rattle.expansion.proofs.FoundPoints.{by_names, row_bits}
use Rattle.expansion.proofs.TableAnswers.{found_rows}
use Rattle.dq_session.specs.Databases.{DatabaseState, all_of, live_of, now_of, number_at, frame_at, HasGroup, number_of, IsOpen, IsDatabase}
use Rattle.dq_session.specs.Changes.{open_groups}
use Rattle.dq_session.specs.Giving.{IsWhole}
use Rattle.dq_session.specs.Searching.{SearchesLeaveDatabases, FoundPointsAreLive}
use Rattle.dq_session.specs.declared.live.Live.{Live}
use Rattle.dq_session.proofs.PreservedDatabases.{IsForeign, databases_stand}
use Rattle.dq_session.proofs.Stacks.{live_at}
use Rattle.log_laws.proofs.Kept.{given_id}

pub left_of : {X : Type 0} (xs ys : List X) (i : ℕ) (x : X) → i < length xs → slice_get (xs ++ ys) i ≡ Some x →
    slice_get xs i ≡ Some x
left_of [] ys i x below is = absurd (omega (arith, below))
left_of (z ∷ xs) ys zero x below is = is
left_of (z ∷ xs) ys (suc i) x below is = left_of xs ys i x (omega (arith, below)) is

right_of : {X : Type 0} (xs ys : List X) (i p : ℕ) (x : X) → i ≡ length xs + p → slice_get (xs ++ ys) i ≡ Some x →
    slice_get ys p ≡ Some x
right_of [] ys i p x same is = subst (λ q. slice_get ys q ≡ Some x) (omega (arith, same)) is
right_of (z ∷ xs) ys zero p x same is = absurd (omega (arith, same))
right_of (z ∷ xs) ys (suc i) p x same is = right_of xs ys i p x (omega (arith, same)) is

file_clause : (xs ys : List (List Literal)) (j : ℕ) (c : List Literal) → numbered_from_one (xs ++ ys) j ≡ Some c →
    j ≤ length xs → slice_get xs (j - 1) ≡ Some c
file_clause xs ys zero c is few = cc
file_clause xs ys (suc i) c is few =
    let back : suc i - 1 ≡ i = omega arith in
    subst (λ n. slice_get xs n ≡ Some c) (sym back) (left_of xs ys i c (omega (arith, few)) is)

added_clause : (xs ys : List (List Literal)) (j p : ℕ) (c : List Literal) → numbered_from_one (xs ++ ys) j ≡ Some c →
    j ≡ length xs + p + 1 → slice_get ys p ≡ Some c
added_clause xs ys zero p c is same = cc
added_clause xs ys (suc i) p c is same = right_of xs ys i p c (omega (arith, same)) is

module _ (b : DatabaseState) (es : List Entry) (database : IsDatabase b es) (whole : IsWhole b) (logged : AreLogged es)
    (values : Assignment) (clauses : MakesTrue values (clause_at es)) (table_on : values b.table.group ≡ true)
    (frames_on : (frame : ℕ) (g : Group) → IsOpen b frame → HasGroup b frame g → values (number_of g) ≡ true) where
  abbrev now : Dqbf
  now = now_of b

  abbrev rows : List (List Bool)
  rows = b.table.rows

  abbrev own : List Entry
  own = part instances es

  abbrev model : Assignment
  model = pair_values values es now.variables

  formula : IsWellFormed now
  formula = record {
    prefix = record {
      in_range = database.well_formed.prefix.in_range;
      declared_once = database.well_formed.prefix.declared_once;
      sees_universals = database.well_formed.prefix.sees_universals;
    };
    bound = λ k d below.
        let c = slice_index_or now.matrix k d in
        let p = filter_map-from (numbered_from_one (all_of b).matrix) (live_of b) c
        (k, below, get_or_default now.matrix k c d below) in
        All-contains (All (λ l. Contains (declared b.file) (variable_of l))) (all_of b).matrix c database.well_formed.bound
        (numbered_among (all_of b).matrix p.0 c p.2);
  }

  instance_true : (g k j : ℕ) (row : List Bool) (clause : List Literal) → HasInstance b.file g rows own k j row clause →
      values g ≡ true → clause_true model (filter_map (pair_literal now rows row) clause) ≡ true
  instance_true g k j row clause h active =
      let id = given_id es (Instance (k + 1) (j + 1)) (negative g ∷ h.rest)
      (own_entry instances es (Given (Instance (k + 1) (j + 1)) (negative g ∷ h.rest)) h.given) in
      let held = clauses id.0 (negative g ∷ h.rest) id.1 in
      let rest : clause_true values h.rest ≡ true = ap (λ t. not t || clause_true values h.rest) (sym active) ∙ held in
      sym (by_names now formula es logged rows values row clause h.rest h.named) ∙ rest

  live_true : (k : ℕ) (row : List Bool) (clause : List Literal) → slice_get rows k ≡ Some row →
      Contains now.matrix clause → list_any (universal_literal_true now row) clause ≡ false
      → clause_true model (filter_map (pair_literal now rows row) clause) ≡ true
  live_true k row clause row_is has open_row =
      let p = filter_map-from (numbered_from_one (all_of b).matrix) (live_of b) clause has in
      let at = live_at b.live p.0 p.1 in
      by p.0 at.1 p.1 p.2 at.3 (database.stack.frames at.1 (element_at b.live at.0 at.1 at.2))
    where
      by : (j : ℕ) (l : Live) → Contains (live_of b) j → numbered_from_one (all_of b).matrix j ≡ Some clause →
          l.clause ≡ j → ((1 ≤ l.clause) × (l.clause ≤ length b.file.matrix) × (l.frame ≡ 0))
          ⊎ ((place : ℕ) × (l.clause ≡ number_at b place) × (place < length b.added)
          × (l.frame ≡ frame_at b place) × IsOpen b l.frame)
          → clause_true model (filter_map (pair_literal now rows row) clause) ≡ true
      by j l live at is (inl (one, few, zero_is)) =
          instance_true b.table.group k (j - 1) row clause (database.table.own.complete k (j - 1) row clause row_is
          (file_clause b.file.matrix b.added j clause at (omega (arith, few, is))) open_row) table_on
      by j l live at is (inr (place, number, below, frame, is_open)) =
          let same : j ≡ number_at b place = sym is ∙ number in
          let done = whole place below (subst (Contains (live_of b)) same live) in
          let inside = slice_get_within rows k row row_is in
          let r = database.instances k place row clause row_is (added_clause b.file.matrix b.added j place clause at same)
          (omega (arith, done, inside)) open_row in
          instance_true (number_of r.0) k (length b.file.matrix + place) row clause r.2
          (frames_on (frame_at b place) r.0 (subst (IsOpen b) frame is_open) r.1)

  pub all_hold : IsExpansionModel now rows model
  all_hold k d below j c below_j =
      let row = slice_index_or rows k d in
      let clause = slice_index_or now.matrix j c in
      by_bit row clause (list_any (universal_literal_true now row) clause) refl (slice_get-get_or rows k d below)
      (j, below_j, get_or_default now.matrix j clause c below_j)
    where
      by_bit : (row : List Bool) (clause : List Literal) (t : Bool) → list_any (universal_literal_true now row) clause ≡ t
          → slice_get rows k ≡ Some row → Contains now.matrix clause
          → InstanceHolds model (cond t None (Some (filter_map (pair_literal now rows row) clause)))
      by_bit row clause true is row_is has = tt
      by_bit row clause false is row_is has = live_true k row clause row_is has is

  pub live_points : (variables : List ℕ) (bits : List (List Bool)) → variables ≡ b.table.existentials →
      bits ≡ map (map values) b.table.pairs
      → ArePoints now rows (λ k y. assignment_of variables (slice_index_or bits (k - 1) []) y)
  live_points variables bits variables_are bits_are = record {
    model = model;
    holds_there = all_hold;
    bits = λ k row row_is. at k row row_is (slice_get b.table.pairs k) refl;
  }
    where
      no_pairs : (k : ℕ) (row : List Bool) → slice_get rows k ≡ Some row → slice_get b.table.pairs k ≡ None → ⊥
      no_pairs k row row_is none =
          let below = slice_get_within rows k row row_is in
          let long = database.table.own.pairs_long in
          let there = slice_get-get_or b.table.pairs k [] (omega (arith, below, long)) in cc

      at : (k : ℕ) (row : List Bool) → slice_get rows k ≡ Some row → (o : Option (List ℕ)) →
          slice_get b.table.pairs k ≡ o
          → All (λ y. assignment_of variables (slice_index_or bits (k + 1 - 1) []) y.variable
          ≡ model (pair_number now rows row y)) now.existentials
      at k row row_is None pairs_are = absurd (no_pairs k row row_is pairs_are)
      at k row row_is (Some vs) pairs_are =
          let back : k + 1 - 1 ≡ k = omega arith in
          let here : slice_get bits k ≡ Some (map values vs) =
          ap (λ bs. slice_get bs k) bits_are ∙ slice_get-map (map values) b.table.pairs k
          ∙ ap (option_map (map values)) pairs_are in
          let below = slice_get_within bits k (map values vs) here in
          let is : slice_index_or bits (k + 1 - 1) [] ≡ map values vs =
          ap (λ n. slice_index_or bits n []) back ∙ get_or_from_slice_get bits k (map values vs) [] here in
          rw is (row_bits now formula es logged rows values row variables vs
          (variables_are ∙ database.table.existentials) (database.table.own.arbiters k row vs row_is pairs_are))

pub open_group : (b : DatabaseState) (frame : ℕ) (g : Group) → IsOpen b frame → HasGroup b frame g →
    Contains (open_groups b) g
open_group b frame g (o, has, is) group_is =
    contains-filter_map (λ x. slice_index_or b.groups x.number None) b.open_frames o g has
    (ap (λ n. slice_index_or b.groups n None) is ∙ get_or_from_slice_get b.groups frame (Some g) None group_is)

pub found_live : FoundPointsAreLive
found_live b es points database whole logged found =
    let on : (l : Literal) → Contains (switches b.table (open_groups b)) l → literal_true found.values l ≡ true =
    λ l has. All-contains (λ x. literal_true found.values x ≡ true) (switches b.table (open_groups b)) l
    found.model.assumptions_true has in
    live_points b es database whole logged found.values found.model.clauses
    (on (positive b.table.group) (0, omega arith, refl))
    (λ frame g is_open has.
    let r = contains_map (λ (x : Group). x.selector) (open_groups b) g (open_group b frame g is_open has) in
    let less = r.1 in
    positive_true found.values g.selector (database.groups.made frame g has).positive
    (on g.selector (suc r.0, omega (arith, less), r.2)))
    points.variables points.rows found.variables found.bits

foreign : (b : DatabaseState) (silent : Bool) (more old : List Entry) → EachOf (IsSearchEntry silent) more old →
    EachOf (IsForeign b) more old
foreign b silent [] old each = tt
foreign b silent (Learned c hs ∷ more) old each = (tt, foreign b silent more old each.1)
foreign b silent (Answer c hs ∷ more) old each = (tt, foreign b silent more old each.1)
foreign b silent (_ ∷ more) old each = absurd each.0

pub databases_searched : SearchesLeaveDatabases
databases_searched b silent old new grew =
    let stands : IsDatabase b old.entries → IsDatabase b new.entries = λ database. subst (IsDatabase b) (sym grew.grown)
    (databases_stand b grew.more old.entries (foreign b silent grew.more old.entries grew.each) database) in (
      stands,
      (λ full. record {
        database = stands full.database;
        rows = ap rows_of grew.grown ∙ found_rows silent grew.more old.entries grew.each ∙ full.rows;
      }),
    )
