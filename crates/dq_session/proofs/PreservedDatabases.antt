-- A database stands where others add to the log.
use Rattle.std.proofs.Common.{◌≡◌, ◌≢◌, ℕ, zero, suc, Bool, false, true≢false, cond, ◌⊎◌, inl, inr, List, [], ◌∷◌, ◌++◌, slice_get, Option, Some, None, refl, sym, ◌∙◌, ap, subst, arith}
use Rattle.std.specs.List.{Contains, filter_map, cons_option}
use Rattle.std.specs.Option.{option_map}
use Rattle.std.proofs.lemmas.Bool.{eqb-true}
use Rattle.dq_lits.specs.Literal.{Literal}
use Rattle.dq_lits.specs.Formula.{Dqbf}
use Rattle.hint_log.specs.Entries.{Entry, Named, Given, Learned, Answer, Round, Begun, name_of}
use Rattle.hint_log.specs.Growth.{EachOf}
use Rattle.hint_log.specs.Naming.{rows_of}
use Rattle.hint_log.specs.declared.names.Name.{Name}
use Rattle.hint_log.specs.declared.names.Name.TheVariants.{Selector}
use Rattle.hint_log.specs.declared.origins.Origin.TheVariants.{Instance}
use Rattle.log_laws.specs.Engines.{Engine, instances, same_engine, origin_engine, name_engine, is_engine, part, IsInGroup, IsOwnGiven}
use Rattle.log_laws.specs.Sessions.{IsAddedLive}
use Rattle.oracle.specs.declared.groups.Group.{Group}
use Rattle.dq_session.specs.Databases.{DatabaseState, HasGroup, number_of, IsInNoFrame, IsDatabaseEntry, HasDoneInstances, IsDatabase}
use Rattle.dq_session.specs.Changes.{groups_of}
use Rattle.dq_session.specs.Preservation.{EnginesLeaveDatabases, RoundsLeaveDatabases, BeginningsLeaveDatabases}
use Rattle.log_laws.proofs.Kept.{in_one_group}

-- what is none of the database's business: names, clauses off its groups, and all that is no given
-- clause
abbrev pub IsForeign : DatabaseState → List Entry → Entry → Type 0
IsForeign b earlier (Named v n) = (name_of earlier v ≡ None) × (is_engine instances (name_engine n) ≡ false)
IsForeign b earlier (Given origin c) =
    (same_engine instances (origin_engine origin) ≡ false) × IsInNoFrame b c × (IsInGroup b.table.group c → ⊥)
IsForeign b earlier e = Unit {0}

part_same : (b : DatabaseState) (e : Entry) (es : List Entry) → IsForeign b es e →
    part instances (e ∷ es) ≡ part instances es
part_same b (Named v n) es f = ap (λ t. cond t (Named v n ∷ part instances es) (part instances es)) f.1
part_same b (Given o c) es f = ap (λ t. cond t (Given o c ∷ part instances es) (part instances es)) f.0
part_same b _ es f = refl

pub name_more : (es : List Entry) (w : ℕ) (n : Name) (v : ℕ) (m : Name) → name_of es w ≡ None →
    name_of es v ≡ Some m → name_of (Named w n ∷ es) v ≡ Some m
name_more es w n v m none is = search (arith, eqb-true)

names_stay : (b : DatabaseState) (e : Entry) (es : List Entry) → IsForeign b es e → (v : ℕ) (m : Name) →
    name_of es v ≡ Some m → name_of (e ∷ es) v ≡ Some m
names_stay b (Named w n) es f v m is = name_more es w n v m f.0 is
names_stay b _ es f v m is = is

own_given : (b : DatabaseState) (e : Entry) (es : List Entry) → IsForeign b es e →
    IsOwnGiven b.file instances b.table.group es e
own_given b (Given o c) es f = λ inside. absurd (f.2 inside)
own_given b _ es f = tt

database_entry : (b : DatabaseState) (e : Entry) (es : List Entry) → IsForeign b es e → IsDatabaseEntry b es e
database_entry b (Given (Instance k j) c) es f = absurd (true≢false f.0)
database_entry b (Given _ c) es f = f.1
database_entry b _ es f = tt

pub database_stands : (b : DatabaseState) (e : Entry) (es : List Entry) → IsForeign b es e → IsDatabase b es → IsDatabase b (e ∷ es)
database_stands b e es f database = record {
  well_formed = database.well_formed;
  stack = database.stack;
  table = search (arith, names_stay, own_given, part_same);
  groups = record {
    made = λ frame g has. record {
      positive = (database.groups.made frame g has).positive;
      named = names_stay b e es f (number_of g) (Selector (number_of g)) (database.groups.made frame g has).named;
    };
    none_of_file = database.groups.none_of_file;
    apart = database.groups.apart;
    off_table = database.groups.off_table;
  };
  givens = (database_entry b e es f, database.givens);
  done = database.done;
  instances = subst (HasDoneInstances b) (sym (part_same b e es f)) database.instances;
}

pub databases_stand : (b : DatabaseState) (more old : List Entry) → EachOf (IsForeign b) more old → IsDatabase b old →
    IsDatabase b (more ++ old)
databases_stand b [] old each database = database
databases_stand b (e ∷ more) old each database = database_stands b e (more ++ old) each.0 (databases_stand b more old each.1 database)

-- other engines
other_engine : (engine : Engine) → same_engine engine instances ≡ false → same_engine instances engine ≡ false
other_engine instances e = e
other_engine _ e = refl

not_own_name : (engine : Engine) (o : Option Engine) → same_engine engine instances ≡ false →
    (o ≡ None) ⊎ (o ≡ Some engine) → is_engine instances o ≡ false
not_own_name engine o other (inl none) = ap (is_engine instances) none
not_own_name engine o other (inr some) = ap (is_engine instances) some ∙ other_engine engine other

pub contains_group : (groups : List (Option Group)) (frame : ℕ) (g : Group) → slice_get groups frame ≡ Some (Some g) →
    Contains (filter_map (option_map number_of) groups) (number_of g)
contains_group [] frame g is = cc
contains_group (o ∷ groups) zero g is = search arith
contains_group (o ∷ groups) (suc frame) g is = behind o (contains_group groups frame g is)
  where
    behind : (x : Option Group) → Contains (filter_map (option_map number_of) groups) (number_of g) →
        Contains (cons_option (option_map number_of x) (filter_map (option_map number_of) groups)) (number_of g)
    behind None has = has
    behind (Some h) (k, below, at) = (suc k, omega (arith, below), at)

pub has_number : (b : DatabaseState) (frame : ℕ) (g : Group) → HasGroup b frame g → Contains (groups_of b) (number_of g)
has_number b frame g has =
    let r = contains_group b.groups frame g has in
    let below = r.1 in
    (suc r.0, omega (arith, below), r.2)

module _ (all : Dqbf) (b : DatabaseState) (engine : Engine) (groups : List ℕ) (silent : Bool) (old : List Entry)
    (other : same_engine engine instances ≡ false)
    (apart : (g h : ℕ) → Contains (groups_of b) g → Contains groups h → g ≢ h) (database : IsDatabase b old) where
  off : (mine : ℕ) (n : Name) (c : List Literal) → Contains (groups_of b) mine → name_of old mine ≡ Some n →
      (g : ℕ) × IsInGroup g c × (Contains groups g ⊎ (name_of old g ≡ None)) → IsInGroup mine c → ⊥
  off mine n c has named (g, inside, inl given) mine_too =
      apart mine g has given (in_one_group mine g c mine_too inside)
  off mine n c has named (g, inside, inr none) mine_too =
      let same = in_one_group mine g c mine_too inside in
      let gone : name_of old mine ≡ None = ap (name_of old) same ∙ none in
      cc

  foreign : (earlier : List Entry) (e : Entry) → IsAddedLive all engine groups silent old earlier e →
      IsForeign b earlier e
  foreign earlier (Named v n) h = (h.unnamed, not_own_name engine (name_engine n) other h.own)
  foreign earlier (Given origin c) h = (
    ap (same_engine instances) h.own ∙ other_engine engine other,
    (λ frame g has inside. off (number_of g) (Selector (number_of g)) c (has_number b frame g has)
        (database.groups.made frame g has).named h.in_group inside),
    (λ inside. off b.table.group (Selector b.table.group) c (0, omega arith, refl) database.table.group h.in_group inside),
  )
  foreign earlier (Learned c hs) h = tt
  foreign earlier (Answer c hs) h = tt
  foreign earlier _ h = absurd h

  all_foreign : (more : List Entry) → EachOf (IsAddedLive all engine groups silent old) more old →
      EachOf (IsForeign b) more old
  all_foreign [] each = tt
  all_foreign (e ∷ more) each = (foreign (more ++ old) e each.0, all_foreign more each.1)

pub same_rows : (all : Dqbf) (engine : Engine) (groups : List ℕ) (silent : Bool) (first more old : List Entry) →
    EachOf (IsAddedLive all engine groups silent first) more old → rows_of (more ++ old) ≡ rows_of old
same_rows all engine groups silent first [] old h = refl
same_rows all engine groups silent first (Round r bits j ∷ more) old h = absurd h.0
same_rows all engine groups silent first (Begun live ∷ more) old h = absurd h.0
same_rows all engine groups silent first (_ ∷ more) old h = same_rows all engine groups silent first more old h.1

pub databases_left : EnginesLeaveDatabases
databases_left all b engine groups silent old new grew other apart =
    let stands : IsDatabase b old.entries → IsDatabase b new.entries = λ database. subst (IsDatabase b) (sym grew.grown)
    (databases_stand b grew.more old.entries
    (all_foreign all b engine groups silent old.entries other apart database grew.more grew.each) database) in (
      stands,
      (λ full. record {
        database = stands full.database;
        rows = ap rows_of grew.grown
            ∙ same_rows all engine groups silent old.entries grew.more old.entries grew.each ∙ full.rows;
      }),
    )

pub round_left : RoundsLeaveDatabases
round_left b row values j earlier full = search (arith, database_stands)

pub beginning_left : BeginningsLeaveDatabases
beginning_left b live earlier = search (arith, (database_stands b))
