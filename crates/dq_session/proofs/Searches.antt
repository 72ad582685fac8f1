-- A search over the groups of open frames.
use Rattle.std.proofs.Common.{◌≡◌, ℕ, zero, suc, ◌+◌, Bool, true≢false, List, [], ◌∷◌, ◌++◌, take, slice_get, Option, Some, None, sym, ◌∙◌, ap, arith}
use Rattle.std.specs.List.{filter_map, cons_option}
use Rattle.dq_lits.specs.Formula.{Dqbf}
use Rattle.hint_log.specs.Deciding.{IsInstance}
use Rattle.hint_log.specs.Entries.{Entry, Given, Learned, Answer, ProofLog}
use Rattle.hint_log.specs.Growth.{Grew}
use Rattle.hint_log.specs.declared.origins.Origin.{Origin}
use Rattle.hint_log.specs.declared.origins.Origin.TheVariants.{Instance}
use Rattle.hint_log.proofs.NamedEntries.{each_one}
use Rattle.log_laws.specs.Engines.{instances}
use Rattle.log_laws.specs.Sessions.{IsAddedLive}
use Rattle.log_laws.proofs.Kept.{each_of_weaker}
use Rattle.oracle.specs.declared.groups.Group.{Group}
use Rattle.expansion.specs.Searches.{HoldInstances, IsSearchEntry}
use Rattle.expansion.specs.Table.{TableState}
use Rattle.dq_session.specs.Databases.{DatabaseState, HasGroup, IsDatabaseEntry, IsDatabase, IsFullDatabase}
use Rattle.dq_session.specs.Changes.{open_groups}
use Rattle.dq_session.proofs.LiveRefutations.{group_open}

search_added : (all : Dqbf) (groups : List ℕ) (silent : Bool) (first earlier : List Entry) (e : Entry) →
    IsSearchEntry silent earlier e → IsAddedLive all instances groups silent first earlier e
search_added all groups silent first earlier (Learned c hs) h = tt
search_added all groups silent first earlier (Answer c hs) h = λ quiet. absurd (true≢false (sym quiet ∙ h))
search_added all groups silent first earlier _ h = absurd h

-- what a search adds is right in a session, over whatever clauses and groups
pub search_grew : (all : Dqbf) (groups : List ℕ) (silent : Bool) (first : List Entry) (old new : ProofLog) →
    Grew (IsSearchEntry silent) old new → Grew (IsAddedLive all instances groups silent first) old new
search_grew all groups silent first old new g = search (arith, each_of_weaker, search_added)

module _ (b : DatabaseState) (es : List Entry) (database : IsDatabase b es) where
  pub open_hold : HoldInstances (open_groups b) es
  open_hold g origin c has given inside =
      let at = group_open b es database g has in
      let entry = each_one (IsDatabaseEntry b) es (Given origin c) database.givens given in
      by origin at.0 at.2 entry.0 entry.1
    where
      by : (o : Origin) (frame : ℕ) → HasGroup b frame g → (earlier : List Entry) →
          IsDatabaseEntry b earlier (Given o c) → IsInstance o
      by (Instance k j) frame mine earlier entry = tt
      by _ frame mine earlier entry = absurd (entry frame g mine inside)

-- what passes of the first so many elements
pub taken_more : {X Y : Type 0} (h : X → Option Y) (xs : List X) (i : ℕ) (x : X) → slice_get xs i ≡ Some x →
    filter_map h (take (i + 1) xs) ≡ filter_map h (take i xs) ++ cons_option (h x) []
taken_more h [] i x is = cc
taken_more h (z ∷ xs) zero x is = let here : z ≡ x = cc in ap (λ y. cons_option (h y) []) here
taken_more {Y = Y} h (z ∷ xs) (suc i) x is =
    let plus_one : suc i + 1 ≡ suc (i + 1) = omega arith in
    ap (λ n. filter_map h (take n (z ∷ xs))) plus_one ∙ by (h z) (taken_more h xs i x is)
  where
    by : (o : Option Y) → filter_map h (take (i + 1) xs) ≡ filter_map h (take i xs) ++ cons_option (h x) []
        → cons_option o (filter_map h (take (i + 1) xs)) ≡ cons_option o (filter_map h (take i xs)) ++ cons_option (h x) []
    by None rest = rest
    by (Some y) rest = ap (λ ys. y ∷ ys) rest

-- what the table's search says, by the database's parts
pub by_parts : (P : TableState → List Group → Type 0) (x b : DatabaseState) → x ≡ b → (gs : List Group) →
    gs ≡ open_groups b → P x.table gs → P b.table (open_groups b)
by_parts P x b view gs same holds = search arith

pub same_database : (x b : DatabaseState) → x ≡ b → (t : TableState) → t ≡ x.table → (es : List Entry) → IsFullDatabase b es →
    IsFullDatabase (record x { table = t }) es
same_database x b view t same es full = search arith
