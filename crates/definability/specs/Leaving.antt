-- What leaves a store of copies as it stands, and the copies that are active: other engines in a
-- session, rounds, beginnings, clauses that are added, and searches; and how copies are grouped.
use Rattle.std.specs.Prelude.{◌≡◌, ◌≢◌, ℕ, Bool, false, List, ◌∷◌, ◌++◌, length}
use Rattle.std.specs.List.{Contains}
use Rattle.dq_lits.specs.Literal.{Literal, negative}
use Rattle.dq_lits.specs.Formula.{Dqbf}
use Rattle.hint_log.specs.Entries.{Entry, Given, Round, Begun, ProofLog}
use Rattle.hint_log.specs.Growth.{Grew}
use Rattle.hint_log.specs.Live.{with_matrix}
use Rattle.hint_log.specs.ProductiveSession.{ShareGroup, frame_of}
use Rattle.hint_log.specs.declared.origins.Origin.TheVariants.{Copy}
use Rattle.log_laws.specs.Engines.{Engine, copies, same_engine}
use Rattle.log_laws.specs.Sessions.{IsAddedLive}
use Rattle.definability.specs.Copies.{IsDefinability, groups_of}
use Rattle.definability.specs.Store.{IsCopyStore, copy_groups}
use Rattle.definability.specs.declared.definability.Definability.{Definability}

abbrev pub EnginesLeaveStores : Type 0
EnginesLeaveStores =
    (all any : Dqbf) (numbered : List ℕ) (p : Definability) (engine : Engine) (groups : List ℕ)
    (silent : Bool) (old new : ProofLog)
    → Grew (IsAddedLive any engine groups silent old.entries) old new
    → same_engine engine copies ≡ false
    → ((g h : ℕ) → Contains (copy_groups p) g → Contains groups h → g ≢ h)
    → IsCopyStore all numbered p old.entries → IsCopyStore all numbered p new.entries

abbrev pub RoundsLeaveStores : Type 0
RoundsLeaveStores =
    (all : Dqbf) (numbered : List ℕ) (p : Definability) (entries : List Entry) (row values : List Bool)
    (j : ℕ)
    → IsCopyStore all numbered p entries → IsCopyStore all numbered p (Round row values j ∷ entries)

abbrev pub BeginningsLeaveStores : Type 0
BeginningsLeaveStores =
    (all : Dqbf) (numbered : List ℕ) (p : Definability) (entries : List Entry) (live : List ℕ)
    → IsCopyStore all numbered p entries → IsCopyStore all numbered p (Begun live ∷ entries)

-- clauses that are numbered behind all others
abbrev pub ClausesLeaveStores : Type 0
ClausesLeaveStores =
    (all : Dqbf) (numbered : List ℕ) (p : Definability) (entries : List Entry)
    (more : List (List Literal)) (frames : List ℕ)
    → length numbered ≡ length all.matrix
    → IsCopyStore all numbered p entries
    → IsCopyStore (with_matrix all (all.matrix ++ more)) (numbered ++ frames) p entries

-- the active copies
abbrev pub SessionsLeaveCopies : Type 0
SessionsLeaveCopies =
    (f any : Dqbf) (p : Definability) (engine : Engine) (groups : List ℕ) (silent : Bool)
    (old new : ProofLog)
    → Grew (IsAddedLive any engine groups silent old.entries) old new
    → ((g h : ℕ) → Contains (groups_of p) g → Contains groups h → g ≢ h)
    → IsDefinability f p old.entries → IsDefinability f p new.entries

-- copies have one group where their clauses are of one frame, and they are of one side
abbrev pub CopiesAreGrouped : Type 0
CopiesAreGrouped =
    (all : Dqbf) (numbered : List ℕ) (p : Definability) (entries : List Entry)
    → IsCopyStore all numbered p entries → (side j side' j' : ℕ)
    → ShareGroup entries (Copy side j) (Copy side' j')
    ((frame_of numbered j ≡ frame_of numbered j') × (side ≡ side'))

-- and their groups are the store's
abbrev pub CopiesAreStored : Type 0
CopiesAreStored =
    (all : Dqbf) (numbered : List ℕ) (p : Definability) (entries : List Entry)
    → IsCopyStore all numbered p entries → (side j group : ℕ) (rest : List Literal)
    → Contains entries (Given (Copy side j) (negative group ∷ rest)) → Contains (copy_groups p) group

-- the active groups are among them too
abbrev pub ActiveGroupsAreStored : Type 0
ActiveGroupsAreStored =
    (all : Dqbf) (numbered : List ℕ) (p : Definability) (entries : List Entry)
    → IsCopyStore all numbered p entries → (g : ℕ) → Contains (groups_of p) g
    → Contains (copy_groups p) g
