-- Instances have one group where their clauses are of one frame.
use Rattle.std.specs.Prelude.{◌≡◌, ℕ, List}
use Rattle.hint_log.specs.Entries.{Entry}
use Rattle.hint_log.specs.ProductiveSession.{ShareGroup, frame_of}
use Rattle.hint_log.specs.declared.origins.Origin.TheVariants.{Instance}
use Rattle.dq_session.specs.Databases.{DatabaseState, frames_of, IsDatabase}

abbrev pub InstancesAreGrouped : Type 0
InstancesAreGrouped =
    (b : DatabaseState) (entries : List Entry) → IsDatabase b entries → (k j k' j' : ℕ)
    → ShareGroup entries (Instance k j) (Instance k' j')
    (frame_of (frames_of b) j ≡ frame_of (frames_of b) j')
