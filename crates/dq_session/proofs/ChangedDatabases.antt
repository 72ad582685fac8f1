-- A database whose frames change.
use Rattle.std.proofs.Common.{ℕ, [], ◌∷◌, Some, None, arith}
use Rattle.list_laws.proofs.Elements.{old_or_last, kept_there}
use Rattle.oracle.specs.declared.groups.Group.{Group}
use Rattle.dq_session.specs.Databases.{DatabaseState, HasGroup}
use Rattle.dq_session.specs.Changes.{with_frame}
use Rattle.dq_session.specs.Changing.{FramesOpen, FramesClose}
use Rattle.dq_session.proofs.GrownDatabases.{entries_same}
use Rattle.dq_session.proofs.Stacks.{frame_opened, frame_closed}

-- a frame that is opened has no group yet
kept_group : (b : DatabaseState) (frame : ℕ) (g : Group) → HasGroup b frame g → HasGroup (with_frame b) frame g
kept_group b frame g has = kept_there b.groups (None ∷ []) frame (Some g) has

old_group : (b : DatabaseState) (frame : ℕ) (g : Group) → HasGroup (with_frame b) frame g → HasGroup b frame g
old_group b frame g has = search (arith, old_or_last)

pub frames_open : FramesOpen
frames_open b es database = record {
  well_formed = database.well_formed;
  stack = frame_opened b database.stack;
  table = database.table;
  groups = record {
    made = λ frame g has. database.groups.made frame g (old_group b frame g has);
    none_of_file = λ frame g has. database.groups.none_of_file frame g (old_group b frame g has);
    apart = λ frame other g h has has'. database.groups.apart frame other g h (old_group b frame g has)
        (old_group b other h has');
    off_table = λ frame g has. database.groups.off_table frame g (old_group b frame g has);
  };
  givens = search (arith, entries_same, kept_group, old_group);
  done = database.done;
  instances = search (arith, kept_there);
}

pub frames_close : FramesClose
frames_close b es some_open database = search (arith, frame_closed, entries_same)
