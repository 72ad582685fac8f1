-- What files tell at one time, but for what is left to read.
use Rattle.std.specs.Prelude.{ℕ, Bool, List}
use Rattle.dq_io.specs.Files.{Holding}
use Rattle.dq_io.specs.declared.files.Files as files

pub record FilesState : Type 0 where
  -- what is told of each name
  pub held : List ℕ → Holding
  -- no call fails but a pick of a name that isn't held
  pub reliable : Bool
  -- how many times a file was picked
  pub picks : ℕ
  -- how many bytes were given since the last pick
  pub given : ℕ
  -- how many faults were counted
  pub faults : ℕ

module _ {X : Type 0} (F : files.Ghosts X) where
  abbrev pub state_of : X → FilesState
  state_of x = record {
    held = F.held x;
    reliable = F.reliable x;
    picks = F.picks x;
    given = F.given x;
    faults = F.faults x;
  }
