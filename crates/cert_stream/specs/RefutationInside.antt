-- What a stream of a refutation is, by its fields.
use Rattle.std.specs.Prelude.{◌≡◌, ℕ, false, List, Option, Ok, IfNone, IfSome}
use Rattle.rup_core.specs.Items.{ProofItem}
use Rattle.rup_core.specs.Runs.{Run}
use Rattle.cert_stream.specs.KeptLines.{KeptLines, seen}
use Rattle.cert_stream.specs.RefutationLines.{MayCome, RefutationLines, rows_so_far, with_line}
use Rattle.refutation_checker.specs.declared.proving.RefutationProving.{RefutationProving}
use Rattle.cert_stream.specs.RefutationState.{IsRunOf, RefutationState, run_behind}
use Rattle.cert_stream.specs.declared.refutations.RefutationStream.TheInside.{Inside}

abbrev pub state_in : Inside → RefutationState
state_in s = record { lines = s.lines; proving = s.proving; failed = s.failed }

-- the formula of the stream, and a run of the items that came
pub record IsStream (s : Inside) : Type 0 where
  pub formula : s.lines.formula ≡ s.formula.now
  pub runs : s.failed ≡ false → IfNone s.lines.stopped
      ((run : Option Run) × IsRunOf (seen s.lines) s.proving run)

-- one line came behind what was read, with its item, if it is one
pub record IsBehindLine (old : RefutationLines) (item : Option ProofItem) (new : KeptLines)
    : Type 0 where
  pub text : List ℕ
  pub read : with_line old text ≡ Ok (seen new)
  pub item_is : new.item ≡ item
  pub may_come : IfSome item (MayCome old.formula old.body)

-- a run of the items that came before the line
pub record HasRun (new : KeptLines) (proving : Option RefutationProving) : Type 0 where
  pub old : RefutationLines
  pub behind : IsBehindLine old new.item new
  pub run : Option Run
  pub is_run : IsRunOf old proving run

-- whichever run stood for what came before the line, that with its item stands for what came
abbrev pub GoesOn : KeptLines → Option RefutationProving → Option RefutationProving → Type 0
GoesOn new before after =
    (old : RefutationLines) (run : Option Run) → IsBehindLine old new.item new
    → IsRunOf old before run
    → IsRunOf (seen new) after
    (run_behind old.formula (rows_so_far (seen new).body) run new.item)
