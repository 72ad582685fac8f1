-- A refutation that is judged as its items come.
use Rattle.std.specs.Prelude.{◌≡◌, ◌⊎◌, ℕ, ◌<◌, ◌≤◌, Bool, true, false, List, map, length, None, Some}
use Rattle.std.specs.List.{All, AllByRecursion}
use Rattle.dq_lits.specs.Expansion.{instance_at}
use Rattle.dq_lits.specs.Formula.{Dqbf}
use Rattle.dq_lits.specs.Literal.{Literal}
use Rattle.rup_core.specs.Items.{ProofItem, items_fault}
use Rattle.rup_core.specs.Proving.{ProofState, with_lines}
use Rattle.rup_core.specs.Runs.{Run, run_fault}
use Rattle.cert_text.specs.Grammar.{IsItem}
use Rattle.cert_text.specs.Header.{max_count}
use Rattle.cert_text.specs.Numbering.{Numbering}
use Rattle.cert_text.specs.Pairs.{is_pair_number}
use Rattle.cert_text.specs.Scan.{first_id}
use Rattle.refutation_checker.specs.Judging.{AreBehind, IsHeld}
use Rattle.refutation_checker.specs.Namings.{Frame, Names}
use Rattle.refutation_checker.specs.PairNames.{IsFrame, AreNames, names_in}
use Rattle.refutation_checker.specs.Refutation.{normal_item}
use Rattle.refutation_checker.specs.declared.bindings.Bindings.{Bindings}
use Rattle.refutation_checker.specs.declared.proving.RefutationProving.{RefutationProving}

-- whole rows of a formula's universals, so many as a text can hold
pub record AreRows (f : Dqbf) (rows : List (List Bool)) : Type 0 where
  pub whole : All (λ row. length row ≡ length f.universals) rows
  pub few : length rows ≤ max_count

abbrev pub frame_by : Dqbf → List (List Bool) → Bindings → Frame
frame_by f rows bindings =
    record { formula = f; rows = rows; sets = bindings.sets.items; bindings = bindings.of.items }

-- the formula and the rows, with the formula's bindings, which were kept
abbrev pub frame_of : Dqbf → List (List Bool) → RefutationProving → Frame
frame_of f rows p = frame_by f rows p.bindings

-- the lines of the run are held on names, and all of them are derived
pub record IsGoing (x : Frame) (n : Names) (p : ProofState) (next : ℕ) (run : Run) : Type 0 where
  pub lines : List (ℕ × List Literal)
  pub held : IsHeld x n lines p
  pub behind : AreBehind x lines
  pub above : AllByRecursion (λ line. line.0 < next) lines
  pub run_is : run ≡ record {
    finished = p.finished;
    live = with_lines (instance_at x.formula x.rows) lines;
    fault = None;
  }

-- a line of the run isn't derived
pub record IsSettled (p : ProofState) (run : Run) : Type 0 where
  pub id : ℕ
  pub fault : p.fault ≡ Some id
  pub run_fault : run.fault ≡ Some id

-- items were judged, as the run has it, and these ids come next
pub record IsJudging (f : Dqbf) (rows : List (List Bool)) (p : RefutationProving) (at : Numbering)
    (run : Run) : Type 0 where
  pub frame : IsFrame (frame_of f rows p)
  pub names : AreNames (frame_of f rows p) p.judging.names
  pub first : first_id f (length rows) ≤ at.next
  pub ids : (id : ℕ) → at.live id ≡ true → first_id f (length rows) ≤ id
  pub runs : IsGoing (frame_of f rows p) (names_in p.judging.names) p.judging.proving at.next run
      ⊎ IsSettled p.judging.proving run

-- an item that may come next
pub record MayJudge (f : Dqbf) (rows : List (List Bool)) (p : RefutationProving)
    (item : ProofItem) : Type 0 where
  pub at : Numbering
  pub run : Run
  pub judging : IsJudging f rows p at run
  pub lawful : IsItem (is_pair_number f (length rows)) at item

-- what was judged has the fault of these items
pub record HasFaultOf (f : Dqbf) (rows : List (List Bool)) (items : List ProofItem)
    (p : RefutationProving) : Type 0 where
  pub at : Numbering
  pub run : Run
  pub judging : IsJudging f rows p at run
  pub same : run_fault run
      ≡ items_fault false (instance_at f rows) (map (normal_item f rows) items)
