-- A derivation that is judged item by item.
use Rattle.std.specs.Prelude.{ℕ, Bool, false, List, [], ◌∷◌, Option, None, Some, if◌then◌else◌}
use Rattle.dq_lits.specs.Derivation.{LiveClauses, with_clause, line_fault, ProofStep, ProofFault, underived, unfinished, is_empty}
use Rattle.rup_core.specs.Items.{ProofItem, derived, gone, without_clauses}

pub record Run : Type 0 where
  -- the last line so far is empty
  pub finished : Bool
  pub live : LiveClauses
  -- the first line that isn't derived
  pub fault : Option ℕ

abbrev pub start : LiveClauses → Run
start live = record { finished = false; live = live; fault = None }

-- with one more line, by the place of its fault
abbrev pub with_line : Option ℕ → Run → ProofStep → Run
with_line (Some _) run step = record run { fault = Some step.id }
with_line None run step =
    record {
      finished = is_empty step.literals;
      live = with_clause run.live step.id step.literals;
      fault = None;
    }

abbrev pub advanced : Run → ProofItem → Run
advanced run (derived step) = with_line (line_fault run.live step.literals step.hints) run step
advanced run (gone ids) = record run { live = without_clauses run.live ids }

abbrev pub unless_faulty : Option ℕ → Run → Run → Run
unless_faulty (Some _) run next = run
unless_faulty None run next = next

-- behind a line that isn't derived nothing changes any more
abbrev pub with_item : Run → ProofItem → Run
with_item run item = unless_faulty run.fault run (advanced run item)

abbrev pub with_items : Run → List ProofItem → Run
with_items run [] = run
with_items run (item ∷ items) = with_items (with_item run item) items

abbrev pub fault_so_far : Option ℕ → Bool → Option ProofFault
fault_so_far (Some id) finished = Some (underived id)
fault_so_far None finished = if finished then None else Some unfinished

-- what is wrong if no item comes any more
abbrev pub run_fault : Run → Option ProofFault
run_fault run = fault_so_far run.fault run.finished
