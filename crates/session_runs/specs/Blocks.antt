-- What the searches of a session come to, and how it is written: a block for each, `solve k B` and
-- then B bytes.
use Rattle.std.specs.Prelude.{ℕ, ◌+◌, List, [], ◌∷◌, ◌++◌, length, codes}
use Rattle.std.specs.Fmt.{decimal}
use Rattle.dq_lits.specs.Formula.{Dqbf}
use Rattle.hint_log.specs.Entries.{Entry}
use Rattle.dq_runs.specs.Printed.{Printed, line}
use Rattle.verdict_texts.specs.Forms.{plain}
use Rattle.verdict_texts.specs.Verdicts.{Verdict, verdict_text}

-- a search: the formula that was decided, what was found, and the log's entries at its end
pub record Search : Type 0 where
  pub formula : Dqbf
  pub verdict : Verdict
  pub entries : List Entry

-- what `solve` writes for such a verdict
abbrev pub search_text : Search → List ℕ
search_text s = verdict_text plain s.formula s.verdict

-- behind a line with the number and the length
abbrev pub block_head : ℕ → ℕ → List ℕ
block_head k bytes = line (codes "solve " ++ (decimal k ++ (codes " " ++ decimal bytes)))

abbrev pub block_text : ℕ → Search → List ℕ
block_text k s = block_head k (length (search_text s)) ++ search_text s

-- the blocks from a number on
abbrev pub blocks_text : ℕ → List Search → List ℕ
blocks_text k [] = []
blocks_text k (s ∷ searches) = block_text k s ++ blocks_text (k + 1) searches

abbrev pub printed_session : List Search → Printed
printed_session searches = record { status = 0; text = blocks_text 1 searches }
