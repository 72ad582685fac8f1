-- Which logs can be exported: those of productive work for a formula, and of a session for the
-- formula of the last search.
use Rattle.std.specs.Prelude.{◌≡◌, ℕ, List, length, Some}
use Rattle.std.specs.List.{Contains, range_with_len}
use Rattle.dq_lits.specs.Literal.{Literal}
use Rattle.dq_lits.specs.Formula.{Dqbf}
use Rattle.hint_log.specs.Conditions.{AreLogged}
use Rattle.hint_log.specs.Deciding.{ReachesGiven}
use Rattle.hint_log.specs.Entries.{Entry}
use Rattle.hint_log.specs.Live.{live_numbers, formula_of}
use Rattle.hint_log.specs.ProductiveLog.{IsProductiveLog}
use Rattle.hint_log.specs.ProductiveSession.{IsSinceBeginning, IsProductiveSession}
use Rattle.hint_log.specs.declared.origins.Origin.TheVariants.{Instance}
use Rattle.expansion.specs.Table.{IsRefutedBy}
use Rattle.cert_export.specs.Exported.{CanExportFalse}
use Rattle.cert_export.specs.ExportedCircuit.{IsDecidedTrue, CanExportTrue}

-- an answer that decides in a log of productive work
abbrev pub ProductiveAnswersCanExport : Type 0
ProductiveAnswersCanExport =
    (f : Dqbf) (entries : List Entry) (id : ℕ) → AreLogged entries → IsProductiveLog f entries
    → (IsDecidedTrue f entries id → CanExportTrue f entries id)
    × (IsRefutedBy entries id
    → CanExportFalse f (range_with_len 1 (length f.matrix)) entries id)

-- the answer's instances are of live clauses
abbrev pub RestsOnLive : List ℕ → (entries : List Entry) (id : ℕ) → IsRefutedBy entries id → Type 0
RestsOnLive live entries id refuted =
    (k j : ℕ) (c : List Literal)
    → ReachesGiven refuted.earlier refuted.hints (Instance k j) c → Contains live j

-- an answer that decides in a session, of the formula that is live there
abbrev pub SessionAnswersCanExport : Type 0
SessionAnswersCanExport =
    (all : Dqbf) (frames live : List ℕ) (entries : List Entry) (id : ℕ) → AreLogged entries
    → IsProductiveSession all frames entries → live_numbers entries ≡ Some live
    → ((decided : IsDecidedTrue (formula_of all live) entries id)
    → IsSinceBeginning decided.earlier decided.decides.rests.group
    → CanExportTrue (formula_of all live) entries id)
    × ((refuted : IsRefutedBy entries id) → RestsOnLive live entries id refuted
    → CanExportFalse (formula_of all live) live entries id)
