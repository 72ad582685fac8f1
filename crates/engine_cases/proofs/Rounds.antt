-- What a round and an engine's call leave.
use Rattle.std.proofs.Common.{◌≡◌, ◌≤◌, ◌+◌, ℕ, Bool, true, List, [], ◌∷◌, length, refl, sym, ◌∙◌, ap, subst, arith}
use Rattle.dq_lits.specs.Formula.{Dqbf, IsWellFormed}
use Rattle.hint_log.specs.Entries.{Entry, Round, ProofLog, with_entry, rounds_of}
use Rattle.hint_log.specs.Growth.{Grew}
use Rattle.hint_log.specs.Naming.{rows_of}
use Rattle.hint_log.specs.ProductiveLog.{fault_groups, fault_room}
use Rattle.log_laws.specs.Engines.{instances, IsAddedBy, EnginesLeaveRest}
use Rattle.expansion.specs.Table.{TableState, IsTable, IsFullTable}
use Rattle.expansion.specs.Preservation.{RoundsLeaveTables}
use Rattle.aig_graph.specs.Graph.{AigGraph}
use Rattle.circuit_cnf.specs.declared.checkers.Checker.{Checker}
use Rattle.circuit_cnf.specs.Checking.{IsChecker, CheckersStayWithRounds}
use Rattle.engine_cases.specs.Ready.{IsOpen, IsTableOfRounds}

-- before the row is added
pub table_with_round : RoundsLeaveTables → (f : Dqbf) (t : TableState) (old mid : ProofLog) (row values : List Bool)
    (j : ℕ) → IsTableOfRounds f t old.entries
    → mid ≡ with_entry old (Round row values j) → IsTable f t mid.entries
table_with_round law f t old mid row values j ready is =
    subst (λ (l : ProofLog). IsTable f t l.entries) (sym is) (law f t row values j old.entries ready.table).0

pub row_added : EnginesLeaveRest → (f : Dqbf) → (t u : TableState) (old mid new : ProofLog) (row values : List Bool)
    (j : ℕ) → IsTableOfRounds f t old.entries
    → mid ≡ with_entry old (Round row values j) → ((first : List Entry) →
    Grew (IsAddedBy f instances t.group true first) mid new) → IsFullTable f u new.entries
    → IsTableOfRounds f u new.entries
row_added law f t u old mid new row values j ready is grew table =
    let left = law f instances t.group true mid new (grew mid.entries) in
    record {
      table = table;
      no_faults = left.faults refl ∙ ap (λ (l : ProofLog). fault_groups l.entries) is
          ∙ ready.no_faults;
    }

pub solved : EnginesLeaveRest → (f : Dqbf) → (t u : TableState) (silent : Bool) (old new : ProofLog) →
    IsTableOfRounds f t old.entries
    → ((h : Dqbf) → IsFullTable h t old.entries → Grew (IsAddedBy h instances t.group silent old.entries) old new)
    → ((h : Dqbf) → IsFullTable h t old.entries → IsFullTable h u new.entries) → IsTableOfRounds f u new.entries
solved law f t u silent old new ready grew table =
    let left = law f instances t.group silent old new (grew f ready.table) in
    record { table = table f ready.table; no_faults = left.faults refl ∙ ready.no_faults }

pub begun : EnginesLeaveRest → (f : Dqbf) → IsWellFormed f → (t : TableState) (old new : ProofLog) → old.entries ≡ []
    → ((group : ℕ) → Grew (IsAddedBy f instances group true old.entries) old new) → IsTable f t new.entries →
    t.rows ≡ [] → IsTableOfRounds f t new.entries
begun law f well t old new empty grew table rows =
    let left = law f instances 0 true old new (grew 0) in
    record {
      table = record { formula = well; table = table; rows = left.rows ∙ ap rows_of empty ∙ sym rows };
      no_faults = left.faults refl ∙ ap fault_groups empty;
    }

-- what a turn that failed leaves, once its round is logged
pub turn_failed : CheckersStayWithRounds → (f : Dqbf) (graph : AigGraph) (c : Checker) (old new : ProofLog)
    (row values : List Bool) (j : ℕ) → graph.inputs ≡ length f.universals
    → IsChecker f c old.entries → length (fault_groups old.entries) ≤ fault_room old.entries →
    new ≡ with_entry old (Round row values j) → IsOpen f graph c new.entries
turn_failed law f graph c old new row values j inputs checker few is =
    let here : IsOpen f graph c (Round row values j ∷ old.entries) =
    record { inputs = inputs; checked = law f c old.entries row values j checker; faults = omega (arith, few) } in
    subst (λ (l : ProofLog). IsOpen f graph c l.entries) (sym is) here

pub checker_begun : (f : Dqbf) (graph : AigGraph) (c : Checker) (old new : ProofLog) →
    graph.inputs ≡ length f.universals → old.entries ≡ [] → IsChecker f c new.entries
    → fault_groups new.entries ≡ fault_groups old.entries → IsOpen f graph c new.entries
checker_begun f graph c old new inputs empty checker faults =
    let none : length (fault_groups new.entries) ≡ 0 = ap length (faults ∙ ap fault_groups empty) in
    record { inputs = inputs; checked = checker; faults = omega (arith, none) }
