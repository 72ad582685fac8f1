-- What stands of a search when the copies followed its clauses.
use Rattle.std.proofs.Common.{◌≡◌, ◌≢◌, ◌⊎◌, inl, inr, ℕ, Bool, true, false, List, length, None, refl, ◌∙◌, ap, subst, arith}
use Rattle.std.specs.List.{Contains}
use Rattle.dq_lits.specs.Formula.{Dqbf}
use Rattle.dq_lits.specs.Literal.{variable_of}
use Rattle.hint_log.specs.Entries.{ProofLog, name_of}
use Rattle.hint_log.specs.Growth.{Grew}
use Rattle.log_laws.specs.Engines.{copies}
use Rattle.log_laws.specs.Sessions.{IsAddedLive, EnginesLeaveSessions}
use Rattle.aig_graph.specs.Graph.{AigGraph}
use Rattle.circuit_cnf.specs.declared.checkers.Checker.{Checker}
use Rattle.oracle.specs.declared.groups.Group.{Group}
use Rattle.circuit_cnf.specs.Checking.{CheckersStay, gate_groups}
use Rattle.dq_session.specs.Databases.{DatabaseState, all_of, frames_of}
use Rattle.dq_session.specs.Changes.{groups_of}
use Rattle.dq_session.specs.Preservation.{EnginesLeaveDatabases}
use Rattle.definability.specs.Copies.{IsDefinability}
use Rattle.definability.specs.Following.{AreOldOrNew}
use Rattle.definability.specs.Store.{IsCopyStore, copy_groups, store_of}
use Rattle.definability.specs.declared.definability.Definability.{Definability}
use Rattle.repair_loop.specs.SearchStates.{AreApart}
use Rattle.repair_loop.specs.Preservation.{IsLeft}
use Rattle.repair_loop.specs.Turning.{IsSearch, IsUnderWay}
use Rattle.repair_loop.proofs.LiveDatabases.{database_named}
use Rattle.repair_loop.proofs.LiveGrowth.{checker_left, same_prefix, same_faults, same_room}
use Rattle.repair_loop.proofs.LogGrowth.{log_grew}
use Rattle.repair_loop.proofs.NewFaults.{others_new}
use Rattle.repair_loop.proofs.Stages.{same_database, still_kept}

module _ (law : EnginesLeaveSessions) (databases : EnginesLeaveDatabases) (stay : CheckersStay) (f : Dqbf) (graph : AigGraph)
    (b : DatabaseState) (c : Checker) (p q : Definability) (old new : ProofLog) (s : IsSearch f graph b c p false old.entries)
    (grew : Grew (IsAddedLive (all_of b) copies (copy_groups p) true old.entries) old new)
    (stored : IsCopyStore (all_of b) (frames_of b) q new.entries)
    (fresh : AreOldOrNew (store_of p) (store_of q) old.entries) where
  abbrev all : Dqbf
  all = all_of b

  abbrev mine : List ℕ
  mine = copy_groups p

  way : IsUnderWay f b c p false old.entries
  way = s.here.way

  off : (g h : ℕ) → Contains (groups_of b) g → Contains mine h → g ≢ h
  off g h here there same = way.apart.copies h there (subst (Contains (groups_of b)) same here)

  still_apart : AreApart b c q
  still_apart = record {
    gates = way.apart.gates;
    copies = λ g has here. off_database g (fresh g has) here;
    copies_gates = λ g gate has. off_gates g gate (fresh (variable_of g.selector) has);
  }
    where
      off_database : (g : ℕ) → Contains mine g ⊎ (name_of old.entries g ≡ None) → Contains (groups_of b) g → ⊥
      off_database g (inl before) here = way.apart.copies g before here
      off_database g (inr none) here = database_named b old.entries way.database g here none

      off_gates : (g : Group) → Contains (gate_groups c) g →
          Contains mine (variable_of g.selector) ⊎ (name_of old.entries (variable_of g.selector) ≡ None) → ⊥
      off_gates g gate (inl before) = way.apart.copies_gates g gate before
      off_gates g gate (inr none) = let is = (way.checked.gates.made g gate).named in cc

  new_way : (ready : Bool) → (ready ≡ true → IsDefinability f q new.entries) → IsUnderWay f b c q ready new.entries
  new_way ready copied =
      let left = law all copies mine true old new grew in
      let few = s.room in
      let many = ap length (same_faults all copies mine true old new refl grew) in
      let room = same_room all copies mine true old new grew in
      record {
        formula = way.formula;
        now_is = way.now_is;
        live = left.live ∙ way.live;
        kept = still_kept law all copies mine true old new grew way.kept;
        database = (databases all b copies mine true old new grew refl off).0 way.database;
        checked = same_prefix b.file all.matrix b.file.matrix c new.entries
            (checker_left stay all copies mine true c old new refl way.apart.copies_gates grew
            (same_prefix b.file b.file.matrix all.matrix c old.entries way.checked));
        copied = copied;
        stored = stored;
        apart = still_apart;
        faults = omega (arith, few, many, room);
        new_faults = others_new all copies mine true old new refl grew left.before way.new_faults;
      }

  pub copies_left : IsLeft f b b c c q false true old new
  copies_left =
      let left = law all copies mine true old new grew in
      record {
        went = record {
          way = new_way false (λ on. cc);
          database = same_database b;
          grew = log_grew all copies mine true old.entries old new grew;
        };
        undecided = left.decisions;
        rows = left.rows;
        room = same_room all copies mine true old new grew;
        before = left.before;
      }

  -- questions may be asked now
  pub copies_search : IsDefinability f q new.entries → (more : AigGraph) → more.inputs ≡ graph.inputs →
      IsSearch f more b c q true new.entries
  copies_search copied more same =
      let left = law all copies mine true old new grew in
      let few = s.room in
      let many = ap length (same_faults all copies mine true old new refl grew) in
      let room = same_room all copies mine true old new grew in
      record {
        here = record {
          way = new_way true (λ on. copied);
          rows = left.rows ∙ s.here.rows;
          undecided = left.decisions refl s.here.undecided;
        };
        inputs = same ∙ s.inputs;
        room = omega (arith, few, many, room);
      }
