-- What a turn's group says, part after part of the clauses, and searches between two parts.
use Rattle.std.proofs.Common.{◌≡◌, ℕ, ◌+◌, ◌≤◌, Bool, true, false, List, [], ◌∷◌, ◌++◌, length, get_or, sym, ◌∙◌, ap, subst, arith}
use Rattle.std.proofs.lemmas.Bool.{false≢true}
use Rattle.dq_lits.specs.Literal.{Literal, positive, negative, variable_of}
use Rattle.dq_lits.specs.Formula.{Dqbf}
use Rattle.hint_log.specs.Entries.{Entry, Named, ProofLog, name_of}
use Rattle.hint_log.specs.declared.names.Name.TheVariants.{Selector}
use Rattle.hint_log.specs.declared.origins.Leaf.{Leaf}
use Rattle.hint_log.specs.declared.origins.Origin.TheVariants.{Fault}
use Rattle.aig_graph.specs.declared.nodes.Node.{Node}
use Rattle.aig_graph.specs.Graph.{AigGraph}
use Rattle.hint_log.specs.Growth.{Grew}
use Rattle.hint_log.specs.Origins.{IsLeafOf}
use Rattle.hint_log.specs.ProductiveLog.{fault_groups, fault_room, with_group}
use Rattle.log_laws.specs.Engines.{circuits, IsAddedBy}
use Rattle.log_laws.proofs.Kept.{NamesStay, name_cases, name_stays_by}
use Rattle.oracle.specs.Calls.{IsLearnedEntry}
use Rattle.oracle.specs.declared.groups.Group.{Group}
use Rattle.circuit_cnf.specs.declared.checkers.Checker.{Checker}
use Rattle.circuit_cnf.specs.declared.fault_clauses.Faults.{Faults}
use Rattle.circuit_cnf.specs.Faults.{AreBads, AreFewWith, AreChosenGiven, AreNamedAndSaid, AreSaid, HaveOneLeaf, IsNamingBads, leaf_of}
use Rattle.circuit_cnf.specs.Saying.{AreBound, HasNoBads, MaySay, leaf_in, selector_in}
use Rattle.circuit_cnf.specs.Turning.{AreLeavesOf, HasTurned, IsGroupMade, IsSaying}
use Rattle.circuit_cnf.proofs.GroupFaults.{after_all, after_bads, bads_stay, leaf_of_stays}
use Rattle.circuit_cnf.proofs.HeldGroups.{learned_givens}
use Rattle.circuit_cnf.proofs.NamedGroups.{may_say_named}
use Rattle.circuit_cnf.proofs.SaidFaults.{faulted_then, may_say_on}
use Rattle.circuit_cnf.proofs.TurnAnswers.{inputs_count, leaf_is_one}
use Rattle.circuit_cnf.proofs.TurnGrowth.{learned_faults, learned_grew}
use Rattle.circuit_cnf.proofs.TurnStages.{faults_turned, group_one_leaf}
use Rattle.oracle.proofs.LearnedEntries.{learned_names}

module _ (f : Dqbf) (checker : Checker) (old first : ProofLog) (group : Group)
    (m : IsGroupMade f checker old first group) where
  abbrev sel : ℕ
  sel = variable_of group.selector

  entries_are : first.entries ≡ Named (variable_of group.selector) (Selector (variable_of group.selector)) ∷ old.entries
  entries_are = ap (λ (l : ProofLog). l.entries) m.is

  pub group_has_no_bads : HasNoBads (variable_of group.selector) first.entries
  group_has_no_bads v j is = search (arith, name_cases)

  pub group_is_few : AreFewWith (variable_of group.selector) first.entries
  group_is_few j i out rest = search arith

  pub group_stays : NamesStay old.entries first.entries
  group_stays = search (arith, name_stays_by)

  module _ (leaf : ℕ → Leaf) (log : ProofLog) (grew : (h : Dqbf) (standing : ℕ) (start : List Entry) →
      Grew (IsAddedBy h circuits standing true start) first log)
      (faults : fault_groups log.entries ≡ fault_groups first.entries)
      (alone : IsNamingBads (variable_of group.selector) first.entries log.entries) where
    pub begun_said : AreNamedAndSaid f (variable_of group.selector) leaf first log
    begun_said = search (arith, after_bads, group_is_few, group_one_leaf)

    -- where naming the variables was cut off
    pub begun_turned : (silent : Bool) → HasTurned f checker checker silent old log
    begun_turned silent = faults_turned f checker leaf old first group m log begun_said silent

-- the variables that say which clauses are false have names, and nothing is said yet
pub begun_saying : (graph : AigGraph) (nodes : List Node) (s : Faults) (checker : Checker) (old first : ProofLog)
    (m : IsGroupMade s.f.now checker old first s.group.now) → s.inputs.now ≡ checker.inputs.items →
    length nodes ≡ length s.f.now.existentials → AreLeavesOf s.f.now graph old.entries nodes s.outputs.now →
    AreBound s.f.now → (bads : List Literal) (log : ProofLog) → ((h : Dqbf) (standing : ℕ) (start : List Entry) →
    Grew (IsAddedBy h circuits standing true start) first log) →
    fault_groups log.entries ≡ fault_groups first.entries →
    IsNamingBads (selector_in s) first.entries log.entries → AreBads s.f.now (selector_in s) bads log.entries →
    IsSaying checker s bads (λ j. false) old log
begun_saying graph nodes s checker old first m same count have bound bads log grew faults alone named = record {
  first = first;
  group_made = m;
  said = said;
  may = may_say_named s first log may_first said;
  named = named;
  given = λ j below is. absurd (false≢true is);
} where
  f : Dqbf
  f = s.f.now

  said : AreNamedAndSaid s.f.now (selector_in s) (leaf_in s) first log
  said = begun_said s.f.now checker old first s.group.now m (leaf_in s) log grew faults alone

  leaves : (v : ℕ) → IsLeafOf s.f.now old.entries v (leaf_in s v)
  leaves v = subst (λ xs. IsLeafOf s.f.now old.entries v (leaf_of s.f.now xs s.outputs.now v)) (sym same)
      (leaf_is_one s.f.now graph old.entries checker.inputs.items nodes s.outputs.now m.before.inputs have count v)

  may_first : MaySay s first.entries
  may_first = record {
    made = m.made;
    inputs = ap length same ∙ inputs_count old.entries s.f.now.universals checker.inputs.items m.before.inputs;
    outputs = have.count ∙ count;
    leaves = λ v inside. leaf_of_stays s.f.now old.entries first.entries v (leaf_in s v)
        (group_stays s.f.now checker old first s.group.now m) (leaves v);
    bound = bound;
    few = group_is_few s.f.now checker old first s.group.now m;
    one_leaf = group_one_leaf s.f.now checker (leaf_in s) old first s.group.now m;
  }

module _ (checker : Checker) (s : Faults) (bads : List Literal) (chosen : ℕ → Bool) (old log : ProofLog)
    (w : IsSaying checker s bads chosen old log) where
  pub saying_turned : (silent : Bool) → HasTurned s.f.now checker checker silent old log
  saying_turned silent = search (arith, faults_turned)

  -- what is said then leaves what was said
  pub saying_on : (new : ProofLog) → AreSaid s.f.now (selector_in s) (leaf_in s) log new →
      IsSaying checker s bads chosen old new
  saying_on new said = record {
    first = w.first;
    group_made = w.group_made;
    said = after_all s.f.now (selector_in s) (leaf_in s) w.first log new w.said said;
    may = may_say_on s log w.may new said;
    named = bads_stay log.entries new.entries (selector_in s) (length s.f.now.matrix) bads said.names w.named;
    given = λ j below is. faulted_then s.f.now (selector_in s) (variable_of (get_or bads j (positive 0))) (j + 1)
        (leaf_in s) (get_or s.f.now.matrix j []) log new said (w.given j below is);
  }

  pub saying_more : (more : ℕ → Bool) (new : ProofLog) → AreSaid s.f.now (selector_in s) (leaf_in s) log new →
      AreChosenGiven s.f.now (selector_in s) (leaf_in s) bads more new.entries → IsSaying checker s bads more old new
  saying_more more new said given = search (arith, (saying_on new said))

-- of fewer clauses too
pub saying_fewer : (checker : Checker) (s : Faults) (bads : List Literal) (chosen more : ℕ → Bool) (old log : ProofLog) →
    ((j : ℕ) → chosen j ≡ true → more j ≡ true) → IsSaying checker s bads more old log →
    IsSaying checker s bads chosen old log
saying_fewer checker s bads chosen more old log fewer w = record {
  first = w.first;
  group_made = w.group_made;
  said = w.said;
  may = w.may;
  named = w.named;
  given = λ j below is. w.given j below (fewer j is);
}

-- a search that learns says nothing
pub learned_said : (s : Faults) (log new : ProofLog) → MaySay s log.entries → Grew IsLearnedEntry log new →
    AreSaid s.f.now (selector_in s) (leaf_in s) log new
learned_said s log new may g = record {
  grew = λ standing start unnamed. learned_grew s.f.now circuits standing true start log new g;
  names = λ v. ap (λ es. name_of es v) g.grown ∙ learned_names g.more log.entries v g.each;
  few = subst (AreFewWith (selector_in s)) (sym g.grown) few;
  one_leaf = subst (HaveOneLeaf s.f.now (selector_in s) (leaf_in s)) (sym g.grown)
      (λ j i v out rest inside own. may.one_leaf j i v out rest
      (learned_givens g.more log.entries g.each (Fault j i out) (negative (selector_in s) ∷ rest) inside) own);
} where
  same : (fault_groups (g.more ++ log.entries) ≡ fault_groups log.entries)
      × (fault_room (g.more ++ log.entries) ≡ fault_room log.entries)
  same = learned_faults g.more log.entries g.each

  few : (j i : ℕ) (out : Leaf) (rest : List Literal) →
      length (with_group (negative (selector_in s) ∷ rest) (fault_groups (g.more ++ log.entries)))
      ≤ fault_room (g.more ++ log.entries)
  few j i out rest = subst (λ gs. length (with_group (negative (selector_in s) ∷ rest) gs)
      ≤ fault_room (g.more ++ log.entries)) (sym same.0)
      (subst (λ n. length (with_group (negative (selector_in s) ∷ rest) (fault_groups log.entries)) ≤ n) (sym same.1)
      (may.few j i out rest))
