-- A turn's stages: its group, the group's clauses, and the search.
use Rattle.std.proofs.Common.{◌≡◌, ◌≢◌, ℕ, ◌<◌, Bool, true, false, inl, inr, ◌⊎◌, List, [], ◌∷◌, length, Some, None, IsSome, refl, sym, ◌∙◌, ap, subst, arith}
use Rattle.dq_lits.specs.Literal.{Literal, negative, variable_of}
use Rattle.dq_lits.specs.Formula.{Dqbf}
use Rattle.hint_log.specs.Entries.{Entry, Named, Given, Answer, Round, Begun, ProofLog, name_of}
use Rattle.hint_log.specs.declared.names.Name.TheVariants.{Selector}
use Rattle.hint_log.specs.declared.origins.Leaf.{Leaf}
use Rattle.hint_log.specs.declared.origins.Origin.TheVariants.{Fault}
use Rattle.hint_log.specs.Growth.{Each, Grew}
use Rattle.hint_log.specs.ProductiveLog.{fault_groups, fault_room}
use Rattle.log_laws.specs.Engines.{circuits, IsOwnGiven, IsAddedBy, LeavesRest}
use Rattle.log_laws.proofs.LargerLogs.{each_grown, grown_then, leaves_rest}
use Rattle.log_laws.proofs.Kept.{NamesStay, name_stays_by, unnamed_earlier}
use Rattle.log_laws.proofs.Found.{each_weaker}
use Rattle.oracle.specs.Calls.{IsMade, IsLearnedEntry, IsRefutedUnder}
use Rattle.oracle.specs.declared.groups.Group.{Group}
use Rattle.circuit_cnf.specs.declared.checkers.Checker.{Checker}
use Rattle.circuit_cnf.specs.Checking.{group_of, gate_groups, IsChecker}
use Rattle.circuit_cnf.specs.Faults.{HaveOneLeaf, AreNamedAndSaid}
use Rattle.circuit_cnf.proofs.EmptyGroups.{IsUnused, group_is_unused, not_given_there}
use Rattle.circuit_cnf.specs.Turning.{AreTurnGroups, HasTurned, IsGroupMade}
use Rattle.circuit_cnf.proofs.UnchangedCheckers.{checker_stays, leaves_elsewhere, group_leaves, learned_leaves, leaves_then}
use Rattle.std.specs.List.{Contains}
use Rattle.circuit_cnf.specs.declared.gates.Gates.{Gates}
use Rattle.circuit_cnf.specs.Gates.{GrewByGates, groups_of}
use Rattle.circuit_cnf.proofs.KnownGates.{LeavesGates}
use Rattle.circuit_cnf.proofs.OutputLeaves.{few_by_gates}
use Rattle.circuit_cnf.proofs.TurnGrowth.{AreFewFaults, any_silence, grew_since, other_standing, group_grew, learned_grew, answered_grew, few_without, few_learned, few_answered}

unused_own : (f : Dqbf) (group : ℕ) (earlier : List Entry) (e : Entry) → IsUnused group earlier e →
    IsOwnGiven f circuits group earlier e
unused_own f group earlier (Given origin c) h = λ inside. absurd (h inside)
unused_own f group earlier _ h = tt

added_own : (f : Dqbf) (standing : ℕ) (start : List Entry) (group : ℕ) (earlier : List Entry) (e : Entry) →
    IsAddedBy f circuits standing true start earlier e → IsOwnGiven f circuits group earlier e
added_own f standing start group earlier (Given origin c) h = λ inside. (h.own, h.matches_origin)
added_own f standing start group earlier (Round row values j) h = absurd h
added_own f standing start group earlier (Begun live) h = absurd h
added_own f standing start group earlier _ h = tt

module _ (f : Dqbf) (checker : Checker) (leaf : ℕ → Leaf) (old first : ProofLog) (group : Group)
    (m : IsGroupMade f checker old first group) where
  abbrev sel : ℕ
  sel = variable_of group.selector

  entries_are : first.entries ≡ Named (variable_of group.selector) (Selector (variable_of group.selector)) ∷ old.entries
  entries_are = ap (λ (l : ProofLog). l.entries) m.is

  unused : Each (IsUnused sel) (Named sel (Selector sel) ∷ old.entries)
  unused = (tt, group_is_unused sel old.entries m.unnamed m.grouped)

  apart : (g : Group) → Contains (gate_groups checker) g → variable_of g.selector ≢ sel
  apart g inside same = let none : None ≡ Some (Selector (variable_of g.selector)) =
      sym m.unnamed ∙ ap (name_of old.entries) (sym same) ∙ (m.before.gates.made g inside).named in cc

  stay_first : NamesStay old.entries first.entries
  stay_first = subst (NamesStay old.entries) (sym entries_are) (name_stays_by old.entries sel (Selector sel) m.unnamed)

  pub group_checker : IsChecker f checker first.entries
  group_checker = checker_stays f checker old.entries first.entries
      (subst (LeavesGates checker.gates old.entries) (sym entries_are)
      (leaves_elsewhere checker.gates old.entries (Named sel (Selector sel)) (m.unnamed, refl))) m.before

  pub group_one_leaf : HaveOneLeaf f sel leaf first.entries
  group_one_leaf j i v out rest inside own =
      absurd (not_given_there sel (Named sel (Selector sel) ∷ old.entries) unused (Fault j i out) rest
      (subst (λ es. Contains es (Given (Fault j i out) (negative sel ∷ rest))) entries_are inside))

  module _ (log : ProofLog) (s : AreNamedAndSaid f sel leaf first log) where
    -- the same growth, with what stood before the group
    since : Grew (IsAddedBy f circuits sel true old.entries) first log
    since = s.grew sel old.entries m.unnamed

    pub faults_checker : IsChecker f checker log.entries
    faults_checker = checker_stays f checker first.entries log.entries
        (group_leaves f circuits sel true old.entries checker.gates
        first log since m.before.gates.made apart s.stay s.names
        (subst IsSome (sym m.made.named) refl) m.ready) group_checker

    pub faults_grew : (silent : Bool) → Grew (IsAddedBy f circuits (group_of checker) silent old.entries) old log
    faults_grew silent = grown_then (IsAddedBy f circuits (group_of checker) silent old.entries) old first log
        (group_grew f circuits (group_of checker) silent old.entries sel old first m.unnamed m.is)
        (any_silence f circuits (group_of checker) silent old.entries first log
        (s.grew (group_of checker) old.entries m.unnamed))

    pub faults_made : IsMade log.entries group
    faults_made = record { positive = m.made.positive; named = s.stay sel (Selector sel) m.made.named }

    pub faults_groups : AreTurnGroups f leaf (gate_groups checker) sel old.entries log.entries
    faults_groups = record {
      gates_made = faults_checker.gates.made;
      faults_named = faults_made.named;
      faults_new = m.unnamed;
      names = λ v n is. s.stay v n (stay_first v n is);
      gates_own = faults_checker.gates.own;
      faults_own = subst (Each (IsOwnGiven f circuits sel)) (sym since.grown)
          (each_grown (IsAddedBy f circuits sel true old.entries) (IsOwnGiven f circuits sel)
          (added_own f sel old.entries sel) since.more first.entries since.each
          (subst (Each (IsOwnGiven f circuits sel)) (sym entries_are)
          (each_weaker (IsUnused sel) (IsOwnGiven f circuits sel) (unused_own f sel)
          (Named sel (Selector sel) ∷ old.entries) unused)));
      one_leaf = s.one_leaf;
    }

    pub faults_turned : (silent : Bool) → HasTurned f checker checker silent old log
    faults_turned silent = record {
      checker = faults_checker;
      kept = λ g inside. inside;
      fresh = λ g inside. inl inside;
      group = inl refl;
      grew = faults_grew silent;
      few = few_without sel log.entries s.few;
    }

-- a search that learns, and perhaps answers
module _ (f : Dqbf) (checker : Checker) (old log new : ProofLog)
    (turned : HasTurned f checker checker true old log) where
  pub learned_turned : Grew IsLearnedEntry log new → HasTurned f checker checker true old new
  learned_turned g = record {
    checker = checker_stays f checker log.entries new.entries (learned_leaves checker.gates log new g) turned.checker;
    kept = turned.kept;
    fresh = turned.fresh;
    group = turned.group;
    grew = grown_then (IsAddedBy f circuits (group_of checker) true old.entries) old log new turned.grew
        (learned_grew f circuits (group_of checker) true old.entries log new g);
    few = few_learned log new g turned.few;
  }

  pub answered_turned : (assumptions : List Literal) (id : ℕ) → IsRefutedUnder log new assumptions id →
      HasTurned f checker checker false old new
  answered_turned assumptions id r = record {
    checker = subst (λ (l : ProofLog). IsChecker f checker l.entries) (sym r.answered)
        (checker_stays f checker log.entries (Answer r.clause r.hints ∷ r.before.entries)
        (leaves_then checker.gates log.entries r.before.entries (Answer r.clause r.hints ∷ r.before.entries)
        (learned_leaves checker.gates log r.before r.learned)
        (leaves_elsewhere checker.gates r.before.entries (Answer r.clause r.hints) tt)) turned.checker);
    kept = turned.kept;
    fresh = turned.fresh;
    group = turned.group;
    grew = grown_then (IsAddedBy f circuits (group_of checker) false old.entries) old log new
        (any_silence f circuits (group_of checker) false old.entries old log turned.grew)
        (answered_grew f circuits (group_of checker) false old.entries refl assumptions log new id r);
    few = few_answered assumptions log new id r turned.few;
  }

-- a turn's step that leaves the groups of gates as they are
pub same_groups_turned : (f : Dqbf) (before after : Checker) (silent : Bool) (old new : ProofLog) →
    IsChecker f after new.entries → gate_groups after ≡ gate_groups before →
    Grew (IsAddedBy f circuits (group_of before) silent old.entries) old new → AreFewFaults new.entries →
    HasTurned f before after silent old new
same_groups_turned f before after silent old new checker same grew few = record {
  checker = checker;
  kept = λ g inside. subst (λ gs. Contains gs g) (sym same) inside;
  fresh = λ g inside. inl (subst (λ gs. Contains gs g) same inside);
  group = inl (first_group after before same);
  grew = grew;
  few = few;
} where
  head : List Group → ℕ
  head [] = 0
  head (g ∷ gs) = variable_of g.selector

  first_group : (a b : Checker) → gate_groups a ≡ gate_groups b → group_of a ≡ group_of b
  first_group a b is = ap head is

-- the gates of the outputs, and then a search
pub leaves_turned : (f : Dqbf) (before after : Checker) (old new : ProofLog) → IsChecker f after new.entries →
    gate_groups after ≡ gate_groups before → GrewByGates (group_of before) old new →
    fault_groups new.entries ≡ fault_groups old.entries → length (fault_groups old.entries) < fault_room old.entries →
    HasTurned f before after true old new
leaves_turned f before after old new checker same grew faults few =
    same_groups_turned f before after true old new checker same (grew f old.entries)
    (few_by_gates (group_of before) old new grew faults few)

-- one step, and then another
pub turned_then : (f : Dqbf) (before middle after : Checker) (silent : Bool) (old log new : ProofLog) →
    HasTurned f before middle true old log → HasTurned f middle after silent log new →
    HasTurned f before after silent old new
turned_then f before middle after silent old log new first second = record {
  checker = second.checker;
  kept = λ g inside. second.kept g (first.kept g inside);
  fresh = λ g inside. elim (second.fresh g inside)
      [ inl was ↦ first.fresh g was | inr none ↦ inr (unnamed (variable_of g.selector) none) ];
  group = elim second.group [
    | inl same ↦ subst (λ n. (n ≡ group_of before) ⊎ (name_of old.entries n ≡ None)) (sym same) first.group
    | inr none ↦ inr (unnamed (group_of after) none)
  ];
  grew = grown_then (IsAddedBy f circuits (group_of before) silent old.entries) old log new
      (any_silence f circuits (group_of before) silent old.entries old log first.grew)
      (other_standing f circuits (group_of middle) (group_of before) silent old.entries first.group log new
      (grew_since f circuits (group_of middle) silent old.entries log.entries rest.names log new second.grew));
  few = second.few;
} where
  rest : LeavesRest f circuits (group_of before) true old.entries log.entries
  rest = leaves_rest f circuits (group_of before) true old log first.grew

  unnamed : (v : ℕ) → name_of log.entries v ≡ None → name_of old.entries v ≡ None
  unnamed = unnamed_earlier old.entries log.entries rest.names

pub quiet_turned : (f : Dqbf) (before after : Checker) (silent : Bool) (old new : ProofLog) →
    HasTurned f before after true old new → HasTurned f before after silent old new
quiet_turned f before after silent old new turned = record {
  checker = turned.checker;
  kept = turned.kept;
  fresh = turned.fresh;
  group = turned.group;
  grew = any_silence f circuits (group_of before) silent old.entries old new turned.grew;
  few = turned.few;
}

-- a checker with the same gates and inputs
noted_checker : (f : Dqbf) (after noted : Checker) (es : List Entry) → noted.gates ≡ after.gates →
    noted.inputs ≡ after.inputs → IsChecker f after es → IsChecker f noted es
noted_checker f after noted es gates inputs checker = search arith

pub noted_turned : (f : Dqbf) (before after noted : Checker) (silent : Bool) (old new : ProofLog) →
    noted.gates ≡ after.gates → noted.inputs ≡ after.inputs → HasTurned f before after silent old new →
    HasTurned f before noted silent old new
noted_turned f before after noted silent old new gates inputs turned = record {
  checker = noted_checker f after noted new.entries gates inputs turned.checker;
  kept = λ g inside. subst (λ (x : Gates). Contains (groups_of x) g) (sym gates) (turned.kept g inside);
  fresh = λ g inside. turned.fresh g (subst (λ (x : Gates). Contains (groups_of x) g) gates inside);
  group = subst (λ (x : Gates). (variable_of x.group.selector ≡ group_of before) ⊎
      (name_of old.entries (variable_of x.group.selector) ≡ None)) (sym gates) turned.group;
  grew = turned.grew;
  few = turned.few;
}
