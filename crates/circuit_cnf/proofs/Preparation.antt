-- What comes before a turn's gates are named.
use Rattle.std.proofs.Common.{◌≡◌, ℕ, ◌<◌, ◌≤◌, Bool, true, false, ◌⊎◌, inl, inr, List, [], ◌∷◌, length, map, None, refl, sym, ◌∙◌, ap, subst, arith}
use Rattle.dq_lits.specs.Literal.{variable_of}
use Rattle.dq_lits.specs.Formula.{Dqbf}
use Rattle.hint_log.specs.Entries.{Entry, Named, ProofLog, name_of, with_entry}
use Rattle.hint_log.specs.Growth.{Grew}
use Rattle.hint_log.specs.Naming.{named_literal}
use Rattle.hint_log.specs.ProductiveLog.{fault_groups, fault_room}
use Rattle.hint_log.specs.declared.names.Name.TheVariants.{Input, Selector}
use Rattle.log_laws.specs.Engines.{circuits, IsAddedBy}
use Rattle.log_laws.proofs.Kept.{named_stay, some_stays, unnamed_earlier}
use Rattle.circuit_cnf.specs.declared.checkers.Checker.{Checker}
use Rattle.circuit_cnf.specs.Checking.{AreInputs, IsChecker, gate_groups, group_of}
use Rattle.circuit_cnf.specs.Gates.{AreKnown, GrewByGates, HasBegunGroup, groups_of}
use Rattle.circuit_cnf.specs.Turning.{HasTurned, IsAtTurnLimit, IsPrepared}
use Rattle.log_laws.proofs.LargerLogs.{leaves_rest}
use Rattle.circuit_cnf.proofs.TurnGrowth.{group_grew}
use Rattle.circuit_cnf.proofs.TurnStages.{leaves_turned, turned_then}
use Rattle.circuit_cnf.proofs.UnchangedCheckers.{checker_stays, leaves_elsewhere}

-- an unfinished gate got its clauses
named_checker : (f : Dqbf) (before after : Checker) (old new : List Entry) → after.inputs ≡ before.inputs →
    ((v : ℕ) → name_of new v ≡ name_of old v) → AreKnown after.gates new → IsChecker f before old →
    IsChecker f after new
named_checker f before after old new inputs names known checker = record {
  gates = known;
  inputs = named_stay old new (λ v n is. names v ∙ is) after.inputs.items
      (map (λ x. named_literal (Input x) false) f.universals) (subst (λ xs. AreInputs f.universals xs.items old)
      (sym inputs) checker.inputs);
  bads = λ v g j is. some_stays old new (λ w n at. names w ∙ at) g (checker.bads v g j (sym (names v) ∙ is));
}

pub finish_prepared : (before after : Checker) (old new : ProofLog) → after.inputs ≡ before.inputs →
    groups_of after.gates ≡ groups_of before.gates → AreKnown after.gates new.entries →
    GrewByGates (group_of before) old new → ((v : ℕ) → name_of new.entries v ≡ name_of old.entries v) →
    fault_groups new.entries ≡ fault_groups old.entries → length (fault_groups old.entries) < fault_room old.entries →
    IsPrepared before after old new
finish_prepared before after old new inputs groups known grew names faults few = record {
  turned = λ f checker. leaves_turned f before after old new
      (named_checker f before after old.entries new.entries inputs names known checker) groups grew faults few;
  faults = faults;
}

-- gates go to a new group
begun_step : (f : Dqbf) (before after : Checker) (old new : ProofLog) → after.inputs ≡ before.inputs →
    IsChecker f before old.entries → length (fault_groups old.entries) ≤ fault_room old.entries →
    (b : HasBegunGroup before.gates after.gates old new) →
    HasTurned f before after true old new × (fault_groups new.entries ≡ fault_groups old.entries)
begun_step f before after old new inputs checker few b = by b.log where
  of_step : Grew (IsAddedBy f circuits (group_of before) true old.entries) old new → IsChecker f before new.entries →
      length (fault_groups new.entries) ≤ fault_room new.entries → HasTurned f before after true old new
  of_step grew still few_now = record {
    checker = record {
      gates = b.known;
      inputs = subst (λ xs. AreInputs f.universals xs.items new.entries) (sym inputs) still.inputs;
      bads = still.bads;
    };
    kept = b.kept;
    fresh = b.fresh;
    group = elim b.group [ inl same ↦ inl (ap (λ g. variable_of g.selector) same) | inr none ↦ inr none ];
    grew = grew;
    few = few_now;
  }

  by : (new ≡ old) ⊎ ((v : ℕ) × (name_of old.entries v ≡ None) × (new ≡ with_entry old (Named v (Selector v)))) →
      HasTurned f before after true old new × (fault_groups new.entries ≡ fault_groups old.entries)
  by (inl same) = (
    of_step (subst (Grew (IsAddedBy f circuits (group_of before) true old.entries) old) (sym same)
        (record { more = []; grown = refl; each = tt; limit = refl }))
        (subst (λ (l : ProofLog). IsChecker f before l.entries) (sym same) checker)
        (subst (λ (l : ProofLog). length (fault_groups l.entries) ≤ fault_room l.entries) (sym same) few),
    ap (λ (l : ProofLog). fault_groups l.entries) same,
  )
  by (inr (v, unnamed, is)) = (
    of_step (group_grew f circuits (group_of before) true old.entries v old new unnamed is)
        (subst (λ (l : ProofLog). IsChecker f before l.entries) (sym is)
        (checker_stays f before old.entries (Named v (Selector v) ∷ old.entries)
        (leaves_elsewhere before.gates old.entries (Named v (Selector v)) (unnamed, refl)) checker))
        (subst (λ (l : ProofLog). length (fault_groups l.entries) ≤ fault_room l.entries) (sym is) few),
    ap (λ (l : ProofLog). fault_groups l.entries) is,
  )

pub begun_prepared : (before middle after : Checker) (old log new : ProofLog) → IsPrepared before middle old log →
    after.inputs ≡ middle.inputs → HasBegunGroup middle.gates after.gates log new → IsPrepared before after old new
begun_prepared before middle after old log new first inputs b = record {
  turned = λ f checker. let one = first.turned f checker in
      let two = begun_step f middle after log new inputs one.checker one.few b in
      turned_then f before middle after true old log new one two.0;
  faults = faults ∙ first.faults;
} where
  faults : fault_groups new.entries ≡ fault_groups log.entries
  faults = elim b.log [
    | inl same ↦ ap (λ (l : ProofLog). fault_groups l.entries) same
    | inr named ↦ ap (λ (l : ProofLog). fault_groups l.entries) named.2
  ]

pub few_prepared : (f : Dqbf) (before after : Checker) (old new : ProofLog) → IsChecker f before old.entries →
    IsPrepared before after old new → length (fault_groups old.entries) < fault_room old.entries →
    length (fault_groups new.entries) < fault_room new.entries
few_prepared f before after old new checker p few =
    let rest = leaves_rest f circuits (group_of before) true old new (p.turned f checker).grew in
    let room = rest.room in
    subst (λ gs. length gs < fault_room new.entries) (sym p.faults) (omega (arith, few, room))

-- and then the gates of the outputs are named
pub prepared_leaves : (f : Dqbf) (before middle after : Checker) (old log new : ProofLog) →
    IsChecker f before old.entries → IsPrepared before middle old log →
    length (fault_groups old.entries) < fault_room old.entries → IsChecker f after new.entries →
    gate_groups after ≡ gate_groups middle → GrewByGates (group_of middle) log new →
    fault_groups new.entries ≡ fault_groups log.entries → HasTurned f before after true old new
prepared_leaves f before middle after old log new checker p few still groups grew faults =
    turned_then f before middle after true old log new (p.turned f checker)
    (leaves_turned f middle after log new still groups grew faults (few_prepared f before middle old log checker p few))

pub unnamed_before_turn : (f : Dqbf) (before after : Checker) (silent : Bool) (old new : ProofLog) →
    HasTurned f before after silent old new → (v : ℕ) → name_of new.entries v ≡ None → name_of old.entries v ≡ None
unnamed_before_turn f before after silent old new turned = unnamed_earlier old.entries new.entries
    (leaves_rest f circuits (group_of before) silent old new turned.grew).names

pub limit_earlier : (checker : Checker) (old middle : List Entry) (log : ProofLog) →
    ((v : ℕ) → name_of middle v ≡ None → name_of old v ≡ None) → IsAtTurnLimit checker middle log →
    IsAtTurnLimit checker old log
limit_earlier checker old middle log earlier (active, of_turn, at) = (
  active,
  λ g inside. elim (of_turn g inside) [ inl mine ↦ inl mine | inr none ↦ inr (earlier (variable_of g.selector) none) ],
  at,
)
