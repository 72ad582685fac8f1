-- The clauses of a gate, one after the other.
use Rattle.std.proofs.Common.{◌≡◌, ℕ, ◌+◌, ◌≤◌, ◌<◌, true, ◌∷◌, length, Some, refl, sym, subst, arith}
use Rattle.dq_lits.specs.Literal.{negative, variable_of}
use Rattle.hint_log.specs.Entries.{Entry, Given, ProofLog, with_entry, name_of}
use Rattle.hint_log.specs.declared.origins.Origin.TheVariants.{Gate}
use Rattle.hint_log.specs.ProductiveLog.{fault_groups, fault_room}
use Rattle.list_laws.proofs.Members.{contains_first}
use Rattle.log_laws.specs.Engines.{circuits, IsAddedBy}
use Rattle.log_laws.proofs.LargerLogs.{grown_by, grown_then}
use Rattle.circuit_cnf.specs.declared.gates.Gates.{Gates}
use Rattle.circuit_cnf.specs.declared.gates.Unfinished.{Unfinished}
use Rattle.circuit_cnf.specs.Gates.{IsUnfinished, AreKnown, IsPartGiven, GrewByGates}
use Rattle.circuit_cnf.proofs.GivenGates.{CanGiveGateFrom, gate_added}
use Rattle.circuit_cnf.proofs.KnownGates.{part_more}

-- the first parts stand in the log, and that is noted
pub record PartsSoFar (first : Gates) (old : ProofLog) (gate : Unfinished) (gates : Gates) (log : ProofLog)
    (parts : ℕ) : Type 0 where
  pub grew : GrewByGates (variable_of first.group.selector) old log
  pub group : gates.group ≡ first.group
  pub earlier : gates.earlier ≡ first.earlier
  pub names : (v : ℕ) → name_of log.entries v ≡ name_of old.entries v
  pub faults : fault_groups log.entries ≡ fault_groups old.entries
  pub few : length (fault_groups log.entries) ≤ fault_room log.entries
  pub known : AreKnown gates log.entries
  pub last : gates.unfinished ≡ Some (record gate { parts = parts })

pub part_given : (first : Gates) (old : ProofLog) (gate : Unfinished) (gates : Gates) (log new : ProofLog) (parts : ℕ) →
    PartsSoFar first old gate gates log parts → parts < 3 →
    IsPartGiven log new (variable_of gates.group.selector) (parts + 1) gate →
    PartsSoFar first old gate (record gates { unfinished = Some (record gate { parts = parts + 1 }) }) new
    (parts + 1)
part_given first old gate gates log new parts before below given =
    subst (λ l. PartsSoFar first old gate more l (parts + 1)) (sym given.added) (record {
      grew = λ h start. grown_then (IsAddedBy h circuits (variable_of first.group.selector) true start) old log
          (with_entry log e) (before.grew h start)
          (grown_by (IsAddedBy h circuits (variable_of first.group.selector) true start) log (with_entry log e) e refl
          (subst (λ g. IsAddedBy h circuits (variable_of g.selector) true start log.entries e) before.group
          (gate_added h start log.entries group gate.variable (parts + 1) gate.left gate.right given.rest ready
          given.rest_is)));
      group = before.group;
      earlier = before.earlier;
      names = before.names;
      faults = before.faults;
      few = before.few;
      known = part_more gates log.entries gate parts given.rest before.known before.last below given.rest_is;
      last = refl;
    }) where
      group : ℕ
      group = variable_of gates.group.selector

      more : Gates
      more = record gates { unfinished = Some (record gate { parts = parts + 1 }) }

      e : Entry
      e = Given (Gate gate.variable (parts + 1)) (negative (variable_of gates.group.selector) ∷ given.rest)

      here : IsUnfinished gates log.entries (record gate { parts = parts })
      here = before.known.last (record gate { parts = parts }) before.last

      ready : CanGiveGateFrom (variable_of gates.group.selector) gate.variable gate.left gate.right (parts + 1) log.entries
      ready = record {
        is_group = (before.known.made gates.group (contains_first gates.group gates.earlier.items)).named;
        is_gate = here.named;
        fresh = λ i c most inside. here.missing i c (omega (arith, most)) inside;
        few = before.few;
      }
