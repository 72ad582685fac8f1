-- The faults of a search stand in groups that it made.
use Rattle.std.proofs.Common.{◌≡◌, ◌⊎◌, ℕ, Bool, false, List, [], ◌∷◌, ◌++◌, None, arith}
use Rattle.std.specs.List.{Contains}
use Rattle.dq_lits.specs.Formula.{Dqbf}
use Rattle.dq_lits.specs.Literal.{Literal}
use Rattle.hint_log.specs.Entries.{Entry, Given, Round, Begun, ProofLog, name_of}
use Rattle.hint_log.specs.Growth.{Each, EachOf, Grew}
use Rattle.hint_log.specs.Live.{before_beginning}
use Rattle.hint_log.specs.declared.origins.Origin.{Origin}
use Rattle.hint_log.specs.declared.origins.Origin.TheVariants.{Gate, Fault}
use Rattle.log_laws.specs.Engines.{Engine, circuits, same_engine, origin_engine, IsInGroup}
use Rattle.log_laws.specs.Sessions.{IsAddedLive}
use Rattle.circuit_cnf.specs.Gates.{IsGateGiven}
use Rattle.repair_loop.specs.Turning.{AreFaultsNew}
use Rattle.repair_loop.proofs.UnnamedBefore.{unnamed_since}
use Rattle.log_laws.proofs.Kept.{in_one_group}

-- what is no fault adds nothing
other_given : (before earlier : List Entry) (engine : Engine) (origin : Origin) (c : List Literal) →
    same_engine engine circuits ≡ false → origin_engine origin ≡ engine → AreFaultsNew before earlier →
    AreFaultsNew before (Given origin c ∷ earlier)
other_given before earlier engine (Fault j i leaf) c other own new = search arith
other_given before earlier engine _ c other own new = new

others_each : (before : List Entry) (all : Dqbf) (engine : Engine) (groups : List ℕ) (silent : Bool)
    (start more old : List Entry) → same_engine engine circuits ≡ false →
    EachOf (IsAddedLive all engine groups silent start) more old → AreFaultsNew before old →
    AreFaultsNew before (more ++ old)
others_each before all engine groups silent start [] old other each new = new
others_each before all engine groups silent start (Given origin c ∷ more) old other each new =
    search (arith, other_given, (others_each before all engine groups silent start more old other each.1 new))
others_each before all engine groups silent start (Round row values j ∷ more) old other each new = absurd each.0
others_each before all engine groups silent start (Begun live ∷ more) old other each new = absurd each.0
others_each before all engine groups silent start (_ ∷ more) old other each new =
    others_each before all engine groups silent start more old other each.1 new

pub others_new : (all : Dqbf) (engine : Engine) (groups : List ℕ) (silent : Bool) (old new : ProofLog) →
    same_engine engine circuits ≡ false → Grew (IsAddedLive all engine groups silent old.entries) old new →
    before_beginning new.entries ≡ before_beginning old.entries →
    AreFaultsNew (before_beginning old.entries) old.entries → AreFaultsNew (before_beginning new.entries) new.entries
others_new all engine groups silent old new other grew same before = search (arith, others_each)

-- the gates' group has no faults
turn_given : (before start earlier : List Entry) (gates : ℕ) (origin : Origin) (c : List Literal) →
    ((v : ℕ) → name_of start v ≡ None → name_of before v ≡ None) →
    (g : ℕ) × IsInGroup g c × (Contains (gates ∷ []) g ⊎ (name_of start g ≡ None)) →
    IsGateGiven gates earlier (Given origin c) → AreFaultsNew before earlier →
    AreFaultsNew before (Given origin c ∷ earlier)
turn_given before start earlier gates (Gate v i) c older placed own new = new
turn_given before start earlier gates (Fault j i leaf) c older (g, inside, place) own new =
    search (arith, in_one_group)
turn_given before start earlier gates _ c older placed own new = new

turns_each : (before : List Entry) (all : Dqbf) (gates : ℕ) (silent : Bool) (start more old : List Entry) →
    ((v : ℕ) → name_of start v ≡ None → name_of before v ≡ None) →
    EachOf (IsAddedLive all circuits (gates ∷ []) silent start) more old → Each (IsGateGiven gates) (more ++ old) →
    AreFaultsNew before old → AreFaultsNew before (more ++ old)
turns_each before all gates silent start [] old older each own new = new
turns_each before all gates silent start (Given origin c ∷ more) old older each own new =
    search (arith, turn_given, (turns_each before all gates silent start more old older each.1 own.1 new))
turns_each before all gates silent start (Round row values j ∷ more) old older each own new = absurd each.0
turns_each before all gates silent start (Begun live ∷ more) old older each own new = absurd each.0
turns_each before all gates silent start (_ ∷ more) old older each own new =
    turns_each before all gates silent start more old older each.1 own.1 new

pub turns_new : (all : Dqbf) (gates : ℕ) (silent : Bool) (old new : ProofLog) →
    Grew (IsAddedLive all circuits (gates ∷ []) silent old.entries) old new →
    before_beginning new.entries ≡ before_beginning old.entries → Each (IsGateGiven gates) new.entries →
    AreFaultsNew (before_beginning old.entries) old.entries → AreFaultsNew (before_beginning new.entries) new.entries
turns_new all gates silent old new grew same own before = search (arith, turns_each, unnamed_since)
