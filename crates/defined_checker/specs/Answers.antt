-- Words of private contracts: what the checks of a block answer.
use Rattle.std.specs.Prelude.{◌≡◌, ℕ, ◌+◌, ◌≤◌, ◌⊎◌, nat_lt, List, [], ◌∷◌, Option, None, Some, if◌then◌else◌}
use Rattle.std.specs.List.{All, Contains}
use Rattle.dq_lits.specs.Derivation.{ProofStep, ProofFault, underived, unfinished}
use Rattle.dq_lits.specs.Formula.{Existential, Dqbf}
use Rattle.cert_text.specs.DefinitionBlocks.{Definition, DefinitionBlock, FreePair}
use Rattle.cert_text.specs.declared.faults.CertStop.{CertStop}
use Rattle.cert_text.specs.declared.faults.CertStop.TheVariants.{Refused as TextRefused, Memory as NoMemory}
use Rattle.defined_checker.specs.DefinitionReads.{MayDefine, IsFirstForeign}
use Rattle.defined_checker.specs.FreePairs.{valuation_assignment}
use Rattle.defined_checker.specs.Judging.{IsJudged, ReadsItsOwn}
use Rattle.defined_checker.specs.declared.faults.DefStop.{DefStop}
use Rattle.defined_checker.specs.declared.faults.DefStop.TheVariants.{Refused, Memory}
use Rattle.defined_checker.specs.declared.faults.DefinitionFault.{DefinitionFault}
use Rattle.defined_checker.specs.declared.faults.DefinitionFault.TheVariants.{Step, Unfinished}

abbrev pub stop_of : CertStop → DefStop
stop_of (TextRefused refusal) = Refused refusal
stop_of NoMemory = Memory

abbrev pub lesser : Option ℕ → ℕ → ℕ
lesser None n = n
lesser (Some other) n = if nat_lt other n then other else n

-- with one more variable, which may be read or not
abbrev pub IsWithLeaf : Type 0 → Option ℕ → ℕ → Option ℕ → Type 0
IsWithLeaf May least leaf new =
    (May × (new ≡ least)) ⊎ ((May → ⊥) × (new ≡ Some (lesser least leaf)))

-- the least of these variables that no definition of the existential may read
abbrev pub IsLeastForeign : Dqbf → Existential → List ℕ → Option ℕ → Type 0
IsLeastForeign f y leaves None = All (MayDefine f y) leaves
IsLeastForeign f y leaves (Some v) =
    Contains leaves v × ((MayDefine f y v → ⊥)
    × ((w : ℕ) → Contains leaves w → (MayDefine f y w → ⊥) → v ≤ w))

abbrev pub IsForeignAnswer : Dqbf → Existential → Definition → Option ℕ → Type 0
IsForeignAnswer f y d None = ReadsItsOwn f y d
IsForeignAnswer f y d (Some v) = IsFirstForeign f y d v

-- both assignments agree there, if a definition may read it
abbrev pub IsAlikeAt : Dqbf → Existential → FreePair → ℕ → Type 0
IsAlikeAt f y p v =
    MayDefine f y v → valuation_assignment f p.first v ≡ valuation_assignment f p.second v

-- steps that have the ids from one on
abbrev pub AreNumberedSteps : ℕ → List ProofStep → Type 0
AreNumberedSteps id [] = Unit {0}
AreNumberedSteps id (s ∷ steps) = (1 ≤ id) × ((s.id ≡ id) × AreNumberedSteps (id + 1) steps)

abbrev pub named_fault : ℕ → Option ProofFault → Option DefinitionFault
named_fault y None = None
named_fault y (Some (underived id)) = Some (Step y id)
named_fault y (Some unfinished) = Some (Unfinished y)

-- the first fault of the blocks so far, with one more block
abbrev pub IsFaultWith : Dqbf → DefinitionBlock → Option DefinitionFault → Option DefinitionFault
    → Type 0
IsFaultWith f block None new = IsJudged f block new
IsFaultWith f block (Some name) new = new ≡ Some name
