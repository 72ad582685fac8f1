-- What is due where a design's formula is asked for.
use Rattle.std.specs.Prelude.{◌≡◌, ◌≢◌, ◌⊎◌, ℕ, ◌<◌, List}
use Rattle.dq_io.specs.State.{FilesState}
use Rattle.dq_lits.specs.Formula.{Dqbf}
use Rattle.dqdimacs_reader.specs.Canonical.{canonical}
use Rattle.dq_runs.specs.FileTexts.{PickedTwice}
use Rattle.dq_runs.specs.Printed.{Printed, printed}
use Rattle.dq_runs.specs.declared.outputs.Output.{Output}
use Rattle.pec_runs.specs.DesignFiles.{max_circuit, IsNoDesign, IsDesignFormula, design_line}
use Rattle.pec_runs.specs.declared.designs.NoDesign.{NoDesign}

-- the formula's canonical text
abbrev pub printed_formula : Dqbf → Printed
printed_formula f = record { status = 0; text = canonical f }

-- the formula of the design in these files is due, or what is said of them
abbrev pub IsEncodeDue : FilesState → FilesState → List ℕ → List ℕ → Printed → Type 0
IsEncodeDue before now spec imp p =
    ((said : NoDesign) × IsNoDesign before now spec imp said × (p ≡ design_line said))
    ⊎ ((f : Dqbf) × IsDesignFormula (before.held spec) (before.held imp) f × PickedTwice before now
    × (p ≡ printed_formula f))

-- it is due, and no fault of the files is passed over
pub record IsEncodeOutput (before now : FilesState) (spec imp : List ℕ)
    (output : Output) : Type 0 where
  pub due : IsEncodeDue before now spec imp (printed output)
  pub long : output.status ≡ 6 → max_circuit < now.given
  pub unfaulted : output.status ≢ 3 → now.faults ≡ before.faults
