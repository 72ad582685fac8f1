-- What a run of the solver says.
use Rattle.std.specs.Prelude.{ℕ, List, ◌++◌, codes}
use Rattle.std.specs.Fmt.{decimal}
use Rattle.dq_lits.specs.Formula.{Dqbf}
use Rattle.dq_runs.specs.FormulaFiles.{formula_line}
use Rattle.dq_runs.specs.Printed.{Printed, line, usage_line}
use Rattle.dq_runs.specs.declared.formulas.NoFormula.{NoFormula}
use Rattle.verdict_texts.specs.Forms.{plain}
use Rattle.verdict_texts.specs.declared.forms.Form.{Form}
use Rattle.verdict_texts.specs.Verdicts.{Verdict, printed_verdict}
use Rattle.dq_verdicts.specs.declared.demonstrations.Demonstration.{Demonstration}
use Rattle.dq_verdicts.specs.declared.demonstrations.Demonstration.TheVariants.{Valid, Large, CutOff}
use Rattle.dqsolve_words.specs.Command.{Options, Search, Planting}
use Rattle.pec_runs.specs.DesignFiles.{design_line}
use Rattle.pec_runs.specs.declared.designs.NoDesign.{NoDesign}

abbrev pub usage : Printed
usage =
    usage_line
    (codes "dqsolve solve [--steps N] [--bare] [--v2] [--prep] [--binary] FILE / dqsolve demo SEED SIZE"
    ++ codes " / dqsolve pec [--steps N] SPEC IMPL / dqsolve encode SPEC IMPL"
    ++ codes " / dqsolve defined [--steps N] FILE"
    ++ codes " / dqsolve session [--steps N] FILE SCRIPT")

-- what is said of the files of two circuits that are to be compared
pub data ComparisonReport : Type 0 where
  -- the files give no design
  no_design : NoDesign → ComparisonReport
  -- what was found for the design's formula
  compared : Dqbf → Verdict → ComparisonReport

abbrev pub printed_comparison : ComparisonReport → Printed
printed_comparison (no_design said) = design_line said
printed_comparison (compared f verdict) = printed_verdict plain f verdict

-- how a verdict is written with these options
abbrev pub form_of : Options → Form
form_of o = record { bare = o.bare; deletes = o.deletes; binary = o.binary }

-- what is said of a formula's file that is to be searched
pub data SearchReport : Type 0 where
  -- the file gives no formula
  no_formula : NoFormula → SearchReport
  -- what was found for the formula
  solved : Dqbf → Verdict → SearchReport

abbrev pub printed_search : Search → SearchReport → Printed
printed_search c (no_formula said) = formula_line said
printed_search c (solved f verdict) = printed_verdict (form_of c.options) f verdict

abbrev pub demonstration_text : Demonstration → List ℕ
demonstration_text Valid = codes " TRUE VALID"
demonstration_text Large = codes " TRUE LARGE"
demonstration_text CutOff = codes " UNKNOWN"

abbrev pub demonstration_status : Demonstration → ℕ
demonstration_status Valid = 10
demonstration_status Large = 10
demonstration_status CutOff = 0

-- `demo seed S size Z clauses C`, and what was shown
abbrev pub demo_text : Planting → ℕ → Demonstration → List ℕ
demo_text p clauses shown =
    codes "demo seed "
    ++ (decimal p.seed
    ++ (codes " size "
    ++ (decimal p.size
    ++ (codes " clauses " ++ (decimal clauses ++ demonstration_text shown)))))

abbrev pub printed_demo : Planting → ℕ → Demonstration → Printed
printed_demo p clauses shown =
    record { status = demonstration_status shown; text = line (demo_text p clauses shown) }
