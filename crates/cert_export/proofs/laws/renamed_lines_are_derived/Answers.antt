use Rattle.cert_export.proofs.Renamings.{renamed_lines_are_derived}
use Rattle.cert_export.proofs.laws.renamed_lines_are_derived.Goals as goal

pub returns : goal.returns
returns c = renamed_lines_are_derived
