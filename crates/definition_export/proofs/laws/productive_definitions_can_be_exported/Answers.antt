use Rattle.definition_export.proofs.ExportableDefinitions.{productive_can_export}
use Rattle.definition_export.proofs.laws.productive_definitions_can_be_exported.Goals as goal

pub returns : goal.returns
returns c = productive_can_export
