use Rattle.std.proofs.Common.{arith}
use Rattle.definition_export.proofs.NumberedVariables.{lawful_range}
use Rattle.definition_export.proofs.numbers.DefinitionNumbersNaming.name.Goals as goal

pub returns-then-is_declared-clause-range : goal.returns-then-is_declared-clause-range
returns-then-is_declared-clause-range c = search (arith, lawful_range)
