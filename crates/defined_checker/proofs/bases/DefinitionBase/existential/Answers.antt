use Rattle.std.proofs.Common.{arith}
use Rattle.std.proofs.lemmas.List.Elements.{All-contains}
use Rattle.list_laws.proofs.Options.{some_of}
use Rattle.defined_checker.proofs.AcceptedBlocks.{declared_existential}
use Rattle.defined_checker.proofs.bases.DefinitionBase.existential.Goals as goal

pub returns-clause-small : goal.returns-clause-small
returns-clause-small c = search (arith, some_of, All-contains, declared_existential)
