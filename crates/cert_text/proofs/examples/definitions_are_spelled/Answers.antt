use Rattle.std.proofs.Common.{refl}
use Rattle.cert_text.specs.Examples.{conjunction_beside, conjunction_definitions, conjunction_definitions_text}
use Rattle.cert_text.proofs.SpelledDefinitions.{read_is_spelled}
use Rattle.cert_text.proofs.examples.definitions_are_spelled.Goals as goal

pub returns : goal.returns
returns c = read_is_spelled conjunction_definitions_text 1 conjunction_beside conjunction_definitions refl
