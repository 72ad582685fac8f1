use Rattle.std.proofs.Common.{arith}
use Rattle.known_functions.proofs.Asked.{asked_then}
use Rattle.known_functions.proofs.definitions.Definitions.learn_clash.Goals as goal

pub returns-in_err-is_fixed-2-clause-asked : goal.returns-in_err-is_fixed-2-clause-asked
returns-in_err-is_fixed-2-clause-asked g c = search (arith, asked_then)

pub returns-then-not-branch-2-clause-asked : goal.returns-then-not-branch-2-clause-asked
returns-then-not-branch-2-clause-asked g c = search (arith, asked_then)

pub returns-in_err-keep-clause-asked : goal.returns-in_err-keep-clause-asked
returns-in_err-keep-clause-asked g c = search (arith, asked_then)

pub returns-clause-asked : goal.returns-clause-asked
returns-clause-asked g c = search (arith, asked_then)
