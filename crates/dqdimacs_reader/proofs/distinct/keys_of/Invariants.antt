use Rattle.std.proofs.Common.{take}
use Rattle.dqdimacs_reader.specs.LiteralKey.{AreKeysOf}
use Rattle.dqdimacs_reader.proofs.distinct.keys_of.Given as goal

abbrev pub invariant-loop-literal : goal.invariant-loop-literal
invariant-loop-literal l = AreKeysOf (take l.literal-index l.literals) l.keys
