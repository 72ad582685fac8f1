use Rattle.std.proofs.Common.{arith}
use Rattle.std.proofs.lemmas.Nat.Bits.{bit_at_and, bit_at-lt}
use Rattle.aig_graph.proofs.words.both_words.Goals as goal

pub returns : goal.returns
returns c b =
    search (arith, bit_at_and c.args.left c.args.right b, bit_at-lt c.args.left b, bit_at-lt c.args.right b)
