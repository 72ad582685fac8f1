use Rattle.skolem_checker.proofs.SightsLaws.{bit_set}
use Rattle.skolem_checker.proofs.words.set_bit.Goals as goal

pub returns-clause-set : goal.returns-clause-set
returns-clause-set c i v = bit_set c.args.words.now c.args.at c.args.k i v c.requires.in_range c.requires.bit
