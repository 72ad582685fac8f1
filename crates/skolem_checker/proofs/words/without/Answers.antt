use Rattle.skolem_checker.proofs.SightsLaws.{bits_without}
use Rattle.skolem_checker.proofs.words.without.Goals as goal

pub returns : goal.returns
returns c i small = bits_without c.args.word c.args.other i c.ranges.other.fits small
