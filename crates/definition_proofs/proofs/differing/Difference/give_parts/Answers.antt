use Rattle.std.proofs.Common.{arith}
use Rattle.definition_proofs.proofs.GivenDifferences.{none_differ, second_put, second_stopped}
use Rattle.definition_proofs.proofs.differing.Difference.give_parts.Goals as goal

pub returns-in_err-give_part-clause-differing : goal.returns-in_err-give_part-clause-differing
returns-in_err-give_part-clause-differing g c = search (arith, none_differ)

pub returns-in_err-give_part-2-clause-differing : goal.returns-in_err-give_part-2-clause-differing
returns-in_err-give_part-2-clause-differing g c =
    second_stopped c.args.group.now c.args.self.now c.args.log.now c.give_part.new.log c.give_part-2.new.log
    c.requires.made c.requires.difference c.requires.few c.requires.none c.in_ok-give_part.ensures.put
    c.in_err-give_part-2.ensures.err

pub returns-clause-differing : goal.returns-clause-differing
returns-clause-differing g c =
    second_put c.args.group.now c.args.self.now c.args.log.now c.give_part.new.log c.give_part-2.new.log
    c.requires.made c.requires.difference c.requires.few c.requires.none c.in_ok-give_part.ensures.put
    c.in_ok-give_part-2.ensures.put
