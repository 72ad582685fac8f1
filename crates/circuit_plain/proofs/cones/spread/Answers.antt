use Rattle.std.proofs.lemmas.List.{length-set}
use Rattle.circuit_plain.proofs.WordsLaws.{words_spread}
use Rattle.circuit_plain.proofs.cones.spread.Goals as goal

pub returns-clause-spread : goal.returns-clause-spread
returns-clause-spread c i = words_spread c.args.words.now c.add_marks.new.words c.add_marks-2.new.words c.args.from
    c.args.left c.args.right i c.requires.left_in_range (rw (c.add_marks.ensures, length-set) c.requires.right_in_range)
    c.add_marks.ensures c.add_marks-2.ensures
