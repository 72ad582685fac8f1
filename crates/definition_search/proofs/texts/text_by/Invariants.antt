use Rattle.definition_search.specs.Searching.{IsSearch}
use Rattle.definition_search.specs.Texts.{GoesOn}
use Rattle.definition_search.proofs.WrittenTexts.{IsWritten}
use Rattle.definition_search.proofs.texts.text_by.Given as goal

abbrev pub invariant-loop-place : goal.invariant-loop-place
invariant-loop-place g l = (g.O.Oracle.Fits l.oracle l.log) × IsSearch l.f l.search l.place l.log.entries
    × IsWritten l.f l.place l.text.items × GoesOn l.f l.fn.log l.log
