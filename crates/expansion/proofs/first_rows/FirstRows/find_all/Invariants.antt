use Rattle.expansion.specs.FirstRows.{IsRowIndex, AreFirstRows}
use Rattle.expansion.proofs.first_rows.FirstRows.find_all.Given as goal

abbrev pub invariant-loop-place : goal.invariant-loop-place
invariant-loop-place l = IsRowIndex l.new.f.now l.rows l.self × AreFirstRows l.new.f.now l.rows l.new.row.now l.place
    l.firsts.items
