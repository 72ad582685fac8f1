use Rattle.std.proofs.Common.{◌++◌, ◌∷◌, [], true, ◌∙◌, ap, arith}
use Rattle.rup_core.proofs.PagedClauses.{on_err}
use Rattle.cert_text.specs.Marks.{mark_among}
use Rattle.cert_text.proofs.Marks.{marks_pushed, marks_same}
use Rattle.cert_text.proofs.live_lines.LiveLines.push.Goals as goal

pub returns-in_err-make_room-clause-err : goal.returns-in_err-make_room-clause-err
returns-in_err-make_room-clause-err c = search (arith, on_err, marks_same)

pub returns-clause-ok : goal.returns-clause-ok
returns-clause-ok c =
    marks_pushed c.self.inside.count (mark_among c.self.inside.blocks.items) (mark_among c.make_room.new.blocks.items)
    (mark_among c.set_mark.new.blocks.items) true c.make_room.ensures.same c.set_mark.ensures.sets
    ∙ ap (λ marks. marks ++ true ∷ []) c.self.view_is
