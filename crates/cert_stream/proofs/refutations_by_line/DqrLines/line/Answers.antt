use Rattle.std.proofs.Common.{subst}
use Rattle.std.specs.Option.{option_and_then}
use Rattle.std.specs.Prelude.{IfSome}
use Rattle.cert_stream.specs.Bodies.{maybe_body}
use Rattle.cert_stream.specs.ItemsToCome.{item_in}
use Rattle.cert_stream.specs.KeptLines.{KeptLines, seen}
use Rattle.cert_stream.specs.RefutationLines.{MayCome}
use Rattle.cert_stream.specs.declared.bodies.Body.{Body}
use Rattle.cert_stream.proofs.KeptBodies.{came_in_place}
use Rattle.cert_stream.proofs.refutations_by_line.DqrLines.line.Goals as goal

pub returns-in-Ok-clause-item : goal.returns-in-Ok-clause-item
returns-in-Ok-clause-item c =
    let lines = c.self.inside in
    subst (λ (l : KeptLines). IfSome (option_and_then (λ (b : Body). item_in b.items) c.count_line.new.body)
    (MayCome l.formula (seen l).body)) c.self.view_is
    (came_in_place c.lines_are_lawful.ensures.item lines.formula.now (maybe_body lines.body) c.args.text.now
    lines.number c.count_line.new.body c.in-Ok.ensures.line)
