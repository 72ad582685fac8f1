use Rattle.std.proofs.Common.{◌∙◌}
use Rattle.cert_text.specs.DefinitionsRead.{definition_seen}
use Rattle.defined_checker.proofs.WalkedCones.{has_listed, is_listed, leaf_found, walk_first}
use Rattle.defined_checker.proofs.leaves.leaves.Goals as goal

pub walk-requires-clause-walked : goal.walk-requires-clause-walked
walk-requires-clause-walked c =
    walk_first c.args.f.now (definition_seen c.args.d.now) c.vars.result c.len.result c.in_ok-gates.gates
    c.new-2.result c.note.new.cone c.vars.ensures.value (c.len.ensures ∙ c.args.d.now.gates.ok.0) c.in_ok-gates.ensures
    c.new-2.ensures c.in_ok-note.ensures.kept c.in_ok-note.ensures.noted

pub returns : goal.returns
returns c v =
    let d = definition_seen c.args.d.now in
    let cone = c.walk.new.cone in (
      λ there. c.in_ok-walk.ensures.leaves v (has_listed cone.leaves v there),
      λ read. is_listed cone.leaves v (leaf_found c.args.f.now d cone c.in_ok-walk.ensures c.requires v read),
    )
