use Rattle.std.proofs.Common.{◌≡◌, ◌∙◌, ◌+◌, ◌<◌, arith, length, sym}
use Rattle.circuit_plain.specs.Netlist.{left_variable, right_variable}
use Rattle.cert_text.specs.DefinitionsRead.{definition_seen}
use Rattle.defined_checker.proofs.SmallGates.{gate_at}
use Rattle.defined_checker.proofs.WalkedCones.{visited}
use Rattle.defined_checker.proofs.leaves.visit.Goals as goal

pub note-requires : goal.note-requires
note-requires c =
    let f = c.args.f.now in
    let at = gate_at f (f.variables + 1) c.args.d.now.gates.items c.requires.lawful.gates c.args.place
    c.index-gate.result.now c.index-gate.result.now c.requires.there c.index-gate.ensures in
    let low : left_variable c.index-gate.result.now < f.variables + 1 + c.args.place = at.left_before in
    let many : length c.args.cone.now.gates ≡ length c.args.d.now.gates.items = c.requires.walked.as_many in
    omega (arith, low, many, c.requires.there, c.vars.ensures.value)

pub note-requires-then-get : goal.note-requires-then-get
note-requires-then-get c =
    let f = c.args.f.now in
    let at = gate_at f (f.variables + 1) c.args.d.now.gates.items c.requires.lawful.gates c.args.place
    c.index-gate.result.now c.index-gate.result.now c.requires.there c.index-gate.ensures in
    let low : right_variable c.index-gate.result.now < f.variables + 1 + c.args.place = at.right_before in
    let many : length c.args.cone.now.gates ≡ length c.args.d.now.gates.items = c.requires.walked.as_many in
    let kept : length c.note.new.cone.gates ≡ length c.args.cone.now.gates = c.in_ok-note.ensures.kept.as_many in
    omega (arith, low, many, kept, c.requires.there, c.vars-then-get.ensures.value)

pub returns-in_ok-note-2 : goal.returns-in_ok-note-2
returns-in_ok-note-2 c =
    visited c.args.f.now (definition_seen c.args.d.now) c.args.place c.index-gate.result.now c.args.cone.now
    c.note.new.cone c.note-then-get.new.cone c.vars.result c.vars-then-get.result c.requires.lawful c.requires.there
    c.index-gate.ensures c.requires.walked (sym c.get.ensures ∙ c.if-get.true) c.vars.ensures.value
    c.vars-then-get.ensures.value c.in_ok-note.ensures.kept c.in_ok-note.ensures.noted c.in_ok-note-2.ensures.kept
    c.in_ok-note-2.ensures.noted
