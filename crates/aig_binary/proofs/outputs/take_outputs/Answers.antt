use Rattle.std.proofs.Common.{rules, ◌+◌, ◌<◌, ◌∙◌, ap, arith}
use Rattle.dq_text.specs.Line.{lines_from}
use Rattle.dq_text.specs.TextLine.{text_line}
use Rattle.aiger_text.proofs.RemainingLines.{shorter}
use Rattle.aig_binary.proofs.Steps.{outputs_go_on}
use Rattle.aig_binary.proofs.outputs.take_outputs.Goals as goal

pub loop-i-preserved : goal.loop-i-preserved
loop-i-preserved c =
    let old = c.loop-i.lines in
    let new = c.next.new.self in
    let l = c.in-Some.line in
    let is = c.loop-i.invariant in
    let below : c.loop-i.i < c.args.reader.now.header.outputs = search rules in
    let behind = shorter old.rest l.text.now new.rest old.number (text_line l new.rest)
    (lines_from new.number new.rest) c.in-Some.ensures.first c.in-Some.ensures.line in
    let on = outputs_go_on c.args.reader.now.header.outputs c.loop-i.i c.args.lines.now.number old.number new.number
    c.args.reader.now.circuit c.loop-i.reader.circuit c.take_output.new.reader.circuit c.args.lines.now.rest old.rest
    (text_line l new.rest) (lines_from new.number new.rest) below is.no_inputs is.no_gates is.counted is.same
    c.in-Some.ensures.line c.in-Some.ensures.next_number c.in-Ok.ensures.netlist in
    record {
      ready = c.in-Ok.ensures.ready;
      header_line = c.in-Ok.ensures.same.header_line ∙ is.header_line;
      header = c.in-Ok.ensures.same.header ∙ is.header;
      no_inputs = on.no_inputs;
      no_gates = on.no_gates;
      counted = on.counted;
      number = c.in-Some.ensures.next_number ∙ ap (λ n. n + 1) is.number ∙ omega arith;
      shorter = omega (arith, behind, is.shorter);
      same = on.same;
    }
