use Rattle.std.proofs.Common.{rules, ◌∷◌, ◌++◌, [], sym, ◌∙◌, ap, arith}
use Rattle.dq_text.specs.Line.{lines_from}
use Rattle.dq_text.specs.TextLine.{text_line}
use Rattle.aiger_text.proofs.RemainingLines.{shorter, one_more, comment_stands}
use Rattle.aiger_text.proofs.reader.read_file.Goals as goal

pub loop-line-init : goal.loop-line-init
loop-line-init c =
    record {
      before = text_line c.in-Some.line c.next.new.self.rest ∷ [];
      so_far = ap (λ (l : _). lines_from l.number l.rest) (sym c.new-lines.ensures) ∙ c.in-Some.ensures.line;
      ready = search rules;
      line = search rules;
      same = search rules;
    }

pub loop-line-preserved : goal.loop-line-preserved
loop-line-preserved c =
    let lines = c.next-in-loop-line.new.self in
    let line = text_line c.in-Some-next.line lines.rest in
    record {
      before = c.loop-line.invariant.before ++ line ∷ [];
      so_far = one_more (lines_from c.args.first c.args.bytes.now) c.loop-line.invariant.before
          (lines_from lines.number lines.rest)
          (lines_from c.loop-line.lines.number c.loop-line.lines.rest) line c.loop-line.invariant.so_far
          c.in-Some-next.ensures.line;
      ready = search rules;
      line = search rules;
      same = search rules;
    }

pub returns-in-Ok-CommentMark-clause-comment : goal.returns-in-Ok-CommentMark-clause-comment
returns-in-Ok-CommentMark-clause-comment c = search (arith, comment_stands)

pub returns-in-Err-take_line-clause-exact : goal.returns-in-Err-take_line-clause-exact
returns-in-Err-take_line-clause-exact c = search arith

pub loop-line-smaller : goal.loop-line-smaller
loop-line-smaller c =
    shorter c.loop-line.lines.rest c.in-Some-next.line.text.now _ c.loop-line.lines.number _ _
    c.in-Some-next.ensures.first c.in-Some-next.ensures.line
