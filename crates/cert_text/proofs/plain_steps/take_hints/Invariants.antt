use Rattle.std.proofs.Common.{◌≡◌, ◌++◌, ◌≤◌, ◌<◌, pos, map, length}
use Rattle.std.specs.List.{All}
use Rattle.dq_text.specs.Line.{line_tokens}
use Rattle.dq_text.specs.Number.{number_of}
use Rattle.cert_text.specs.Grammar.{integers}
use Rattle.cert_text.proofs.plain_steps.take_hints.Given as goal

abbrev pub invariant-loop-n : goal.invariant-loop-n
invariant-loop-n l = record {
  numbers : map number_of (line_tokens l.line) ≡ integers (map (λ hint. pos hint) l.hints.items)
      ++ map number_of (line_tokens l.rest);
  hints_before : All (λ hint. (1 ≤ hint) × (hint < l.id)) l.hints.items;
}

abbrev pub decreases-loop-n : goal.decreases-loop-n
decreases-loop-n l = length (line_tokens l.rest)
