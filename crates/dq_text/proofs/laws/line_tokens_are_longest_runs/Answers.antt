use Rattle.dq_text.proofs.LongestRuns.{tokens_are_longest}
use Rattle.dq_text.proofs.laws.line_tokens_are_longest_runs.Goals as goal

pub returns : goal.returns
returns c = tokens_are_longest
