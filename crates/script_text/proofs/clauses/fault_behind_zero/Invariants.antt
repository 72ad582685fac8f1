use Rattle.std.proofs.Common.{◌≡◌, length}
use Rattle.script_text.specs.Reading.{behind_zero}
use Rattle.script_text.proofs.clauses.fault_behind_zero.Given as goal

-- what the words from here on are refused for is what all are
abbrev pub invariant-loop-token : goal.invariant-loop-token
invariant-loop-token l = behind_zero l.f l.initial.tokens ≡ behind_zero l.f l.tokens

abbrev pub decreases-loop-token : goal.decreases-loop-token
decreases-loop-token l = length l.tokens
