use Rattle.std.proofs.Common.{◌≡◌, [], length}
use Rattle.script_text.specs.Reading.{clause_from}
use Rattle.script_text.proofs.clauses.take_clause.Given as goal

-- the clause of all words is that of the words from here on, behind the literals that are held
abbrev pub invariant-loop-token : goal.invariant-loop-token
invariant-loop-token l = clause_from l.f [] l.initial.tokens ≡ clause_from l.f l.literals l.tokens

abbrev pub decreases-loop-token : goal.decreases-loop-token
decreases-loop-token l = length l.tokens
