use Rattle.std.proofs.Common.{◌≡◌, ◌++◌, map, length}
use Rattle.dq_text.specs.Written.{number_text}
use Rattle.cert_text.proofs.sign_words.universal_words.Given as goal

abbrev pub invariant-loop-x : goal.invariant-loop-x
invariant-loop-x l = l.words ++ map number_text l.rest ≡ map number_text l.universals

abbrev pub decreases-loop-x : goal.decreases-loop-x
decreases-loop-x l = length l.rest
