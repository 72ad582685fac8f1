use Rattle.std.proofs.Common.{◌≡◌, ◌+◌, ◌-◌, ◌++◌, ℕ, List, length, map}
use Rattle.proof_deletions.specs.Chains.{IsChain, used_at}
use Rattle.proof_deletions.specs.Deletions.{lines_of, first_number}
use Rattle.proof_deletions.proofs.chains.Chains.numbers.Given as goal

-- what is left of the list
abbrev pub invariant-loop-at : goal.invariant-loop-at
invariant-loop-at l = record {
  left : List ℕ;
  chain : IsChain l.self.nexts.items l.at left;
  whole : l.numbers.items ++ map (λ k. first_number (lines_of l.lines) + k) left
      ≡ map (λ k. first_number (lines_of l.lines) + k) (used_at l.self.table.items 0 l.place);
}

abbrev pub decreases-loop-at : goal.decreases-loop-at
decreases-loop-at l = length l.self.nexts.items - l.at
