use Rattle.std.proofs.Common.{◌≡◌, ◌+◌, List, drop}
use Rattle.dq_formula.specs.Prefix.{existential_variables}
use Rattle.cert_text.specs.DefinitionBlocks.{DefinitionBlock}
use Rattle.defined_checker.specs.Tallies.{IsTallied}
use Rattle.defined_checker.proofs.TakenBlocks.{put_behind, to_read}
use Rattle.defined_checker.proofs.checks.take_blocks.Given as goal

-- what is to be read from here, behind the blocks so far, is what is to be read in all
abbrev pub invariant-loop-k : goal.invariant-loop-k
invariant-loop-k l = record {
  counted : l.tally.counts.defined + l.tally.counts.free ≡ l.k;
  taken : (blocks : List DefinitionBlock) × (IsTallied l.f blocks l.tally
      × (to_read l.f l.fn.lines (existential_variables l.f)
      ≡ put_behind blocks (to_read l.f l.lines (drop l.k (existential_variables l.f)))));
}
