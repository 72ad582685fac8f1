use Rattle.std.proofs.Common.{refl}
use Rattle.learning_trail.specs.Steps.{literals_of}
use Rattle.cdcl_scan.proofs.ClausePasses.{shared_within, shared_stuck}
use Rattle.cdcl_scan.proofs.scans.pass_run.Goals as goal

pub is_satisfied-requires : goal.is_satisfied-requires
is_satisfied-requires c = shared_within c.args.clauses.now.clauses c.args.trail.now.room c.args.first c.args.run
    c.requires.in_range c.requires.run c.requires.last

pub returns-then-is_satisfied-clause-passed : goal.returns-then-is_satisfied-clause-passed
returns-then-is_satisfied-clause-passed c = (
  refl,
  shared_stuck c.args.clauses.now.clauses (literals_of c.args.trail.now.steps) c.args.first c.args.run c.requires.run
      c.requires.last (c.is_satisfied.ensures c.if-is_satisfied.true),
)
