use Rattle.std.proofs.Common.{[], sym, subst, List}
use Rattle.dq_lits.specs.Literal.{Literal}
use Rattle.hint_log.specs.Entries.{ProofLog}
use Rattle.learning_trail.specs.Resting.{HeldFit}
use Rattle.cdcl_scan.specs.Solver.{Shown}
use Rattle.cdcl_scan.proofs.NamedVariables.{held_group}
use Rattle.cdcl_scan.proofs.solvers.ScanOracle.group.Goals as goal

pub returns-clause-fit : goal.returns-clause-fit
returns-clause-fit c =
    let es = c.args.log.now.entries in
    let s = c.self.inside.searcher in
    let var = c.in_ok-var.var in
    let fit : HeldFit s.clauses.clauses [] s.variables es = subst (λ (v : Shown). HeldFit v.held [] v.variables es)
    (sym c.self.view_is) c.requires.fit in
    subst (λ (cs : List (List Literal)). HeldFit cs [] var c.named.new.self.entries) (sym c.grow.ensures.clauses)
    (subst (λ (l : ProofLog). HeldFit s.clauses.clauses [] var l.entries) (sym c.in_ok-named.ensures.ok)
    (held_group s.clauses.clauses [] s.variables es var fit c.in_ok-var.ensures.next c.in_ok-var.ensures.in_range))
