use Rattle.std.proofs.Common.{rules, ◌≡◌, sym, subst, List, None}
use Rattle.dq_lits.specs.Literal.{Literal}
use Rattle.hint_log.specs.Entries.{ProofLog, name_of}
use Rattle.oracle.specs.Fit.{Fit}
use Rattle.learning_trail.specs.Resting.{HeldFit}
use Rattle.cdcl_core.specs.declared.resting.Resting.{Resting}
use Rattle.cdcl_core.specs.Solver.{Shown}
use Rattle.cdcl_core.proofs.HeldLogs.{held_named}
use Rattle.cdcl_core.proofs.solvers.CdclOracle.new_var.Goals as goal

pub returns-clause-fit : goal.returns-clause-fit
returns-clause-fit c =
    let s = c.self.inside.searcher in
    let es = c.args.log.now.entries in
    let var = c.in_ok-var.var in
    let after = c.named.new.self.entries in
    let old : HeldFit s.clauses.clauses s.resting.flags.items s.variables es = subst
    (λ (v : Shown). HeldFit v.held v.resting v.variables es) (sym c.self.view_is) c.requires.fit in
    let inner : Fit old.whole var after = search rules in
    let unnamed : name_of es var ≡ None = search rules in
    let named : HeldFit s.clauses.clauses s.resting.flags.items var after =
    subst (λ (l : ProofLog). HeldFit s.clauses.clauses s.resting.flags.items var l.entries)
    (sym c.in_ok-named.ensures.ok)
    (held_named s.clauses.clauses s.resting.flags.items s.variables var es c.args.name old
    (subst (λ (l : ProofLog). Fit old.whole var l.entries) c.in_ok-named.ensures.ok inner) unnamed) in
    subst (λ (cs : List (List Literal)). HeldFit cs c.grow.new.s.resting.flags.items var after) (sym c.grow.ensures.clauses)
    (subst (λ (r : Resting). HeldFit s.clauses.clauses r.flags.items var after) (sym c.grow.ensures.resting) named)
