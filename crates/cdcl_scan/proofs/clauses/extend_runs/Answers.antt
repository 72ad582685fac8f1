use Rattle.std.proofs.Common.{◌≡◌, ◌∷◌, ◌++◌, [], sym, ◌∙◌, subst, List, length}
use Rattle.cdcl_scan.specs.declared.clauses.Run.{Run}
use Rattle.cdcl_scan.specs.Runs.{AreRuns}
use Rattle.cdcl_scan.proofs.ClauseRuns.{runs_extended, runs_begun}
use Rattle.cdcl_scan.proofs.clauses.extend_runs.Goals as goal

pub returns-then-is_shared : goal.returns-then-is_shared
returns-then-is_shared c = λ clauses are last.
    subst (λ (rs : List Run). AreRuns 0 rs (clauses ++ c.args.lits.now ∷ []) c.args.last)
    (sym c.put-then-is_shared.ensures.items)
    (runs_extended c.pop.new.self.items c.in-Some.run' clauses c.args.lits.now c.args.last
    (subst (λ (rs : List Run). AreRuns 0 rs clauses (length clauses)) c.in-Some.ensures.items are)
    (c.is_shared.ensures c.if-is_shared.true) last)

pub returns-else-is_shared : goal.returns-else-is_shared
returns-else-is_shared c = λ clauses are last.
    let whole : c.put-else-is_shared.new.runs.items ≡ c.args.runs.now.items =
    c.put-else-is_shared.ensures.items ∙ sym c.in-Some.ensures.items in
    subst (λ (rs : List Run). AreRuns 0 rs (clauses ++ c.args.lits.now ∷ []) c.args.last)
    (sym c.put-else-is_shared-2.ensures.items)
    (runs_begun c.put-else-is_shared.new.runs.items clauses c.args.lits.now c.first_of-else-is_shared.result c.args.last
    (subst (λ (rs : List Run). AreRuns 0 rs clauses (length clauses)) (sym whole) are)
    c.first_of-else-is_shared.ensures last)
