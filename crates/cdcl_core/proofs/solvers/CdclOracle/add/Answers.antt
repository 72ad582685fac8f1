use Rattle.std.proofs.Common.{◌≡◌, ◌∷◌, ◌++◌, [], ◌∙◌, ap, sym, subst, true, List}
use Rattle.dq_lits.specs.Literal.{Literal, opposite}
use Rattle.dq_lits.specs.Derivation.{holds}
use Rattle.dq_lits.proofs.HeldLiterals.{held_of_all}
use Rattle.hint_log.specs.Entries.{ProofLog}
use Rattle.learning_trail.specs.Resting.{HeldFit}
use Rattle.oracle.specs.Searched.{Stands}
use Rattle.oracle.specs.Calls.{IsPlain}
use Rattle.cdcl_core.specs.Solver.{Shown}
use Rattle.learning_trail.proofs.Taught.{all_named}
use Rattle.learning_trail.proofs.FitLogs.{held_given, given_stands, given_grouped}
use Rattle.cdcl_core.proofs.solvers.CdclOracle.add.Goals as goal

pub returns-clause-fit : goal.returns-clause-fit
returns-clause-fit c =
    let es = c.args.log.now.entries in
    let s = c.self.inside.searcher in
    let clause = c.deref.result.now in
    let is : clause ≡ opposite c.args.g.now.selector ∷ c.args.lits.now =
    c.deref.ensures.value ∙ c.in_ok-clause.ensures in
    let resting = s.resting.flags.items in
    let fit : HeldFit s.clauses.clauses resting s.variables es = subst
    (λ (v : Shown). HeldFit v.held v.resting v.variables es)
    (sym c.self.view_is) c.requires.fit in
    let stands : (l : Literal) → holds clause l ≡ true → Stands es l = λ l h.
    given_stands es c.args.g.now c.args.lits.now c.requires.made
    (held_of_all (IsPlain es) c.args.lits.now c.requires.plain) l (ap (λ xs. holds xs l) (sym is) ∙ h) in
    subst (λ (cs : List (List Literal)). HeldFit cs resting s.variables c.keep_given.new.log.entries) (sym c.in_ok-id.ensures.held)
    (subst (λ (l : ProofLog). HeldFit (s.clauses.clauses ++ clause ∷ []) resting s.variables l.entries) (sym c.in_ok-id.ensures.ok)
    (held_given s.clauses.clauses resting s.variables es clause fit c.args.origin (all_named es clause stands) stands
    (given_grouped es c.args.g.now c.args.lits.now clause c.requires.made
    (held_of_all (IsPlain es) c.args.lits.now c.requires.plain) is)))
