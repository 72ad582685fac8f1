use Rattle.std.proofs.Common.{◌*◌, ◌∷◌, [], ◌++◌, map, length, ◌∙◌, ap, arith}
use Rattle.std.specs.Prelude.{slice_index_or}
use Rattle.lifted_proofs.proofs.NamedGoals.{line-instance, line-added, no-hints}
use Rattle.lifted_proofs.proofs.lines.Written.id_of.Goals as goal

pub returns-then-is_empty-clause-line : goal.returns-then-is_empty-clause-line
returns-then-is_empty-clause-line c =
    search (
      arith,
      (line-instance c.args.table.now c.args.plan.now c.args.self.now c.args.q c.instance_id-instance.result c.goal-goal.result),
      no-hints,
    )

pub ids_at-requires : goal.ids_at-requires
ids_at-requires c = search arith

pub returns-clause-line : goal.returns-clause-line
returns-clause-line c =
    let p = c.args.plan.now in
    let w = c.args.self.now in
    let n = c.clauses-clauses.result in
    let count = ap (λ m. length p.rows * m) c.clauses-clauses.ensures.value in
    let rows = ap (λ xs. length xs * n) c.items.ensures in
    line-added c.args.table.now p w c.args.q c.instance_id-instance.result c.goal-goal.result c.reason-reason.result.now
    c.goal-goal.ensures c.reason-reason.ensures c.requires.written.lines c.instance_id-instance.ensures
    (record w { steps = c.push-2.new.self }) _ c.deref-3.result.now c.deref-4.result.now c.requires.hints
    (c.deref-3.ensures.value ∙ c.in_ok-literals.ensures)
    (c.deref-4.ensures.value ∙ c.in_ok-push.ensures.items
    ∙ ap (λ xs. xs ++ c.instance_id-instance.result ∷ []) (c.in_ok-hints.ensures
    ∙ ap (λ xs. map (λ h. slice_index_or xs h 0) c.deref-2.result.now) c.deref.ensures.value
    ∙ ap (map (λ h. slice_index_or w.ids.items h 0)) c.deref-2.ensures.value))
    (omega (arith, count, rows, c.len.ensures.value)) c.in_ok-push-2.ensures.ok
