use Rattle.std.proofs.Common.{◌∙◌, ap, subst, refl, map, length, arith}
use Rattle.std.proofs.lemmas.List.{length-map}
use Rattle.dq_lits.specs.Literal.{positive}
use Rattle.hint_log.specs.Entries.{clause_at}
use Rattle.expansion.specs.Table.{IsFullTable}
use Rattle.expansion.proofs.TableAnswers.{searched_grew, table_refuted}
use Rattle.expansion.proofs.FoundPoints.{are_points}
use Rattle.expansion.proofs.Told.{switched_on}
use Rattle.expansion.proofs.tables.Table.solve.Goals as goal

pub returns-clause-grew : goal.returns-clause-grew
returns-clause-grew g c f full = search (arith, searched_grew)

pub returns-clause-point_variables : goal.returns-clause-point_variables
returns-clause-point_variables g c points e = (c.solve_with.ensures.model points e).variables

pub returns-clause-point_rows : goal.returns-clause-point_rows
returns-clause-point_rows g c points e =
    let found = c.solve_with.ensures.model points e in
    ap length found.bits ∙ length-map c.args.self.now.pairs (map found.values)
    ∙ c.requires.table.1.table.own.pairs_long

pub returns-clause-model : goal.returns-clause-model
returns-clause-model g c f points full e =
    let found = c.solve_with.ensures.model points e in
    let t = c.args.self.now in
    let log = c.solve_with.new.log in
    let searched = g.met.O.Oracle.searched c.solve_with.new.oracle log c.solve_with.ensures.fit in
    let table = subst (λ s. IsFullTable f s log.entries) c.solve_with.ensures.same (c.solve_with.ensures.table f full) in
    are_points f t log.entries found.values points.variables points.rows full.formula searched.logged table.table
    found.model.clauses (switched_on found.values (clause_at log.entries) (positive t.group) t.group refl found.model)
    found.variables found.bits

pub returns-clause-refuted : goal.returns-clause-refuted
returns-clause-refuted g c f id full e =
    search (
      arith,
      (table_refuted c.instances_have_no_model.ensures f c.args.self.now c.args.log.now c.solve_with.new.log id full (g.met.O.Oracle.searched c.solve_with.new.oracle c.solve_with.new.log c.solve_with.ensures.fit) (c.solve_with.ensures.refuted id e)),
    )
