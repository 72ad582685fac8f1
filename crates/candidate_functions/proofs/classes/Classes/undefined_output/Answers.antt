use Rattle.std.proofs.Common.{Contains, sym, subst}
use Rattle.definition_order.proofs.Declared.{is_variable}
use Rattle.expansion.specs.Table.{point_bits}
use Rattle.candidate_functions.proofs.UndefinedOutputs.{right_is_candidate}
use Rattle.candidate_functions.proofs.classes.Classes.undefined_output.Goals as goal

pub has_all_points-requires-clause-existential : goal.has_all_points-requires-clause-existential
has_all_points-requires-clause-existential c = subst (λ vs. Contains vs c.args.own.now.y) (sym c.requires.variables)
    (is_variable c.args.known.now.f.now c.args.own.now.y c.requires.declared)

pub returns-then-has_all_points-clause-output : goal.returns-then-has_all_points-clause-output
returns-then-has_all_points-clause-output c = λ rules e found by.
    let own = c.args.own.now in
    right_is_candidate c.args.known.now.f.now c.every_formula_is_lawful.ensures c.args.known.now.table.now.rows
    (point_bits c.args.known.now.points.now) c.requires.whole c.requires.points rules own.y own.place
    e found c.args.graph.now own.node own.values.now by c.requires.known
    (c.has_all_points.ensures c.if-has_all_points.true)

pub patched_output-requires-clause-classes : goal.patched_output-requires-clause-classes
patched_output-requires-clause-classes c = c.in_ok-place.ensures.classes c.args.graph.now c.requires.classes
