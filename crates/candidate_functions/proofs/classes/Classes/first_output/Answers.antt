use Rattle.std.proofs.Common.{None, slice_index_or, arith}
use Rattle.std.proofs.lemmas.Result.{IfOk-weaker}
use Rattle.expansion.specs.Table.{point_bits}
use Rattle.candidate_functions.specs.Pairs.{IsCandidate, IsFirstOutput}
use Rattle.definition_order.proofs.Declared.{known_at, declared_at}
use Rattle.candidate_functions.proofs.classes.Classes.first_output.Goals as goal

pub undefined_output-requires-clause-declared : goal.undefined_output-requires-clause-declared
undefined_output-requires-clause-declared c = search (arith, declared_at)

pub returns-in-Some-clause-output : goal.returns-in-Some-clause-output
returns-in-Some-clause-output c = search arith

pub returns-in-None-clause-output : goal.returns-in-None-clause-output
returns-in-None-clause-output c = λ rules y at by.
    let f = c.args.known.now.f.now in
    let rows = c.args.known.now.table.now.rows in
    let g = c.undefined_output.new.graph in
    let points = point_bits c.args.known.now.points.now in
    IfOk-weaker c.undefined_output.result (IsCandidate f rows points rules g y)
    (IsFirstOutput f rows points rules g y (slice_index_or c.args.known.now.definitions.now c.args.place None))
    (λ n is. record { is_node = is.is_node; undefined = λ none. is })
    (c.undefined_output.ensures.output rules y (known_at f c.every_formula_is_lawful.ensures c.existentials.result.now
    c.args.place y c.existentials.ensures at) by)
