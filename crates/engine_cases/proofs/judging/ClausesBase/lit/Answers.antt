use Rattle.std.proofs.Common.{rules, ◌<◌, length, sym, ◌∙◌, ap, IsSome, Some, subst, Option, List}
use Rattle.std.proofs.lemmas.Option.{slice_get-get_or}
use Rattle.dq_lits.specs.Literal.{Literal}
use Rattle.rup_core.specs.Reading.{literal_at}
use Rattle.proof_checker.proofs.MatrixPlaces.{place_below}
use Rattle.engine_cases.proofs.Ids.{literal_known}
use Rattle.engine_cases.proofs.judging.ClausesBase.lit.Goals as goal

pub clause-requires : goal.clause-requires
clause-requires c = (literal_known c.args.self.now.log.now.entries c.args.id c.args.i c.requires).known

pub offset_bounds-clause-i : goal.offset_bounds-clause-i
offset_bounds-clause-i c =
    let below : c.args.i < length c.clause.result.now = place_below c.clause.result.now c.args.i
    (subst (λ (o : Option (List Literal)). IsSome (literal_at o c.args.i)) c.clause.ensures c.requires) in
    let small = c.clause.type_inv.1 in
    search rules

pub bounds-clause-i : goal.bounds-clause-i
bounds-clause-i c = place_below c.clause.result.now c.args.i
    (subst (λ (o : Option (List Literal)). IsSome (literal_at o c.args.i)) c.clause.ensures c.requires)

pub returns : goal.returns
returns c =
    let below = place_below c.clause.result.now c.args.i (subst
    (λ (o : Option (List Literal)). IsSome (literal_at o c.args.i)) c.clause.ensures c.requires) in
    ap (λ (o : Option (List Literal)). literal_at o c.args.i) c.clause.ensures
    ∙ slice_get-get_or c.clause.result.now c.args.i c.index-clause-i.result below ∙ ap (λ x. Some x)
    (sym c.index-clause-i.is)
