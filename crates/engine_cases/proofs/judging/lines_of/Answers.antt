use Rattle.std.proofs.Common.{get_or, subst, Contains, List, ℕ}
use Rattle.std.proofs.lemmas.List.Elements.{Contains-get_or}
use Rattle.engine_cases.proofs.judging.lines_of.Goals as goal

pub line_of-requires : goal.line_of-requires
line_of-requires c =
    let es = c.args.log.now.entries in
    let id = get_or c.items-id-items.result.now c.loop-id.id-index 0 in
    let has : Contains c.in_ok-ids.ids id = subst (λ (xs : List ℕ). Contains xs id) c.items-id-items.ensures
    (Contains-get_or c.items-id-items.result.now c.loop-id.id-index 0 c.loop-id-test.true) in
    c.reached_are_ids.ensures es c.args.answer id c.every_log_is_lawful.ensures c.requires
    (c.in_ok-ids.ensures.sound id has)
