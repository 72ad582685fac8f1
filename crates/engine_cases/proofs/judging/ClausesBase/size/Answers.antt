use Rattle.std.proofs.Common.{sym, ap, arith}
use Rattle.rup_core.specs.Reading.{clause_size}
use Rattle.engine_cases.proofs.Ids.{clause_absent}
use Rattle.engine_cases.proofs.judging.ClausesBase.size.Goals as goal

pub returns-else-is_id : goal.returns-else-is_id
returns-else-is_id c =
    let last = c.args.self.now.last_is in
    ap clause_size (sym (clause_absent c.args.self.now.log.now.entries c.args.id (λ known.
    let high = known.last in
    c.is_id.ensures.other c.if-is_id.false known.from_one (omega (arith, high, last)))))
