use Rattle.std.proofs.Common.{◌++◌, true, length, ◌∙◌, ap, arith}
use Rattle.dq_formula.specs.Xor.{first_parity_clauses, xor_clauses}
use Rattle.dq_formula.proofs.XorSteps.{room_less, few_clauses, whole_clauses, length-take_few}
use Rattle.dq_formula.proofs.matrix.Matrix.push_xor.Goals as goal

pub put_parity-requires-clause-room : goal.put_parity-requires-clause-room
put_parity-requires-clause-room c =
    let lits = c.args.lits.now in
    let n = length lits in
    room_less c.make_room.new.self (length (first_parity_clauses true lits n)) (few_clauses lits n c.requires.short)
    (c.in_ok-make_room.ensures.room 80 (omega arith))

pub returns-clause-ok : goal.returns-clause-ok
returns-clause-ok c =
    let lits = c.args.lits.now in
    whole_clauses lits _ (length-take_few (length lits) _) c.put_parity.ensures.put ∙ ap
    (λ clauses. clauses ++ xor_clauses lits) (c.in_ok-make_room.ensures.same ∙ c.self.view_is)
