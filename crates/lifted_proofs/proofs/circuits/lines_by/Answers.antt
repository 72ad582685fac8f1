use Rattle.std.proofs.Common.{◌≡◌, ◌+◌, ℕ, List, length, refl, ap, arith}
use Rattle.lifted_proofs.specs.CarriedProofs.{Carrying}
use Rattle.lifted_proofs.specs.Liftables.{carrying_of}
use Rattle.lifted_proofs.specs.Liftings.{formula_of, units_of}
use Rattle.lifted_proofs.proofs.LiftedCircuits.{kept-small, carried-small, all-lines}
use Rattle.lifted_proofs.proofs.circuits.lines_by.Goals as goal

pub carry-requires-clause-can : goal.carry-requires-clause-can
carry-requires-clause-can c = search (arith, kept-small)

pub carry-requires-clause-small : goal.carry-requires-clause-small
carry-requires-clause-small c =
    let l = c.args.lifting.now in
    let it = c.requires.lifting in
    let long = ap (λ (xs : List ℕ). length xs) c.deref-2.ensures.value in
    carried-small l c.in_ok-ids.field-0
    (record {
      gates = l.base.gates;
      largest = l.base.largest;
      places = c.deref.result;
      clauses = c.clauses.result;
      ids = c.deref-2.result;
      some_false = l.base.first + c.len.result;
    })
    c.args.p.now it c.in_ok-ids.ensures c.requires.allowed refl
    c.deref.ensures.value (omega (arith, long, c.deref-2.type_inv.1))

pub returns : goal.returns
returns c =
    let l = c.args.lifting.now in
    let it = c.requires.lifting in
    let w = c.in_ok-ids.field-0 in
    let k : Carrying = record {
      gates = l.base.gates;
      largest = l.base.largest;
      places = c.deref.result.now;
      clauses = c.clauses.result;
      ids = c.deref-2.result.now;
      some_false = l.base.first + c.len.result;
    } in
    let same : k ≡ carrying_of (formula_of l) (units_of l) l.bench.now w.ids.items w.steps =
    cc (
      it.base.gates,
      it.base.largest,
      it.base.first,
      it.kept,
      c.deref.ensures.value,
      c.deref-2.ensures.value,
      c.clauses.ensures.value,
      c.len.ensures.value,
    ) in
    all-lines l w c.add_some_false.new.steps c.carry.new.steps k c.args.p.now it c.in_ok-ids.ensures
    c.in_ok-add_some_false.ensures c.requires.allowed c.requires.derives same c.in_ok-carry.ensures
    (omega (arith, c.if-len-gt-MOST_LINES.false, c.len-2.ensures.value))
