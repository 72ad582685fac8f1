use Rattle.std.proofs.Common.{◌≡◌, ℕ, Some, None, cond, refl, subst}
use Rattle.std.specs.BTreeMap.{get}
use Rattle.std.specs.Ordering.{is_eq}
use Rattle.circuit_cnf.specs.Gates.{pair_cmp}
use Rattle.circuit_cnf.proofs.KnownGates.{pair_is, known_as_before, finished}
use Rattle.circuit_cnf.proofs.gates.Gates.finish_gate.Goals as goal

pub returns-in_err-insert-clause-known : goal.returns-in_err-insert-clause-known
returns-in_err-insert-clause-known g c =
    known_as_before c.give_parts.new.self c.insert.new.self c.give_parts.new.log.entries c.give_parts.ensures.known
    c.in_err-insert.ensures.err

pub returns-clause-known : goal.returns-clause-known
returns-clause-known g c =
    let gates = c.give_parts.new.self in
    let gate = record c.args.gate.now { parts = 3 } in
    let is = pair_is c.code.result c.code-2.result gate.left gate.right c.code.ensures c.code-2.ensures in
    let updates = subst (λ (p : ℕ × ℕ). (q : ℕ × ℕ) → get pair_cmp c.insert.new.self q ≡ cond (is_eq (pair_cmp p q))
    (Some gate.variable) (get pair_cmp gates.variables q)) is c.in_ok-insert.ensures.updates.0 in
    finished gates (record { group = gates.group; earlier = gates.earlier; variables = c.insert.new.self; unfinished = None })
    c.give_parts.new.log.entries gate c.give_parts.ensures.known c.in_ok-give_parts.ensures.last refl refl
    refl updates
