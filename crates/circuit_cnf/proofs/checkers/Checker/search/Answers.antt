use Rattle.std.proofs.Common.{sym, subst, arith}
use Rattle.dq_lits.specs.Literal.{variable_of}
use Rattle.circuit_cnf.specs.Faults.{AreBads, leaf_of}
use Rattle.circuit_cnf.specs.Turning.{IsGroupMade, IsHeldBy}
use Rattle.circuit_cnf.proofs.TurnParts.{begun_saying, begun_turned, group_has_no_bads}
use Rattle.circuit_cnf.proofs.checkers.Checker.search.Goals as goal

pub name_bads-requires-clause-fresh : goal.name_bads-requires-clause-fresh
name_bads-requires-clause-fresh g c = search (arith, group_has_no_bads)

pub returns-in_err-bads-clause-turned : goal.returns-in_err-bads-clause-turned
returns-in_err-bads-clause-turned g c =
    let m : IsGroupMade c.args.circuit.now.f.now c.args.self.now c.args.log.now c.group.new.log c.in_ok-group.group =
    record {
      before = c.requires.checker;
      ready = c.requires.ready;
      unnamed = c.in_ok-group.ensures.unnamed;
      made = c.in_ok-group.ensures.made;
      is = c.in_ok-group.ensures.ok;
      logged = (g.met.O.Oracle.searched c.args.oracle.now c.args.log.now c.requires.fit).logged;
      grouped = (g.met.O.Oracle.searched c.args.oracle.now c.args.log.now c.requires.fit).grouped;
      few = c.requires.few;
    } in
    let leaf = leaf_of c.args.circuit.now.f.now c.args.self.now.inputs.items c.args.leaves.now in
    begun_turned c.args.circuit.now.f.now c.args.self.now c.args.log.now c.group.new.log c.in_ok-group.group m leaf
    c.name_bads.new.log c.name_bads.ensures.grew c.name_bads.ensures.faults c.name_bads.ensures.alone _

pub look_twice-requires-clause-saying : goal.look_twice-requires-clause-saying
look_twice-requires-clause-saying g c =
    let m : IsGroupMade c.args.circuit.now.f.now c.args.self.now c.args.log.now c.group.new.log c.in_ok-group.group =
    search arith in
    let named = c.name_bads.ensures in
    let are = subst (λ xs. AreBads c.args.circuit.now.f.now (variable_of c.in_ok-group.group.selector) xs
    c.name_bads.new.log.entries) (sym c.deref-2.ensures.value) c.in_ok-bads.ensures.named in (
      c.args.log.now,
      begun_saying c.args.circuit.now.graph.now c.args.circuit.now.outputs.now _ c.args.self.now c.args.log.now
          c.group.new.log m c.deref.ensures.value c.args.circuit.now.a_node_an_existential c.requires.leaves
          c.requires.formula.bound c.deref-2.result.now c.name_bads.new.log named.grew named.faults named.alone are,
      c.requires.leaves,
    )

pub returns-clause-turned : goal.returns-clause-turned
returns-clause-turned g c =
    let m : IsGroupMade c.args.circuit.now.f.now c.args.self.now c.args.log.now c.group.new.log c.in_ok-group.group =
    search arith in
    let named = c.name_bads.ensures in
    let are = subst (λ xs. AreBads c.args.circuit.now.f.now (variable_of c.in_ok-group.group.selector) xs
    c.name_bads.new.log.entries) (sym c.deref-2.ensures.value) c.in_ok-bads.ensures.named in
    c.look_twice.ensures.turned c.args.log.now
    (begun_saying c.args.circuit.now.graph.now c.args.circuit.now.outputs.now _ c.args.self.now c.args.log.now
    c.group.new.log m c.deref.ensures.value c.args.circuit.now.a_node_an_existential c.requires.leaves
    c.requires.formula.bound c.deref-2.result.now c.name_bads.new.log named.grew named.faults named.alone are)

pub returns-clause-held : goal.returns-clause-held
returns-clause-held g c id e =
    let m : IsGroupMade c.args.circuit.now.f.now c.args.self.now c.args.log.now c.group.new.log c.in_ok-group.group =
    search arith in
    let named = c.name_bads.ensures in
    let are = subst (λ xs. AreBads c.args.circuit.now.f.now (variable_of c.in_ok-group.group.selector) xs
    c.name_bads.new.log.entries) (sym c.deref-2.ensures.value) c.in_ok-bads.ensures.named in
    subst (λ xs. IsHeldBy c.args.circuit.now.f.now (leaf_of c.args.circuit.now.f.now xs c.args.leaves.now)
    c.args.log.now.entries c.look_twice.new.log.entries id) c.deref.ensures.value
    (c.look_twice.ensures.held c.args.log.now id
    (begun_saying c.args.circuit.now.graph.now c.args.circuit.now.outputs.now _ c.args.self.now c.args.log.now
    c.group.new.log m c.deref.ensures.value c.args.circuit.now.a_node_an_existential c.requires.leaves
    c.requires.formula.bound c.deref-2.result.now c.name_bads.new.log named.grew named.faults named.alone are) e)

pub returns-clause-limit : goal.returns-clause-limit
returns-clause-limit g c e =
    let m : IsGroupMade c.args.circuit.now.f.now c.args.self.now c.args.log.now c.group.new.log c.in_ok-group.group =
    search arith in
    let named = c.name_bads.ensures in
    let are = subst (λ xs. AreBads c.args.circuit.now.f.now (variable_of c.in_ok-group.group.selector) xs
    c.name_bads.new.log.entries) (sym c.deref-2.ensures.value) c.in_ok-bads.ensures.named in
    c.look_twice.ensures.limit e c.args.log.now
    (begun_saying c.args.circuit.now.graph.now c.args.circuit.now.outputs.now _ c.args.self.now c.args.log.now
    c.group.new.log m c.deref.ensures.value c.args.circuit.now.a_node_an_existential c.requires.leaves
    c.requires.formula.bound c.deref-2.result.now c.name_bads.new.log named.grew named.faults named.alone are)
