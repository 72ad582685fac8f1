use Rattle.std.proofs.Common.{◌∙◌, sym, subst}
use Rattle.std.specs.List.{All}
use Rattle.cert_export.specs.Needed.{IsGatePlace}
use Rattle.cert_export.proofs.ListedGates.{reversed_all, gates_are_needed}
use Rattle.cert_export.proofs.gates.needed_gates.Goals as goal

pub variables_at-requires-clause-named : goal.variables_at-requires-clause-named
variables_at-requires-clause-named c =
    let entries = c.args.log.now.entries in
    let places = c.in_ok-places.places.items in
    subst (All (IsGatePlace entries)) (sym (c.deref.ensures.value ∙ c.reverse.ensures.items))
    (reversed_all (IsGatePlace entries) places c.in_ok-places.ensures.gates)

pub returns : goal.returns
returns c =
    gates_are_needed c.args.log.now.entries c.every_log_is_lawful.ensures c.in_ok-roots.roots
    c.in_ok-places.places.items c.args.ids.now c.args.leaves.now.leaves c.deref.result.now c.variables_at.result
    (c.deref.ensures.value ∙ c.reverse.ensures.items) c.in_ok-roots.ensures c.in_ok-places.ensures
    c.variables_at.ensures
