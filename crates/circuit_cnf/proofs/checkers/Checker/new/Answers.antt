use Rattle.std.proofs.Common.{true, inl, refl, None}
use Rattle.dq_lits.specs.Literal.{variable_of}
use Rattle.hint_log.specs.Entries.{Named}
use Rattle.hint_log.specs.declared.names.Name.TheVariants.{Selector}
use Rattle.log_laws.specs.Engines.{circuits, IsAddedBy, IsNamedBy}
use Rattle.log_laws.proofs.LargerLogs.{grown_by, grown_then}
use Rattle.circuit_cnf.proofs.NamedInputs.{new_checker}
use Rattle.circuit_cnf.proofs.checkers.Checker.new.Goals as goal

pub returns-clause-grew : goal.returns-clause-grew
returns-clause-grew g c group =
    let P = IsAddedBy c.args.f.now circuits group true c.args.log.now.entries in
    let v = variable_of c.in_ok-group.group.selector in
    let named : IsNamedBy c.args.f.now circuits c.name_inputs.new.log.entries v (Selector v) =
    record { unnamed = c.in_ok-group.ensures.unnamed; own = inl refl; rightly = tt } in
    grown_then P c.args.log.now c.name_inputs.new.log c.group.new.log (c.name_inputs.ensures.grew group)
    (grown_by P c.name_inputs.new.log c.group.new.log (Named v (Selector v)) c.in_ok-group.ensures.ok named)

pub returns-clause-made : goal.returns-clause-made
returns-clause-made g c =
    new_checker c.args.f.now c.name_inputs.new.log c.group.new.log
    (record {
      alloc = c.args.alloc;
      tenant = c.in_ok-tenant.tenant;
      gates =
          record { group = c.in_ok-group.group; earlier = c.new.result; variables = c.new-2.result; unfinished = None };
      inputs =
          c.in_ok-inputs.inputs;
      batched = 0;
      live = c.new-3.result;
      last_false = 0;
    })
    c.in_ok-inputs.ensures.none c.in_ok-inputs.ensures.inputs c.in_ok-group.ensures.made c.in_ok-group.ensures.unnamed
    c.in_ok-group.ensures.ok c.new-2.ensures.empty c.new.ensures.items refl (g.met.O.Oracle.searched c.name_inputs.new.oracle
    c.name_inputs.new.log c.name_inputs.ensures.fit).grouped
