use Rattle.std.proofs.Common.{sym, subst, arith}
use Rattle.circuit_cnf.proofs.NamedInputs.{InputsSoFar, no_inputs, next_is_fresh, input_more, all_inputs}
use Rattle.circuit_cnf.proofs.checkers.name_inputs.Goals as goal

pub new_var-requires-clause-fresh : goal.new_var-requires-clause-fresh
new_var-requires-clause-fresh g c = search (arith, next_is_fresh)

pub loop-x-init : goal.loop-x-init
loop-x-init g c = (
  c.requires.fit,
  subst (λ xs. InputsSoFar c.args.f.now c.args.log.now c.args.log.now xs 0)
      (sym c.new-inputs.ensures.items) (no_inputs c.args.f.now c.args.log.now c.requires.none),
)

pub returns-in_err-push-clause-grew : goal.returns-in_err-push-clause-grew
returns-in_err-push-clause-grew g c =
    search (
      arith,
      (input_more c.args.f.now c.args.log.now c.loop-x.log c.new_var.new.log c.loop-x.inputs.items c.loop-x.x-index c.in_ok-v.v c.loop-x.invariant.1),
    )

pub returns-in_err-push-clause-none : goal.returns-in_err-push-clause-none
returns-in_err-push-clause-none g c =
    search (
      arith,
      (input_more c.args.f.now c.args.log.now c.loop-x.log c.new_var.new.log c.loop-x.inputs.items c.loop-x.x-index c.in_ok-v.v c.loop-x.invariant.1),
    )

pub loop-x-preserved : goal.loop-x-preserved
loop-x-preserved g c =
    search (
      arith,
      (input_more c.args.f.now c.args.log.now c.loop-x.log c.new_var.new.log c.loop-x.inputs.items c.loop-x.x-index c.in_ok-v.v c.loop-x.invariant.1),
    )

pub returns-clause-inputs : goal.returns-clause-inputs
returns-clause-inputs g c = search (arith, all_inputs)

pub returns-in_err-push-clause-faults : goal.returns-in_err-push-clause-faults
returns-in_err-push-clause-faults g c = search (arith, input_more)

pub returns-in_err-push-clause-names : goal.returns-in_err-push-clause-names
returns-in_err-push-clause-names g c = search (arith, input_more)
