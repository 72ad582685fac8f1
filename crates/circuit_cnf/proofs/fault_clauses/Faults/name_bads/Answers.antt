use Rattle.std.proofs.Common.{◌≡◌, ◌+◌, ◌++◌, ◌∷◌, [], sym, ◌∙◌, ap, subst, arith}
use Rattle.dq_lits.specs.Literal.{positive, variable_of}
use Rattle.hint_log.specs.Entries.{Named}
use Rattle.hint_log.specs.declared.names.Name.TheVariants.{Bad}
use Rattle.hint_log.specs.Entries.{with_entry}
use Rattle.circuit_cnf.specs.Saying.{selector_in}
use Rattle.circuit_cnf.proofs.NamedBads.{BadsSoFar, bad_more}
use Rattle.circuit_cnf.proofs.fault_clauses.Faults.name_bads.Goals as goal

pub loop-j-init : goal.loop-j-init
loop-j-init g c = search arith

pub returns-in_err-push-clause-grew : goal.returns-in_err-push-clause-grew
returns-in_err-push-clause-grew g c =
    let group = selector_in c.args.self.now in
    let number : c.var.result ≡ group = c.var.ensures.value ∙ ap variable_of c.selector.ensures in
    let added : c.new_var.new.log ≡ with_entry c.loop-j.log (Named c.in_ok-v.v (Bad group (c.loop-j.j + 1))) =
    c.in_ok-v.ensures.ok ∙ ap (λ n. with_entry c.loop-j.log (Named c.in_ok-v.v (Bad n (c.loop-j.j + 1)))) number in
    (bad_more group c.args.log.now c.loop-j.log c.new_var.new.log c.loop-j.bads.items c.loop-j.j c.in_ok-v.v
    c.loop-j.invariant.1 c.in_ok-v.ensures.unnamed added).grew

pub loop-j-preserved : goal.loop-j-preserved
loop-j-preserved g c =
    let group = selector_in c.args.self.now in
    let number : c.var.result ≡ group = c.var.ensures.value ∙ ap variable_of c.selector.ensures in
    let added : c.new_var.new.log ≡ with_entry c.loop-j.log (Named c.in_ok-v.v (Bad group (c.loop-j.j + 1))) =
    c.in_ok-v.ensures.ok ∙ ap (λ n. with_entry c.loop-j.log (Named c.in_ok-v.v (Bad n (c.loop-j.j + 1)))) number in
    let more = bad_more group c.args.log.now c.loop-j.log c.new_var.new.log c.loop-j.bads.items c.loop-j.j c.in_ok-v.v
    c.loop-j.invariant.1 c.in_ok-v.ensures.unnamed added in
    let items : c.push.new.self.items ≡ c.loop-j.bads.items ++ positive c.in_ok-v.v ∷ [] =
    c.in_ok-push.ensures.items ∙ ap (λ l. c.loop-j.bads.items ++ l ∷ []) c.pos.ensures in (
      c.new_var.ensures.fit,
      subst (λ xs. BadsSoFar group c.args.log.now c.new_var.new.log xs (c.loop-j.j + 1))
          (sym items) more,
    )

pub returns-in_err-push-clause-alone : goal.returns-in_err-push-clause-alone
returns-in_err-push-clause-alone g c =
    let group = selector_in c.args.self.now in
    let number : c.var.result ≡ group = c.var.ensures.value ∙ ap variable_of c.selector.ensures in
    let added : c.new_var.new.log ≡ with_entry c.loop-j.log (Named c.in_ok-v.v (Bad group (c.loop-j.j + 1))) =
    c.in_ok-v.ensures.ok ∙ ap (λ n. with_entry c.loop-j.log (Named c.in_ok-v.v (Bad n (c.loop-j.j + 1)))) number in
    (bad_more group c.args.log.now c.loop-j.log c.new_var.new.log c.loop-j.bads.items c.loop-j.j c.in_ok-v.v
    c.loop-j.invariant.1 c.in_ok-v.ensures.unnamed added).alone
