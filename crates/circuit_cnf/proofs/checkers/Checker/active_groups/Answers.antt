use Rattle.std.proofs.Common.{◌≡◌, ◌+◌, ◌++◌, ◌∷◌, [], Vec, Global, length, sym, ◌∙◌, ap, subst, arith}
use Rattle.oracle.specs.declared.groups.Group.{Group}
use Rattle.std.proofs.lemmas.Bool.{false≢true}
use Rattle.circuit_cnf.specs.Turning.{AreActive}
use Rattle.circuit_cnf.proofs.ActiveGroups.{GroupsSoFar, are_active, group_kept, group_left_out}
use Rattle.circuit_cnf.proofs.checkers.Checker.active_groups.Goals as goal
use Rattle.circuit_cnf.proofs.checkers.Checker.active_groups.Goals.{then-is_active+in_ok-push, else-is_active}

pub loop-place-preserved : goal.loop-place-preserved
loop-place-preserved c =
    let earlier = c.args.self.now.gates.earlier.items in
    let place = c.loop-place.place in
    elim c.if-is_active.branch [
      | then-is_active+in_ok-push w ↦ subst (λ (v : Vec Group Global). GroupsSoFar earlier c.args.are_all (place + 1) v.items)
          (sym w.active-is)
          (subst (GroupsSoFar earlier c.args.are_all (place + 1)) (sym w.in_ok-push.ensures.items)
          (group_kept earlier c.loop-place.active.items c.args.are_all place w.index.result.now
          (let test = c.loop-place-test.true in
          let count : c.len-place-end.result ≡ length c.args.self.now.gates.earlier.items =
          c.len-place-end.ensures ∙ c.args.self.now.gates.earlier.ok.0 in omega (arith, test, count))
          w.index.ensures c.loop-place.invariant))
      | else-is_active w ↦ subst (λ (v : Vec Group Global). GroupsSoFar earlier c.args.are_all (place + 1) v.items) (sym w.active-is)
          (group_left_out earlier c.loop-place.active.items c.args.are_all place
          (λ whole. false≢true (sym w.if-is_active.false ∙ c.is_active.ensures whole)) c.loop-place.invariant)
    ]

pub returns : goal.returns
returns c =
    subst (AreActive c.args.self.now c.args.faults.now c.args.are_all)
    (sym (c.in_ok-push-3.ensures.items ∙ ap (λ gs. gs ++ (c.args.faults.now ∷ [])) c.in_ok-push-2.ensures.items))
    (are_active c.args.self.now c.args.faults.now c.args.are_all c.loop-place.place c.loop-place.active.items
    (λ below. let past = c.loop-place-test.false in
    let count : c.len-place-end.result ≡ length c.args.self.now.gates.earlier.items =
    c.len-place-end.ensures ∙ c.args.self.now.gates.earlier.ok.0 in omega (arith, below, past, count))
    c.loop-place.invariant)
