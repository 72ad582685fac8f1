use Rattle.std.proofs.Common.{◌≡◌, ◌≢◌, true, false, sym, ◌∙◌, ap, subst}
use Rattle.dq_lits.specs.Derivation.{holds}
use Rattle.dq_lits.specs.Literal.{variable_of, opposite}
use Rattle.dq_formula.specs.Prefix.{is_declared}
use Rattle.known_functions.specs.Guessing.{AreConditions}
use Rattle.known_functions.proofs.ConsistentConditions.{one_more}
use Rattle.known_functions.proofs.lawful_conditions.put_lawful.Goals as goal

pub returns : goal.returns
returns c =
    let f = c.args.f.now in
    let y = c.args.y in
    let l = c.args.l in
    let lits = c.args.lawful.now.items in
    let there : is_declared f (variable_of l) ≡ true = ap (is_declared f) (sym c.var.ensures.value)
    ∙ sym c.is_declared.ensures ∙ c.if-not-is_declared.false in
    let other : variable_of l ≢ y = λ same. c.if-var-y.false (c.var-2.ensures.value ∙ same) in
    let apart : holds lits (opposite l) ≡ false = ap (λ ls. holds ls (opposite l)) (sym c.deref.ensures.value)
    ∙ sym c.contradicts.ensures ∙ c.if-contradicts.false in
    subst (AreConditions f y) (sym c.in_ok-push.ensures.items) (one_more f y lits l c.requires there other apart)
