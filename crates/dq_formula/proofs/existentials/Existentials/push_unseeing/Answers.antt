use Rattle.std.proofs.Common.{◌++◌, replicate, length-append, ap, sym, ◌∙◌, subst, arith, eqb}
use Rattle.std.proofs.lemmas.List.{length-replicate}
use Rattle.std.specs.List.{IsDistinct}
use Rattle.std.specs.Map.{keys_of}
use Rattle.dq_formula.proofs.ExistentialColumns.{keys, zip-append, zip-unseeing}
use Rattle.dq_formula.proofs.existentials.Existentials.push_unseeing.Goals as goal

pub joined-requires : goal.joined-requires
joined-requires c =
    let e = c.self.inside in
    subst (λ ks. IsDistinct eqb (ks ++ c.args.ys.now)) (ap keys_of (sym c.self.view_is)
    ∙ keys e.variables e.sets.items c.self.invariant ∙ sym c.items.ensures) c.requires

pub invariant_of-self-2 : goal.invariant_of-self-2
invariant_of-self-2 c = search (arith, replicate, length-append, length-replicate)

pub returns-clause-ok : goal.returns-clause-ok
returns-clause-ok c = search (arith, replicate, zip-append, zip-unseeing)
