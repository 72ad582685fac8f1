use Rattle.std.proofs.Common.{◌+◌, sym, ◌∙◌, ap, subst, slice_index, is_some, take, arith}
use Rattle.std.proofs.lemmas.List.{get_or_default}
use Rattle.cert_export.specs.Names.{renaming, NameTable}
use Rattle.cert_export.proofs.GivenNames.{GivenNamed, one_given, given_here, none_here, all_given}
use Rattle.cert_export.proofs.naming.given_names.Goals.{then-is_some+in_ok-name_variables, else-is_some}
use Rattle.cert_export.proofs.naming.given_names.Goals as goal

pub name_variables-requires-clause-known : goal.name_variables-requires-clause-known
name_variables-requires-clause-known g c = search (arith, get_or_default)

pub loop-id-preserved : goal.loop-id-preserved
loop-id-preserved g c =
    let target = g.N.Naming.target c.args.naming.now in
    let entries = c.args.log.now.entries in
    let ids = c.args.ids.now in
    let i = c.loop-id.id-index in
    let id = slice_index ids i in
    let old = renaming c.loop-id.names in
    let P : NameTable → Type 0 = λ t. GivenNamed target entries (renaming t) (take (i + 1) ids) in
    let is = get_or_default ids i 0 id c.loop-id-test.true in
    elim c.if-is_some.branch [
      | then-is_some+in_ok-name_variables w ↦
          subst P (sym w.names-is) (one_given target entries old
          (renaming w.name_variables.new.names) ids i id c.loop-id.invariant w.in_ok-name_variables.ensures.kept
          w.in_ok-name_variables.ensures.named.right c.loop-id-test.true is
          (given_here target entries (renaming w.name_variables.new.names) id w.clause.result.now w.clause.ensures
          w.in_ok-name_variables.ensures.named.named))
      | else-is_some w ↦
          subst P (sym w.names-is) (one_given target entries old old ids i id c.loop-id.invariant
          (λ v x h. h) c.loop-id.invariant.right c.loop-id-test.true is
          (none_here target entries old id (ap is_some c.origin.ensures ∙ sym c.is_some.ensures ∙ w.if-is_some.false)))
    ]

pub returns : goal.returns
returns g c = all_given (g.N.Naming.target c.args.naming.now) c.args.log.now.entries
    (renaming c.loop-id.names) c.args.ids.now c.loop-id.id-index c.loop-id-test.false c.loop-id.invariant
