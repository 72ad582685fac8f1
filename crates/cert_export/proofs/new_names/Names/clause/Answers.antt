use Rattle.std.proofs.Common.{◌∙◌, ◌++◌, take, [], ap, sym, arith}
use Rattle.std.proofs.lemmas.List.{append-nil}
use Rattle.std.specs.List.{cons_option}
use Rattle.cert_export.specs.Names.{renaming}
use Rattle.cert_export.specs.Renaming.{renamed_clause}
use Rattle.cert_export.proofs.NewNames.{literal_more}
use Rattle.cert_export.proofs.new_names.Names.clause.Goals.{in-Some+in_ok-push, in_default}
use Rattle.cert_export.proofs.new_names.Names.clause.Goals as goal

pub loop-l-preserved : goal.loop-l-preserved
loop-l-preserved c =
    let r = renaming c.args.self.now in
    let more = literal_more r c.args.lits.now c.loop-l.l-index c.l-item.result c.literal.result c.loop-l-test.true
    c.l-item.is c.literal.ensures in
    let so_far = renamed_clause r (take c.loop-l.l-index c.args.lits.now) in
    elim c.match-literal.branch [
      | in-Some+in_ok-push w ↦ search arith
      | in_default w ↦ ap (λ v. v.items) w.clause-is ∙ c.loop-l.invariant ∙ sym
          (more ∙ ap (λ o. so_far ++ cons_option o []) w.in_default.is ∙ append-nil so_far)
    ]
