use Rattle.std.proofs.Common.{◌∷◌, [], Some, sym, ◌∙◌, ap, subst, arith}
use Rattle.std.specs.List.{All, Contains}
use Rattle.std.proofs.lemmas.Option.{slice_get-get_or}
use Rattle.dq_lits.specs.Literal.{variable_of, opposite}
use Rattle.dq_lits.specs.Formula.{declared}
use Rattle.hint_log.specs.Entries.{Given, with_entry}
use Rattle.hint_log.specs.declared.origins.Origin.TheVariants.{Copy}
use Rattle.oracle.specs.Calls.{IsPlain}
use Rattle.definability.specs.Copies.{IsCopied}
use Rattle.definability.proofs.FollowedClauses.{copy_given, group_made, side_copied, side_existentials, side_existentials_long, side_universals_long}
use Rattle.definability.proofs.GivenClauses.{copies_plain}
use Rattle.definability.proofs.definability.Definability.give_copy.Goals as goal

pub clause-requires : goal.clause-requires
clause-requires g c = c.requires.standing.2.live.within

pub copied_clause-requires-clause-bound : goal.copied_clause-requires-clause-bound
copied_clause-requires-clause-bound g c =
    subst (All (λ l. Contains (declared c.args.f.now) (variable_of l))) (sym c.clause.ensures)
    (c.requires.formula.bound c.args.clause.place [] c.requires.standing.2.live.within)

pub copied_clause-requires-clause-universals : goal.copied_clause-requires-clause-universals
copied_clause-requires-clause-universals g c = search (arith, side_universals_long)

pub copied_clause-requires-clause-existentials : goal.copied_clause-requires-clause-existentials
copied_clause-requires-clause-existentials g c = search (arith, side_existentials_long)

pub returns-in_err-lits-clause-following : goal.returns-in_err-lits-clause-following
returns-in_err-lits-clause-following g c = search arith

pub add-requires-clause-made : goal.add-requires-clause-made
add-requires-clause-made g c =
    let opened = c.requires.prepared.opened in
    group_made c.requires.standing.0 c.requires.standing.1 c.args.f.now c.args.self.now c.args.log.now
    c.requires.standing.2.standing c.requires.standing.2.complete c.args.side c.requires.side c.side.result.now c.side.ensures.first c.side.ensures.second
    c.args.clause c.requires.standing.2.live opened.0 opened.1 c.frame_group-group.result
    (c.frame_group-group.ensures opened.0 opened.1)

pub add-requires-clause-plain : goal.add-requires-clause-plain
add-requires-clause-plain g c =
    let f = c.args.f.now in
    let there = slice_get-get_or f.matrix c.args.clause.place [] c.requires.standing.2.live.within in
    let covered = subst (All (λ l. IsCopied f c.args.self.now.copied.items (variable_of l))) (sym c.clause.ensures)
    (c.requires.prepared.covered _ there) in
    subst (All (IsPlain c.args.log.now.entries)) (sym c.deref.ensures.value)
    (copies_plain c.args.log.now.entries c.args.side c.clause.result.now c.in_ok-lits.lits.items
    (c.in_ok-lits.ensures c.args.log.now.entries c.args.side c.args.self.now.copied.items
    (side_copied c.requires.standing.0 c.requires.standing.1 f c.args.self.now c.args.log.now c.requires.standing.2.standing c.requires.standing.2.complete
    c.args.side c.requires.side c.side.result.now c.side.ensures.first c.side.ensures.second)
    (side_existentials c.requires.standing.0 c.requires.standing.1 f c.args.self.now c.args.log.now
    c.requires.standing.2.standing c.requires.standing.2.complete c.args.side c.requires.side c.side.result.now c.side.ensures.first c.side.ensures.second)
    covered))

pub returns-in_err-add-clause-following : goal.returns-in_err-add-clause-following
returns-in_err-add-clause-following g c = search arith

pub returns-clause-following : goal.returns-clause-following
returns-clause-following g c = λ all numbered h.
    let f = c.args.f.now in
    let log = c.args.log.now in
    let opened = c.requires.prepared.opened in
    let there = slice_get-get_or f.matrix c.args.clause.place [] h.live.within in
    let covered = c.requires.prepared.covered _ there in
    let lits = c.in_ok-lits.lits.items in
    copy_given all numbered f c.args.self.now log h.standing h.complete c.args.side c.requires.side c.side.result.now c.side.ensures.first
    c.side.ensures.second c.args.clause h.live opened.0 opened.1 c.frame_group-group.result
    (c.frame_group-group.ensures opened.0 opened.1)
    (g.met.O.Oracle.searched c.args.oracle.now log c.requires.fit).logged c.requires.prepared.room c.requires.next
    c.clause.result.now (there ∙ ap Some (sym c.clause.ensures))
    (subst (All (λ l. IsCopied f c.args.self.now.copied.items (variable_of l))) (sym c.clause.ensures) covered) lits
    (c.in_ok-lits.ensures log.entries c.args.side c.args.self.now.copied.items
    (side_copied all numbered f c.args.self.now log h.standing h.complete c.args.side c.requires.side c.side.result.now
    c.side.ensures.first c.side.ensures.second)
    (side_existentials all numbered f c.args.self.now log h.standing h.complete c.args.side c.requires.side c.side.result.now
    c.side.ensures.first c.side.ensures.second)
    (subst (All (λ l. IsCopied f c.args.self.now.copied.items (variable_of l))) (sym c.clause.ensures) covered))
    c.add.new.log
    (c.in_ok-add.ensures.ok ∙ ap (λ ls. with_entry log (Given (Copy c.args.side c.args.clause.number)
    (opposite c.frame_group-group.result.selector ∷ ls))) c.deref.ensures.value)
