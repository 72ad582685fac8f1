use Rattle.std.proofs.Common.{length, sym, ◌∙◌, subst, arith}
use Rattle.std.specs.Prelude.{OnOk}
use Rattle.cert_text.specs.Grammar.{IsItem}
use Rattle.cert_text.specs.Items.{item_seen}
use Rattle.cert_text.specs.Numbering.{Numbering, behind_item}
use Rattle.cert_text.specs.Pairs.{is_pair_number}
use Rattle.rup_core.specs.Runs.{Run, with_item}
use Rattle.refutation_checker.specs.Proving.{IsJudging}
use Rattle.refutation_checker.specs.Refutation.{normal_item}
use Rattle.refutation_checker.specs.declared.proving.RefutationProving.{RefutationProving}
use Rattle.refutation_checker.proofs.JudgedItems.{gone_judging, not_settled, settled_judging}
use Rattle.refutation_checker.proofs.proving.RefutationProving.item.Goals as goal

pub returns-then-is_settled : goal.returns-then-is_settled
returns-then-is_settled c at run judging lawful =
    settled_judging c.args.f.now c.args.rows.now c.args.self.now (item_seen c.args.item)
    (sym c.is_settled.ensures ∙ c.if-is_settled.true) at run judging

pub line-requires-clause-may : goal.line-requires-clause-may
line-requires-clause-may c = search arith

pub line-requires-clause-going : goal.line-requires-clause-going
line-requires-clause-going c = search (arith, not_settled)

pub returns-in-Line : goal.returns-in-Line
returns-in-Line c =
    let f = c.args.f.now in
    let rows = c.args.rows.now in
    subst (λ i. OnOk c.line.result ((at : Numbering) (run : Run) → IsJudging f rows c.args.self.now at run →
    IsItem (is_pair_number f (length rows)) at (item_seen i) → IsJudging f rows c.line.new.self
    (behind_item at (item_seen i)) (with_item run (normal_item f rows (item_seen i))))) (sym c.in-Line.is)
    c.line.ensures

pub returns-in-Gone : goal.returns-in-Gone
returns-in-Gone c at run judging lawful =
    let f = c.args.f.now in
    let rows = c.args.rows.now in
    let self = c.args.self.now in
    let new : RefutationProving = record self { judging = record self.judging { proving = c.gone.new.self } } in
    let going = not_settled self.judging.proving.fault (sym c.is_settled.ensures ∙ c.if-is_settled.false) in
    subst (λ i. IsJudging f rows new (behind_item at (item_seen i)) (with_item run (normal_item f rows (item_seen i))))
    (sym c.in-Gone.is)
    (gone_judging f rows self c.gone.new.self c.in-Gone.ids.now going c.gone.ensures.value at run judging
    (subst (λ i. IsItem (is_pair_number f (length rows)) at (item_seen i)) c.in-Gone.is lawful))
