use Rattle.std.proofs.Common.{◌≡◌, refl, sym, subst, arith}
use Rattle.std.specs.Prelude.{OnOk}
use Rattle.cert_text.specs.CircuitProof.{is_proof_variable}
use Rattle.cert_text.specs.Grammar.{IsItem}
use Rattle.cert_text.specs.Items.{item_seen}
use Rattle.cert_text.specs.Numbering.{behind_item}
use Rattle.rup_core.specs.Runs.{with_item}
use Rattle.proof_checker.specs.Judging.{IsJudging, run_of}
use Rattle.proof_checker.specs.declared.judging.CircuitProving.{CircuitProving}
use Rattle.proof_checker.proofs.DerivedLines.{ids_free, ids_judging}
use Rattle.proof_checker.proofs.judging.CircuitProving.item.Goals as goal

pub returns-in-Line-clause-run : goal.returns-in-Line-clause-run
returns-in-Line-clause-run c =
    let f = c.args.f.now in
    let net = c.args.c.now in
    subst (λ i. OnOk c.line.result (run_of f net c.line.new.self
    ≡ with_item (run_of f net c.args.self.now) (item_seen i))) (sym c.in-Line.is) c.line.ensures.run

pub returns-in-Gone-clause-run : goal.returns-in-Gone-clause-run
returns-in-Gone-clause-run c = search (arith, ids_free)

pub returns-in-Gone-clause-judging : goal.returns-in-Gone-clause-judging
returns-in-Gone-clause-judging c at judging lawful =
    let f = c.args.f.now in
    let net = c.args.c.now in
    let self = c.args.self.now in
    let new : CircuitProving = record self { proving = c.gone.new.self } in
    subst (λ i. IsJudging f net new (behind_item at (item_seen i))) (sym c.in-Gone.is)
    (ids_judging f net self new c.in-Gone.ids.now refl c.gone.ensures.value at judging
    (subst (λ i. IsItem (is_proof_variable f net) at (item_seen i)) c.in-Gone.is lawful))
