use Rattle.std.proofs.Common.{subst}
use Rattle.list_laws.proofs.Options.{some_of}
use Rattle.cert_text.specs.DefinitionsRead.{definition_seen}
use Rattle.rup_core.specs.ProofVerdict.{proof_fault_in}
use Rattle.defined_checker.specs.Answers.{IsForeignAnswer}
use Rattle.defined_checker.specs.Judging.{reads}
use Rattle.defined_checker.proofs.JudgedDefinitions.{judged_steps}
use Rattle.defined_checker.proofs.judging.judge_definition.Goals as goal

pub returns-in-Some : goal.returns-in-Some
returns-in-Some c =
    let d = definition_seen c.args.d.now in
    let y = some_of _ c.requires.existential in
    reads y.1 (subst (IsForeignAnswer c.args.f.now y.0 d) c.in-Some.is (c.in_ok-variable.ensures y.0 y.1))

pub returns-in_ok-fault-in-None : goal.returns-in_ok-fault-in-None
returns-in_ok-fault-in-None c =
    let d = definition_seen c.args.d.now in
    let y = some_of _ c.requires.existential in
    judged_steps c.args.f.now d y.0 (proof_fault_in c.in_ok-fault-in-None.fault) c.named_fault.result y.1
    (subst (IsForeignAnswer c.args.f.now y.0 d) c.in-None.is (c.in_ok-variable.ensures y.0 y.1))
    c.in_ok-fault-in-None.ensures c.named_fault.ensures
