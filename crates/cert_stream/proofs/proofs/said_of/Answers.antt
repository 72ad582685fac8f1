use Rattle.std.proofs.Common.{Some, sym, ◌∙◌, ap}
use Rattle.std.specs.Option.{option_map}
use Rattle.rup_core.specs.Runs.{run_fault}
use Rattle.proof_checker.specs.Judging.{run_of}
use Rattle.proof_checker.specs.declared.judging.CircuitProving.{CircuitProving}
use Rattle.cert_stream.proofs.proofs.said_of.Goals as goal

pub returns-in-Some : goal.returns-in-Some
returns-in-Some c f net =
    ap Some (c.fault.ensures f net)
    ∙ sym (ap (option_map (λ (p : CircuitProving). run_fault (run_of f net p))) c.in-Some.is)
