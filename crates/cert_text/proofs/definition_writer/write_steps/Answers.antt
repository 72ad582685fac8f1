use Rattle.cert_text.specs.Canonical.{step_text}
use Rattle.cert_text.specs.Steps.{step_seen}
use Rattle.cert_text.proofs.KeptItems.{one_written}
use Rattle.cert_text.proofs.definition_writer.write_steps.Goals as goal

pub loop-k-preserved : goal.loop-k-preserved
loop-k-preserved c =
    one_written step_text c.args.steps.now c.loop-k.k (step_seen c.get.result) c.loop-k.text.items
    c.write_step.new.text.items _ c.get.ensures c.in_ok-write_step.ensures c.loop-k.invariant
