use Rattle.hint_log.specs.Naming.{rows_of}
use Rattle.log_laws.proofs.Found.{sound_answer}
use Rattle.log_laws.proofs.laws.decided_false_is_false.Goals as goal

pub returns : goal.returns
returns c f entries well sound a =
    c.expansion_lifts.ensures f (rows_of a.earlier) well
    (c.instances_have_no_model.ensures f a.earlier a.clause a.hints
    (sound_answer f entries a.later a.earlier a.clause a.hints sound a.is_there) a.decides)
