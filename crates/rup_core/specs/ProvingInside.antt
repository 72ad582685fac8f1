-- How a proof that is judged is kept.
use Rattle.rup_core.specs.Proving.{ProofState}
use Rattle.rup_core.specs.declared.proving.Proving.TheInside.{Inside}

abbrev pub state_in : Inside → ProofState
state_in p =
    record {
      finished = p.finished;
      lines = p.store;
      fault = p.underived;
      marks = p.trail.variables;
      line = record { trues = p.trail.trues; progress = p.progress };
    }
