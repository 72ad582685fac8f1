-- What a stream holds, by its fields.
use Rattle.dq_lits.specs.Formula.{IsWellFormed}
use Rattle.cert_judge.specs.Phases.{HasNoEnd, IsLawful}
use Rattle.cert_judge.specs.Streams.{StreamState}
use Rattle.cert_judge.specs.declared.streams.Stream.TheInside.{Inside}

abbrev pub state_in : Inside → StreamState
state_in s =
    record { formula = s.formula.now; unfinished = s.unfinished.items; phase = s.phase }

pub record IsStream (s : Inside) : Type 0 where
  pub well_formed : IsWellFormed s.formula.now
  pub one_line : HasNoEnd s.unfinished.items
  pub lawful : IsLawful s.phase
