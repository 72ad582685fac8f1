-- What a reader of a refutation is, by its fields.
use Rattle.std.specs.Prelude.{◌≡◌, None, IfSome}
use Rattle.std.specs.Option.{option_map, option_and_then}
use Rattle.cert_stream.specs.Bodies.{kept_body, IsKept}
use Rattle.cert_stream.specs.ItemsToCome.{item_in}
use Rattle.cert_stream.specs.KeptLines.{KeptLines}
use Rattle.cert_stream.specs.declared.refutations_by_line.DqrLines.TheInside.{Inside}

abbrev pub lines_in : Inside → KeptLines
lines_in l =
    record {
      formula = l.formula.now;
      number = l.number;
      body = option_map kept_body l.body;
      item = option_and_then (λ b. item_in b.items) l.body;
      stopped = l.stopped;
    }

pub record IsReader (l : Inside) : Type 0 where
  pub kept : IfSome l.body (IsKept l.formula.now)
  -- nothing is kept behind a stop
  pub ended : IfSome l.stopped (λ _. l.body ≡ None)
