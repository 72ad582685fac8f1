-- Words of private contracts: what a reader of a refutation keeps.
use Rattle.std.specs.Prelude.{◌≡◌, ℕ, ◌<◌, ◌^◌, map, Option, None, Some, Result, Ok, Err}
use Rattle.std.specs.Option.{option_map}
use Rattle.dq_lits.specs.Formula.{Dqbf}
use Rattle.dq_text.specs.Written.{number_text}
use Rattle.cert_text.specs.declared.faults.CertFault.{CertFault}
use Rattle.cert_text.specs.declared.faults.CertStop.{CertStop}
use Rattle.cert_text.specs.declared.faults.CertStop.TheVariants.{Refused, Memory as NoMemory}
use Rattle.cert_text.specs.declared.faults.LineStop.{LineStop}
use Rattle.cert_text.specs.declared.faults.LineStop.TheVariants.{Fault, Memory}
use Rattle.cert_stream.specs.ItemsToCome.{item_in}
use Rattle.cert_stream.specs.KeptLines.{KeptBody, body_seen}
use Rattle.cert_stream.specs.RefutationLines.{BodyRead, IsBody, RefutationBody}
use Rattle.cert_stream.specs.declared.bodies.Body.{Body}

abbrev pub kept_body : Body → KeptBody
kept_body b =
    record {
      version = b.items.version;
      row_count = b.row_count;
      rows = b.rows;
      rows_left = b.rows_left;
      first_id = b.items.ids.first;
      live = b.items.ids.live;
      items_left = b.items.left;
    }

abbrev pub body_of : Body → RefutationBody
body_of b = body_seen (kept_body b)

abbrev pub maybe_body : Option Body → Option RefutationBody
maybe_body b = option_map body_seen (option_map kept_body b)

-- with the last line's item
abbrev pub body_read : Body → BodyRead
body_read b = record { body = body_of b; item = item_in b.items }

pub record IsKept (f : Dqbf) (b : Body) : Type 0 where
  pub words : b.words ≡ map number_text f.universals
  pub small : b.items.ids.first < 2 ^ 127
  pub body : IsBody f (body_of b)

-- the line leads to this body, or has this fault, or want of memory
abbrev pub IsReadBody : Result BodyRead CertFault → Result (Unit {0}) LineStop → Option Body
    → Type 0
IsReadBody line (Ok _) (Some b) = line ≡ Ok (body_read b)
IsReadBody line (Ok _) None = ⊥
IsReadBody line (Err (Fault name)) b = line ≡ Err name
IsReadBody line (Err Memory) b = Unit {0}

-- the same of the line with a number
abbrev pub IsReadAt : Result BodyRead CertFault → ℕ → Result (Unit {0}) CertStop → Option Body
    → Type 0
IsReadAt line number (Ok _) (Some b) = line ≡ Ok (body_read b)
IsReadAt line number (Ok _) None = ⊥
IsReadAt line number (Err (Refused fault)) b = (line ≡ Err fault.name) × (fault.line ≡ number)
IsReadAt line number (Err NoMemory) b = Unit {0}

-- the same where the body is the result
abbrev pub IsBegun : Result BodyRead CertFault → Result Body LineStop → Type 0
IsBegun line (Ok b) = line ≡ Ok (body_read b)
IsBegun line (Err (Fault name)) = line ≡ Err name
IsBegun line (Err Memory) = Unit {0}
