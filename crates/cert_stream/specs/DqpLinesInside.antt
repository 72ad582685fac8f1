-- What a reader of a circuit's proof is, by its fields.
use Rattle.std.specs.Prelude.{◌≡◌, ◌<◌, ◌^◌, ℕ, Option, None, Some, Result, Ok, Err, IfSome}
use Rattle.std.specs.Option.{option_map, option_and_then}
use Rattle.cert_text.specs.declared.faults.CertFault.{CertFault}
use Rattle.cert_text.specs.declared.faults.CertStop.{CertStop}
use Rattle.cert_text.specs.declared.faults.CertStop.TheVariants.{Refused, Memory as NoMemory}
use Rattle.cert_text.specs.declared.faults.LineStop.{LineStop}
use Rattle.cert_text.specs.declared.faults.LineStop.TheVariants.{Fault, Memory}
use Rattle.cert_stream.specs.ItemsToCome.{item_in}
use Rattle.cert_stream.specs.KeptLines.{KeptProofBody, KeptProofLines, proof_body_seen}
use Rattle.cert_stream.specs.ProofLines.{BodyRead, ProofBody}
use Rattle.cert_stream.specs.declared.items_to_come.ItemsToCome.{ItemsToCome}
use Rattle.cert_stream.specs.declared.proofs_by_line.DqpLines.TheInside.{Inside}

abbrev pub kept_body : ItemsToCome → KeptProofBody
kept_body i =
    record {
      version = i.version;
      first_id = i.ids.first;
      live = i.ids.live;
      items_left = i.left;
    }

abbrev pub body_of : ItemsToCome → ProofBody
body_of i = proof_body_seen (kept_body i)

abbrev pub maybe_body : Option ItemsToCome → Option ProofBody
maybe_body i = option_map proof_body_seen (option_map kept_body i)

-- with the last line's item
abbrev pub body_read : ItemsToCome → BodyRead
body_read i = record { body = body_of i; item = item_in i }

abbrev pub lines_in : Inside → KeptProofLines
lines_in l =
    record {
      last_variable = l.last_variable;
      first_id = l.first_id;
      number = l.number;
      body = option_map kept_body l.items;
      item = option_and_then item_in l.items;
      stopped = l.stopped;
    }

-- the ids of the lines from the first one's on
pub record IsKept (first_id : ℕ) (i : ItemsToCome) : Type 0 where
  pub first : i.ids.first ≡ first_id
  pub small : first_id < 2 ^ 127

pub record IsReader (l : Inside) : Type 0 where
  pub small : l.first_id < 2 ^ 127
  pub kept : IfSome l.items (IsKept l.first_id)
  -- nothing is kept behind a stop
  pub ended : IfSome l.stopped (λ _. l.items ≡ None)

-- the line leads to this, or has this fault, or want of memory
abbrev pub IsReadInto : Result BodyRead CertFault → Result (Unit {0}) LineStop
    → Option ItemsToCome → Type 0
IsReadInto line (Ok _) (Some i) = line ≡ Ok (body_read i)
IsReadInto line (Ok _) None = ⊥
IsReadInto line (Err (Fault name)) i = line ≡ Err name
IsReadInto line (Err Memory) i = Unit {0}

-- the same of the line with a number
abbrev pub IsReadAt : Result BodyRead CertFault → ℕ → Result (Unit {0}) CertStop
    → Option ItemsToCome → Type 0
IsReadAt line number (Ok _) (Some i) = line ≡ Ok (body_read i)
IsReadAt line number (Ok _) None = ⊥
IsReadAt line number (Err (Refused fault)) i = (line ≡ Err fault.name) × (fault.line ≡ number)
IsReadAt line number (Err NoMemory) i = Unit {0}
