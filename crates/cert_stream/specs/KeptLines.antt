-- What readers by the line keep, by which contracts tell them apart: in place of which ids are live, a
-- mark for each line of the proof so far.
use Rattle.std.specs.Prelude.{ℕ, Bool, List, Option}
use Rattle.std.specs.Option.{option_map}
use Rattle.dq_lits.specs.Formula.{Dqbf}
use Rattle.rup_core.specs.Items.{ProofItem}
use Rattle.cert_text.specs.LineIds.{numbering_by}
use Rattle.cert_text.specs.declared.faults.CertStop.{CertStop}
use Rattle.cert_text.specs.declared.versions.Version.{Version}
use Rattle.cert_stream.specs.ProofLines.{ProofBody, ProofLines}
use Rattle.cert_stream.specs.RefutationLines.{RefutationBody, RefutationLines}

pub record KeptBody : Type 0 where
  pub version : Version
  pub row_count : ℕ
  pub rows : List (List Bool)
  pub rows_left : ℕ
  pub first_id : ℕ
  pub live : List Bool
  pub items_left : ℕ

pub record KeptLines : Type 0 where
  pub formula : Dqbf
  pub number : ℕ
  pub body : Option KeptBody
  pub item : Option ProofItem
  pub stopped : Option CertStop

abbrev pub body_seen : KeptBody → RefutationBody
body_seen b =
    record {
      version = b.version;
      row_count = b.row_count;
      rows = b.rows;
      rows_left = b.rows_left;
      numbering = numbering_by b.first_id b.live;
      items_left = b.items_left;
    }

-- what a reader of a refutation knows
abbrev pub seen : KeptLines → RefutationLines
seen l =
    record {
      formula = l.formula;
      number = l.number;
      body = option_map body_seen l.body;
      item = l.item;
      stopped = l.stopped;
    }

pub record KeptProofBody : Type 0 where
  pub version : Version
  pub first_id : ℕ
  pub live : List Bool
  pub items_left : ℕ

pub record KeptProofLines : Type 0 where
  pub last_variable : ℕ
  pub first_id : ℕ
  pub number : ℕ
  pub body : Option KeptProofBody
  pub item : Option ProofItem
  pub stopped : Option CertStop

abbrev pub proof_body_seen : KeptProofBody → ProofBody
proof_body_seen b =
    record {
      version = b.version;
      numbering = numbering_by b.first_id b.live;
      items_left = b.items_left;
    }

-- what a reader of a circuit's proof knows
abbrev pub proof_seen : KeptProofLines → ProofLines
proof_seen l =
    record {
      last_variable = l.last_variable;
      first_id = l.first_id;
      number = l.number;
      body = option_map proof_body_seen l.body;
      item = l.item;
      stopped = l.stopped;
    }
