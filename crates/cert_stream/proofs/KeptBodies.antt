-- What readers keep behind a line.
use Rattle.std.proofs.Common.{ℕ, ◌≤◌, ◌<◌, ◌^◌, List, Option, None, Some, Result, Ok, Err, sym, arith, subst}
use Rattle.std.specs.Prelude.{IfNone, IfSome, OnOk}
use Rattle.std.specs.Option.{option_and_then}
use Rattle.dq_lits.specs.Formula.{Dqbf}
use Rattle.rup_core.specs.Items.{ProofItem}
use Rattle.cert_text.specs.LineIds.{numbering}
use Rattle.cert_text.specs.Numbering.{Numbering}
use Rattle.cert_text.specs.Scan.{first_id}
use Rattle.cert_text.specs.declared.faults.CertFault.{CertFault}
use Rattle.cert_text.specs.declared.faults.LineStop.{LineStop}
use Rattle.cert_stream.specs.Bodies.{IsKept, IsReadAt, body_read}
use Rattle.cert_stream.specs.DqpLinesInside.{IsReadAt as IsProofReadAt, body_read as proof_body_read}
use Rattle.cert_stream.specs.ItemsToCome.{IsItemTaken, item_in}
use Rattle.cert_stream.specs.ProofLines as Proof
use Rattle.cert_stream.specs.RefutationLines.{MayCome, RefutationBody, line_read}
use Rattle.cert_stream.specs.declared.bodies.Body.{Body}
use Rattle.cert_stream.specs.declared.items_to_come.ItemsToCome.{ItemsToCome}
use Rattle.cert_stream.proofs.ItemsInPlace.{AreLawful, goes_on, item_in_place, proof_item_in_place}

further : (a b c : ℕ) → a ≤ b → b ≤ c → a ≤ c
further a b c first second = omega (arith, first, second)

-- an item came
pub item_kept : (f : Dqbf) (b : Body) (items : ItemsToCome) (line : Result ProofItem CertFault)
    (result : Result (Unit {0}) LineStop) → IsKept f b → IsItemTaken line result b.items items →
    OnOk result (IsKept f (record b { items = items }))
item_kept f b items line (Ok _) kept taken =
    let behind = taken.2 in
    record {
      words = kept.words;
      small = subst (λ n. n < 2 ^ 127) (sym behind.first) kept.small;
      body = record {
        few = kept.body.few;
        counted = kept.body.counted;
        whole = kept.body.whole;
        numbered = subst (λ (n : Numbering). first_id f b.row_count ≤ n.next) (sym behind.numbering)
            (further _ _ _ kept.body.numbered (goes_on (numbering b.items.ids) taken.0));
      };
    }
item_kept f b items line (Err stop) kept taken = tt

-- the item that came stands where it may
pub came_in_place : AreLawful → (f : Dqbf) (old : Option RefutationBody) (text : List ℕ) (number : ℕ)
    (new : Option Body) → IsReadAt (line_read f old text) number (Ok tt) new →
    IfSome (option_and_then (λ (b : Body). item_in b.items) new) (MayCome f old)
came_in_place lawful f old text number None read = absurd read
came_in_place lawful f old text number (Some b) read = item_in_place lawful f old text (body_read b) read

pub proof_came_in_place : AreLawful → (last first_id : ℕ) (old : Option Proof.ProofBody) (text : List ℕ) (number : ℕ)
    (new : Option ItemsToCome) → IsProofReadAt (Proof.line_read last first_id old text) number (Ok tt) new →
    IfSome (option_and_then item_in new) (Proof.MayCome last old)
proof_came_in_place lawful last first_id old text number None read = absurd read
proof_came_in_place lawful last first_id old text number (Some i) read =
    proof_item_in_place lawful last first_id old text (proof_body_read i) read

pub if_none : {A : Type 0} (o : Option A) (P : Type 0) → P → IfNone o P
if_none None P holds = holds
if_none (Some x) P holds = tt
