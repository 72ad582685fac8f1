-- Items as they are read.
use Rattle.std.proofs.Common.{◌≡◌, ℕ, ◌≤◌, Bool, List, Result, Ok, Err, arith}
use Rattle.dq_lits.specs.Literal.{Literal}
use Rattle.rup_core.specs.Items.{ProofItem, derived, gone}
use Rattle.cert_text.specs.Grammar.{Tokens}
use Rattle.cert_text.specs.ItemLine.{item_line}
use Rattle.cert_text.specs.Items.{HasLineId}
use Rattle.cert_text.specs.LineStop.{IsLineOf}
use Rattle.cert_text.specs.Numbering.{Numbering}
use Rattle.cert_text.specs.ReadItem.{IsItemOf}
use Rattle.cert_text.specs.declared.faults.CertFault.{CertFault}
use Rattle.cert_text.specs.declared.faults.LineStop.{LineStop}
use Rattle.cert_text.specs.declared.faults.LineStop.TheVariants.{Fault, Memory}
use Rattle.cert_text.specs.declared.versions.Version.{Version}
use Rattle.cert_text.proofs.SpelledItems.{item_spelled}

-- a line's stop
pub item_stop : (line : Result ProofItem CertFault) (stop : LineStop) (ls : List Literal) (hs : List ℕ) →
    IsItemOf line (Err stop) ls hs → IsLineOf line (Err stop)
item_stop line (Fault name) ls hs is = is
item_stop line Memory ls hs is = tt

-- a line's id isn't 0
pub has_line_id : (version : Version) (p : ℕ → Bool) (n : Numbering) (tokens : Tokens) (item : ProofItem) → 1 ≤ n.next →
    item_line version p n tokens ≡ Ok item → HasLineId item
has_line_id version p n tokens (derived s) some taken = let id =
    (item_spelled version p n tokens (derived s) taken).lawful.numbered in omega (arith, id, some)
has_line_id version p n tokens (gone ids) some taken = tt
