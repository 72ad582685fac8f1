-- Words of private contracts: the lines of a proof that are to come.
use Rattle.std.specs.Prelude.{◌≡◌, ◌-◌, Option, Some, Result, Ok, Err}
use Rattle.std.specs.Option.{option_map}
use Rattle.rup_core.specs.Items.{ProofItem}
use Rattle.cert_text.specs.Items.{item_seen}
use Rattle.cert_text.specs.LineIds.{numbering}
use Rattle.cert_text.specs.Numbering.{behind_item}
use Rattle.cert_text.specs.ReadItem.{read_item}
use Rattle.cert_text.specs.declared.faults.CertFault.{CertFault}
use Rattle.cert_text.specs.declared.faults.LineStop.{LineStop}
use Rattle.cert_text.specs.declared.faults.LineStop.TheVariants.{Fault, Memory}
use Rattle.cert_text.specs.declared.items.Item.{Item}
use Rattle.cert_stream.specs.declared.items_to_come.ItemsToCome.{ItemsToCome}

abbrev pub item_of : Option Item → Option ProofItem
item_of item = option_map item_seen item

-- the item of the last line
abbrev pub item_in : ItemsToCome → Option ProofItem
item_in i =
    option_map (λ read. read_item read i.buffers.literals.items i.buffers.hints.items) i.read

-- one item came
pub record IsBehindItem (old : ItemsToCome) (item : ProofItem) (new : ItemsToCome) : Type 0 where
  pub seen : item_in new ≡ Some item
  pub numbering : numbering new.ids ≡ behind_item (numbering old.ids) item
  pub first : new.ids.first ≡ old.ids.first
  pub left : new.left ≡ old.left - 1
  pub version : new.version ≡ old.version

-- the line's item came, or the line has this fault, or want of memory
abbrev pub IsItemTaken : Result ProofItem CertFault → Result (Unit {0}) LineStop → ItemsToCome
    → ItemsToCome → Type 0
IsItemTaken line (Ok _) old new = (item : ProofItem) × (line ≡ Ok item) × IsBehindItem old item new
IsItemTaken line (Err (Fault name)) old new = line ≡ Err name
IsItemTaken line (Err Memory) old new = Unit {0}
