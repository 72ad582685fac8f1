-- Groups that were made stay so.
use Rattle.std.proofs.Common.{◌≡◌, ℕ, List, Some}
use Rattle.dq_lits.specs.Literal.{positive, variable_of}
use Rattle.hint_log.specs.Entries.{Entry, name_of}
use Rattle.hint_log.specs.declared.names.Name.{Name}
use Rattle.hint_log.specs.declared.names.Name.TheVariants.{Selector}
use Rattle.oracle.specs.Calls.{IsMade}
use Rattle.oracle.specs.declared.groups.Group.{Group}

pub made_stays : (old new : List Entry) (g : Group) →
    ((v : ℕ) (n : Name) → name_of old v ≡ Some n → name_of new v ≡ Some n) → IsMade old g → IsMade new g
made_stays old new g stay made = record {
  positive = made.positive;
  named =
      stay (variable_of g.selector) (Selector (variable_of g.selector)) made.named;
}
