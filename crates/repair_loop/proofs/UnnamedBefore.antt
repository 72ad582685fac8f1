-- Names before the last search began.
use Rattle.std.proofs.Common.{◌≡◌, ℕ, List, [], ◌∷◌, None, arith}
use Rattle.hint_log.specs.Entries.{Entry, Named, Begun, name_of}
use Rattle.hint_log.specs.Live.{before_beginning}

-- what has no name had none before
pub unnamed_since : (es : List Entry) (v : ℕ) → name_of es v ≡ None → name_of (before_beginning es) v ≡ None
unnamed_since [] v none = none
unnamed_since (Named w name ∷ es) v none = search (arith, (unnamed_since es v))
unnamed_since (Begun live ∷ es) v none = none
unnamed_since (_ ∷ es) v none = unnamed_since es v none
