-- Learned entries name nothing.
use Rattle.std.proofs.Common.{◌≡◌, ℕ, List, [], ◌∷◌, ◌++◌, refl}
use Rattle.hint_log.specs.Entries.{Entry, Learned, name_of}
use Rattle.hint_log.specs.Growth.{EachOf}
use Rattle.oracle.specs.Calls.{IsLearnedEntry}

pub learned_names : (more old : List Entry) (v : ℕ) → EachOf IsLearnedEntry more old →
    name_of (more ++ old) v ≡ name_of old v
learned_names [] old v h = refl
learned_names (Learned c hints ∷ more) old v h = learned_names more old v h.1
learned_names (_ ∷ more) old v h = absurd h.0
