-- What a sink has taken of the bytes that were to be written.
use Rattle.std.specs.Prelude.{◌≡◌, ℕ, ◌<◌, List, length, take, Option}
use Rattle.std.specs.Io.KnownBytes.{append_known}

-- a sink took some of these bytes from the front on, and not all
pub record TakesPart (before now : Option (List ℕ)) (bytes : List ℕ) : Type 0 where
  pub count : ℕ
  pub not_all : count < length bytes
  pub taken : now ≡ append_known before (take count bytes)
