-- What an accepted certificate shows, on the headline's page.
use Rattle.std.specs.Prelude.{◌≡◌, ℕ, List, Option}
use Rattle.std.specs.Io.KnownBytes.{append_known}
use Rattle.headline.specs.Headline.{Headline}

-- what was written behind the sink's bytes is right of these texts
pub record ShowsHeadline (formula certificate : List ℕ) (before now : Option (List ℕ)) : Type 0 where
  pub written : List ℕ
  pub appended : now ≡ append_known before written
  pub headline : Headline formula certificate written
