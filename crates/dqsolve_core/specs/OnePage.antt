-- What is written with a verdict, on the headline's page, and of a session, on its page.
use Rattle.std.specs.Prelude.{◌≡◌, ℕ, ◌^◌, ◌≤◌, List, length, Option}
use Rattle.std.specs.Io.KnownBytes.{append_known}
use Rattle.headline.specs.Headline.{Formula, HoldsSkolem, IsFalseFormula, IsTrueFormula, SpellsFormula}
use Rattle.headline.specs.Sessions.{AnswersSession}

-- The text spells a formula. With 10 it is true, and what was written behind the sink's bytes,
-- where it has at most 10^9 of them, is a circuit's whose outputs are its Skolem functions. With 20
-- it is false.
pub record ShowsHeadline (formula : List ℕ) (before now : Option (List ℕ))
    (status : ℕ) : Type 0 where
  pub f : Formula
  pub spelled : SpellsFormula formula f
  pub written : List ℕ
  pub appended : now ≡ append_known before written
  pub is_true : status ≡ 10 → IsTrueFormula f
  pub circuit : status ≡ 10 → length written ≤ 10 ^ 9 → HoldsSkolem f written
  pub is_false : status ≡ 20 → IsFalseFormula f

-- what was written behind the sink's bytes answers the session
pub record ShowsSession (formula script : List ℕ) (before now : Option (List ℕ)) : Type 0 where
  pub written : List ℕ
  pub appended : now ≡ append_known before written
  pub answers : AnswersSession formula script written
