-- Texts that were read of files.
use Rattle.std.proofs.Common.{◌≡◌, ℕ, ◌+◌, ◌<◌, ◌≤◌, List, refl, arith}
use Rattle.std.proofs.Math.Nat.{lt_of_not-le}
use Rattle.dq_io.specs.Files.{Holding, Untold, Absent, Holds}
use Rattle.dq_runs.specs.FileTexts.{IsTextOf}

-- a text that was read is the file's
pub told_text : (holding : Holding) (text : List ℕ) → ((bytes : List ℕ) → holding ≡ Holds bytes → text ≡ bytes) →
    (holding ≡ Absent → ⊥) → IsTextOf holding text
told_text Untold text is there = tt
told_text Absent text is there = there refl
told_text (Holds bytes) text is there = is bytes refl

-- a text that wasn't told to be too long
pub is_short : (limit given count : ℕ) → given ≡ count → (limit < given → ⊥) → count ≤ limit
is_short limit given count same not_long =
    let h : count < limit + 1 = lt_of_not-le {n = limit + 1} {m = count}
    (λ more. not_long (omega (arith, more, same))) in omega (arith, h)
