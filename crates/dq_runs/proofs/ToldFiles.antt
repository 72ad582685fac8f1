-- What told files hold.
use Rattle.std.proofs.Common.{◌≡◌, ℕ, ◌<◌, List, length, subst}
use Rattle.dq_io.specs.Files.{Holding, Holds}
use Rattle.dq_runs.specs.FileTexts.{IsLong, IsTextOf}

pub held_long : (limit : ℕ) (holding : Holding) (bytes : List ℕ) → holding ≡ Holds bytes → IsLong limit holding →
    limit < length bytes
held_long limit holding bytes is long = subst (λ h. IsLong limit h) is long

pub held_text : (holding : Holding) (bytes text : List ℕ) → holding ≡ Holds bytes → IsTextOf holding text → text ≡ bytes
held_text holding bytes text is has = subst (λ h. IsTextOf h text) is has
