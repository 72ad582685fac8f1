-- The searches of a log, by where they began.
use Rattle.std.proofs.Common.{◌≡◌, ℕ, List, [], ◌∷◌, ◌++◌, refl, sym, arith}
use Rattle.hint_log.specs.Entries.{Entry, Given, Round, Begun, beginnings_of}
use Rattle.hint_log.specs.Growth.{Each}
use Rattle.hint_log.specs.declared.origins.Origin.TheVariants.{Fault}
use Rattle.session_runs.specs.LargerSessions.{IsOfSearch}
use Rattle.repair_loop.proofs.LogGrowth.{some_live}
use Rattle.session_runs.specs.Ends.{ends_behind, ends_of}

-- what stands behind a beginning is of a search
pub of-search-behind : (more : List Entry) (live : List ℕ) (old : List Entry) → Each IsOfSearch old
    → Each IsOfSearch (more ++ Begun live ∷ old)
of-search-behind [] live old each = (tt, each)
of-search-behind (Given (Fault j i leaf) c ∷ more) live old each =
    (some_live more live old, of-search-behind more live old each)
of-search-behind (Round row values j ∷ more) live old each =
    (some_live more live old, of-search-behind more live old each)
of-search-behind (Given _ c ∷ more) live old each = (tt, of-search-behind more live old each)
of-search-behind (_ ∷ more) live old each = (tt, of-search-behind more live old each)

ends-behind-more : (now more : List Entry) (live : List ℕ) (old : List Entry) → beginnings_of more ≡ 0
    → ends_behind now (more ++ Begun live ∷ old) ≡ ends_of old ++ now ∷ []
ends-behind-more now [] live old none = refl
ends-behind-more now (Begun l ∷ more) live old none = absurd (omega (arith, none))
ends-behind-more now (_ ∷ more) live old none = ends-behind-more now more live old none

-- one search more
pub ends-more : (new more : List Entry) (live : List ℕ) (old : List Entry) → new ≡ more ++ Begun live ∷ old
    → beginnings_of more ≡ 0 → ends_of old ++ new ∷ [] ≡ ends_of new
ends-more new more live old grown none = search (arith, ends-behind-more)

no-ends-behind : (now es : List Entry) → beginnings_of es ≡ 0 → ends_behind now es ≡ []
no-ends-behind now [] none = refl
no-ends-behind now (Begun l ∷ es) none = absurd (omega (arith, none))
no-ends-behind now (_ ∷ es) none = no-ends-behind now es none

pub no-ends : (es : List Entry) → beginnings_of es ≡ 0 → [] ≡ ends_of es
no-ends es none = sym (no-ends-behind es es none)
