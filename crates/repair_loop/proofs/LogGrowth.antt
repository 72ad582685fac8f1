-- How a log grows by calls of a search: no search begins, no step is lost.
use Rattle.std.proofs.Common.{◌≡◌, ◌+◌, ◌-◌, ◌≤◌, ◌<◌, ℕ, Bool, true, false, cond, List, [], ◌∷◌, ◌++◌, refl, sym, ◌∙◌, ap, arith, append_assoc, IsSome}
use Rattle.dq_lits.specs.Formula.{Dqbf}
use Rattle.hint_log.specs.Entries.{Entry, Round, Begun, ProofLog, with_entry, steps_of, beginnings_of, is_beginning}
use Rattle.hint_log.specs.Growth.{EachOf, Grew}
use Rattle.hint_log.specs.Live.{live_numbers, before_beginning}
use Rattle.std.proofs.lemmas.List.{length-append}
use Rattle.log_laws.specs.Engines.{Engine}
use Rattle.log_laws.specs.Sessions.{IsAddedLive}
use Rattle.log_laws.proofs.LargerLogs.{count_grown}
use Rattle.repair_loop.specs.SearchStates.{HasBegun}
use Rattle.repair_loop.specs.Turning.{LogGrew}

no_more : (xs ys : List Entry) → beginnings_of xs ≡ 0 → beginnings_of ys ≡ 0 → beginnings_of (xs ++ ys) ≡ 0
no_more [] ys one two = two
no_more (e ∷ xs) ys one two = by (λ h. no_more xs ys h two) (is_beginning e) one
  where
    by : (beginnings_of xs ≡ 0 → beginnings_of (xs ++ ys) ≡ 0) → (b : Bool) →
        cond b (beginnings_of xs + 1) (beginnings_of xs) ≡ 0 →
        cond b (beginnings_of (xs ++ ys) + 1) (beginnings_of (xs ++ ys)) ≡ 0
    by rest true h = absurd (omega (arith, h))
    by rest false h = rest h

none_begun : (all : Dqbf) (engine : Engine) (groups : List ℕ) (silent : Bool) (start more old : List Entry) →
    EachOf (IsAddedLive all engine groups silent start) more old → beginnings_of more ≡ 0
none_begun all engine groups silent start [] old each = refl
none_begun all engine groups silent start (Round row values j ∷ more) old each = absurd each.0
none_begun all engine groups silent start (Begun live ∷ more) old each = absurd each.0
none_begun all engine groups silent start (_ ∷ more) old each =
    none_begun all engine groups silent start more old each.1

pub log_grew : (all : Dqbf) (engine : Engine) (groups : List ℕ) (silent : Bool) (start : List Entry)
    (old new : ProofLog) → Grew (IsAddedLive all engine groups silent start) old new → LogGrew old new
log_grew all engine groups silent start old new grew = search (arith, none_begun, count_grown)

pub log_same : (old new : ProofLog) → new ≡ old → LogGrew old new
log_same old new is = search arith

pub log_then : (a b c : ProofLog) → LogGrew a b → LogGrew b c → LogGrew a c
log_then a b c one two =
    let s = one.steps in
    let t = two.steps in
    record {
      more = two.more ++ one.more;
      grown = two.grown ∙ ap (λ es. two.more ++ es) one.grown ∙ sym (append_assoc two.more one.more a.entries);
      none = no_more two.more one.more two.none one.none;
      steps = omega (arith, s, t);
      limit = two.limit ∙ one.limit;
    }

pub round_grew : (old new : ProofLog) (row values : List Bool) (j : ℕ) → new ≡ with_entry old (Round row values j) →
    LogGrew old new
round_grew old new row values j is =
    let steps = ap (λ (l : ProofLog). steps_of l.entries) is in
    record {
      more = Round row values j ∷ [];
      grown = ap (λ (l : ProofLog). l.entries) is;
      none = refl;
      steps = omega (arith, steps);
      limit = ap (λ (l : ProofLog). l.limit) is;
    }

pub round_counts : (old new : ProofLog) (row values : List Bool) (j : ℕ) → new ≡ with_entry old (Round row values j) →
    steps_of old.entries < steps_of new.entries
round_counts old new row values j is = let steps = ap (λ (l : ProofLog). steps_of l.entries) is in omega (arith, steps)

-- a log that isn't full has steps left
pub steps_left : (log : ProofLog) → steps_of log.entries ≤ log.limit →
    (steps_of log.entries ≡ log.limit → ⊥) → steps_of log.entries < log.limit
steps_left log within not_full = omega (arith, within, not_full)

-- a turn with a round leaves fewer steps
pub fewer_left : (a b c d : ProofLog) → LogGrew a b → LogGrew c d → LogGrew b c →
    steps_of b.entries < steps_of c.entries → steps_of b.entries < b.limit
    → d.limit - steps_of d.entries < a.limit - steps_of a.entries
fewer_left a b c d one three two more left = search arith

-- behind a beginning some clauses are live
pub some_live : (more : List Entry) (live : List ℕ) (old : List Entry) →
    IsSome (live_numbers (more ++ Begun live ∷ old))
some_live [] live old = refl
some_live (Begun numbers ∷ more) live old = refl
some_live (_ ∷ more) live old = some_live more live old

-- what was live, and what stood before, where no search began
pub same_live : (more old : List Entry) → beginnings_of more ≡ 0 → live_numbers (more ++ old) ≡ live_numbers old
same_live [] old none = refl
same_live (Begun live ∷ more) old none = absurd (omega (arith, none))
same_live (_ ∷ more) old none = same_live more old none

pub same_before : (more old : List Entry) → beginnings_of more ≡ 0 →
    before_beginning (more ++ old) ≡ before_beginning old
same_before [] old none = refl
same_before (Begun live ∷ more) old none = absurd (omega (arith, none))
same_before (_ ∷ more) old none = same_before more old none

pub begun_before : (live : List ℕ) (old new : List Entry) → HasBegun live old new → before_beginning new ≡ old
begun_before live old new begun = search (arith, same_before)

-- a search that began goes on
pub begun_on : (live : List ℕ) (old mid new : ProofLog) → HasBegun live old.entries mid.entries → LogGrew mid new →
    HasBegun live old.entries new.entries
begun_on live old mid new begun grew = record {
  more = grew.more ++ begun.more;
  grown = grew.grown ∙ ap (λ es. grew.more ++ es) begun.grown
      ∙ sym (append_assoc grew.more begun.more (Begun live ∷ old.entries));
  none = no_more grew.more begun.more grew.none begun.none;
  named = ap live_numbers grew.grown ∙ same_live grew.more mid.entries grew.none ∙ begun.named;
}

-- a log that began a search isn't the one before
pub not_begun : (live : List ℕ) (old new : List Entry) → new ≡ old → HasBegun live old new → ⊥
not_begun live old new same begun = search (arith, (length-append begun.more))

pub some_begun : (live : List ℕ) (old new : List Entry) → HasBegun live old new → 1 ≤ beginnings_of new
some_begun live old new begun = search (arith, count_grown)
