-- The places of live clauses: the file's stand first, and all others were added.
use Rattle.std.proofs.Common.{◌≡◌, ℕ, zero, suc, ◌+◌, ◌≤◌, ◌<◌, ◌⊎◌, inl, inr, List, length, slice_get, slice_index_or, get_or, Some, refl, sym, ◌∙◌, ap, arith}
use Rattle.std.specs.List.{Contains}
use Rattle.std.proofs.lemmas.Bool.{cases_lt}
use Rattle.std.proofs.lemmas.Option.{slice_get-get_or, slice_get_within}
use Rattle.list_laws.proofs.Members.{element_at}
use Rattle.hint_log.specs.Entries.{ProofLog}
use Rattle.dq_session.specs.Databases.{DatabaseState, number_at, frame_at, given_at, IsOpen, IsStack}
use Rattle.dq_session.specs.Changes.{IsCaughtUp}
use Rattle.dq_session.specs.Giving.{IsGiving, IsWhole}
use Rattle.dq_session.specs.declared.live.Live.{Live}
use Rattle.dq_session.proofs.Stacks.{live_at}

module _ (b : DatabaseState) (s : IsStack b) where
  abbrev n : ℕ
  n = length b.file.matrix

  from_one : (l : Live) → Contains b.live l → 1 ≤ l.clause
  from_one l has = by (s.frames l has)
    where
      by : ((1 ≤ l.clause) × (l.clause ≤ length b.file.matrix) × (l.frame ≡ 0))
          ⊎ ((place : ℕ) × (l.clause ≡ number_at b place) × (place < length b.added)
          × (l.frame ≡ frame_at b place) × IsOpen b l.frame) → 1 ≤ l.clause
      by (inl (low, high, frame)) = low
      by (inr (place, number, below, frame, is_open)) = omega (arith, number)

  -- a place is below its clause's number
  pub number_above : (i : ℕ) (l : Live) → slice_get b.live i ≡ Some l → i + 1 ≤ l.clause
  number_above zero l is = let low = from_one l (element_at b.live zero l is) in omega (arith, low)
  number_above (suc i) l is =
      let below = slice_get_within b.live (suc i) l is in
      let before = slice_get-get_or b.live i l (omega (arith, below)) in
      let k = slice_index_or b.live i l in
      let low = number_above i k before in
      let less = s.ascending_live i (suc i) k l (omega arith) before is in
      omega (arith, low, less)

  -- the file's clause j + 1 stands at place j or behind
  file_place : (j i : ℕ) (l : Live) → j < n → slice_get b.live i ≡ Some l → l.clause ≡ j + 1 → j ≤ i
  file_place zero i l below is number = omega arith
  file_place (suc j) i l below is number =
      let at = live_at b.live (j + 1) (s.file_live (j + 1) (omega arith) (omega (arith, below))) in
      let low = file_place j at.0 at.1 (omega (arith, below)) at.2 at.3 in
      by at.0 at.1 at.2 at.3 low (cases_lt at.0 i)
    where
      by : (p : ℕ) (k : Live) → slice_get b.live p ≡ Some k → k.clause ≡ j + 1 → j ≤ p → (p < i) ⊎ (i ≤ p) → suc j ≤ i
      by p k k_is k_number low (inl less) = omega (arith, less, low)
      by p k k_is k_number low (inr past) = at (cases_lt i p)
        where
          at : (i < p) ⊎ (p ≤ i) → suc j ≤ i
          at (inl less) = let up = s.ascending_live i p l k less is k_is in absurd (omega (arith, up, number, k_number))
          at (inr same) =
              let here : i ≡ p = omega (arith, past, same) in
              let both : Some l ≡ Some k = sym is ∙ ap (slice_get b.live) here ∙ k_is in
              let one : l ≡ k = cc in
              let numbers = ap (λ (x : Live). x.clause) one in
              absurd (omega (arith, numbers, number, k_number))

  -- an added clause stands behind all of the file's
  added_behind : (i : ℕ) (l : Live) → slice_get b.live i ≡ Some l → n < l.clause → n ≤ i
  added_behind i l is above = by n refl
    where
      by : (m : ℕ) → n ≡ m → n ≤ i
      by zero none = omega (arith, none)
      by (suc m) many =
          let at = live_at b.live n (s.file_live n (omega (arith, many)) (omega arith)) in
          let number = at.3 in
          let low = file_place m at.0 at.1 (omega (arith, many)) at.2 (omega (arith, number, many)) in
          past at.0 at.1 at.2 at.3 (omega (arith, low, many)) (cases_lt at.0 i)
        where
          past : (p : ℕ) (k : Live) → slice_get b.live p ≡ Some k → k.clause ≡ n → n ≤ p + 1 → (p < i) ⊎ (i ≤ p) → n ≤ i
          past p k k_is k_number low (inl less) = omega (arith, less, low)
          past p k k_is k_number low (inr before) = at (cases_lt i p)
            where
              at : (i < p) ⊎ (p ≤ i) → n ≤ i
              at (inl less) = let up = s.ascending_live i p l k less is k_is in absurd (omega (arith, up, above, k_number))
              at (inr same) =
                  let here : i ≡ p = omega (arith, before, same) in
                  let both : Some l ≡ Some k = sym is ∙ ap (slice_get b.live) here ∙ k_is in
                  let one : l ≡ k = cc in
                  let numbers = ap (λ (x : Live). x.clause) one in
                  absurd (omega (arith, numbers, above, k_number))

  -- which one stands there
  pub added_at : (i : ℕ) (l : Live) → slice_get b.live i ≡ Some l → n ≤ i →
      (place : ℕ) × (l.clause ≡ number_at b place) × (place < length b.added)
  added_at i l is past = by (s.frames l (element_at b.live i l is))
    where
      by : ((1 ≤ l.clause) × (l.clause ≤ length b.file.matrix) × (l.frame ≡ 0))
          ⊎ ((place : ℕ) × (l.clause ≡ number_at b place) × (place < length b.added)
          × (l.frame ≡ frame_at b place) × IsOpen b l.frame)
          → (place : ℕ) × (l.clause ≡ number_at b place) × (place < length b.added)
      by (inl (low, high, frame)) = let up = number_above i l is in absurd (omega (arith, up, high, past))
      by (inr (place, number, below, frame, is_open)) = (place, number, below)

-- the added clauses at the first so many places of those that are live have their instances
abbrev pub AreGivenTo : DatabaseState → ℕ → Type 0
AreGivenTo b at =
    (i place : ℕ) (l : Live) → i < at → slice_get b.live i ≡ Some l → l.clause ≡ number_at b place
    → given_at b place ≡ length b.table.rows

pub given_to_none : (b : DatabaseState) → IsStack b → AreGivenTo b (length b.file.matrix)
given_to_none b s i place l less is number = search (arith, added_behind)

pub given_to_more : (b c : DatabaseState) (old new : ProofLog) (at done : ℕ) (l : Live) → IsGiving b old c new
    → slice_get b.live at ≡ Some l → l.clause ≡ number_at b done → given_at c done ≡ length c.table.rows
    → AreGivenTo b at → AreGivenTo c (at + 1)
given_to_more b c old new at done l giving is number now before i place k less k_is k_number =
    search (arith, cases_lt)

pub all_given : (b : DatabaseState) (at : ℕ) → length b.live ≤ at → AreGivenTo b at → IsWhole b
all_given b at past given place below has =
    let r = live_at b.live (number_at b place) has in
    let within = slice_get_within b.live r.0 r.1 r.2 in
    given r.0 place r.1 (omega (arith, within, past)) r.2 r.3

-- what stands at a place behind the file's clauses
pub added_there : (b m : DatabaseState) → IsCaughtUp b m → IsStack m → (items : List Live) → items ≡ m.live
    → (at many : ℕ) → many ≡ length b.file.matrix → many ≤ at → at < length b.live → (l : Live)
    → l ≡ get_or items at l → (slice_get m.live at ≡ Some l) × (place : ℕ) × (l.clause ≡ number_at m place)
    × (place < length m.added)
added_there b m caught stack items items_are at many many_is past below l l_is =
    search (arith, slice_get-get_or, added_at)
