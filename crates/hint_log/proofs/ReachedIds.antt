-- What an answer reaches.
use Rattle.std.proofs.Common.{◌≡◌, ℕ, zero, suc, ◌+◌, ◌<◌, ◌≤◌, ◌==◌, ◌⊎◌, Bool, true, false, true≢false, ◌&&◌, cond, List, [], ◌∷◌, ◌++◌, length, get_or, slice_index, Some, Contains, inl, inr, refl, sym, ap, ◌∙◌, subst, arith}
use Rattle.std.specs.List.Sorted.{IsStrictlyIncreasing}
use Rattle.std.proofs.lemmas.Bool.{cases_Bool, and_parts, eqb-true, eqb-false, eq-eqb}
use Rattle.std.proofs.lemmas.List.Elements.{Contains-append_left, Contains-append_right, Contains-append_cases}
use Rattle.hint_log.specs.Conditions.{IsId}
use Rattle.hint_log.specs.Entries.{Entry, has_id, last_id, numbered, hints_of, hints_at}
use Rattle.hint_log.specs.Pending.{is_pending, Takes}
use Rattle.hint_log.specs.Reached.{Reaches, itself, by_hint, AreReached}
use Rattle.hint_log.specs.declared.pending.Pending.{Pending}
use Rattle.hint_log.proofs.Logged.{AreEarlier}

-- a hint is an earlier id
pub hint_earlier : (entries : List Entry) (id : ℕ) (e : Entry) → AreEarlier entries →
    numbered has_id entries id ≡ Some e
    → (hint : ℕ) → Contains (hints_of e) hint → (1 ≤ hint) × (hint < id)
hint_earlier [] id e earlier found hint has = cc
hint_earlier (x ∷ es) id e earlier found hint has =
    by (has_id x && (id == last_id es + 1)) refl (λ behind. hint_earlier es id e earlier.1 behind hint has) found
  where
    by : (b : Bool) → (has_id x && (id == last_id es + 1)) ≡ b →
        (numbered has_id es id ≡ Some e → (1 ≤ hint) × (hint < id))
        → cond b (Some x) (numbered has_id es id) ≡ Some e → (1 ≤ hint) × (hint < id)
    by true here rest is =
        let same : x ≡ e = cc in
        let at : id ≡ last_id es + 1 = eqb-true id (last_id es + 1)
        (and_parts (has_id x) (id == last_id es + 1) here).1 in
        let h : IsId es hint = earlier.0 hint (subst (λ y. Contains (hints_of y) hint) (sym same) has) in
        let last = h.last in
        (h.from_one, omega (arith, at, last))
    by false here rest is = rest is

-- ids that are pending besides those that were
pub record IsWith (old new : Pending) (ids : List ℕ) : Type 0 where
  pub kept : (v : ℕ) → is_pending old v ≡ true → is_pending new v ≡ true
  pub added : (v : ℕ) → Contains ids v → is_pending new v ≡ true
  pub only : (v : ℕ) → is_pending new v ≡ true → (is_pending old v ≡ true) ⊎ Contains ids v

pub with_none : (p : Pending) → IsWith p p []
with_none p = search arith

pub with_one_more : (old now next : Pending) (ids : List ℕ) (x : ℕ) → IsWith old now ids →
    ((w : ℕ) → is_pending next w ≡ cond (x == w) true (is_pending now w))
    → IsWith old next (ids ++ x ∷ [])
with_one_more old now next ids x before is = record {
  kept = λ v h. stays v (before.kept v h);
  added = λ v has.
      elim (Contains-append_cases ids (x ∷ []) v has) [
        | inl early ↦ stays v (before.added v early)
        | inr here ↦ is v ∙ ap (λ b. cond b true (is_pending now v)) (eq-eqb x v (only_one v here))
      ];
  only = λ v h. by v (x == v) refl (sym (is v) ∙ h);
}
  where
    stays : (v : ℕ) → is_pending now v ≡ true → is_pending next v ≡ true
    stays v h = is v ∙ always (x == v) h
      where
        always : (b : Bool) → is_pending now v ≡ true → cond b true (is_pending now v) ≡ true
        always true was = refl
        always false was = was

    only_one : (v : ℕ) → Contains (x ∷ []) v → x ≡ v
    only_one v (zero, lt, at) = at
    only_one v (suc k, lt, at) = absurd (omega (arith, lt))

    by : (v : ℕ) (b : Bool) → (x == v) ≡ b → cond b true (is_pending now v) ≡ true →
        (is_pending old v ≡ true) ⊎ Contains (ids ++ x ∷ []) v
    by v true same was = inr (Contains-append_right ids (x ∷ []) v (0, omega arith, eqb-true x v same))
    by v false other was =
        elim (before.only v was) [
          | inl first ↦ inl first
          | inr early ↦ inr (Contains-append_left ids (x ∷ []) v early)
        ]

-- what was taken out, newest last, and what is still to be looked at
pub record AreReachedSoFar (entries : List Entry) (id : ℕ) (pending : Pending) (up : List ℕ) : Type 0 where
  pub ascending : IsStrictlyIncreasing up
  pub below : (v : ℕ) → is_pending pending v ≡ true → v < get_or up 0 (id + 1)
  pub sound_pending : (v : ℕ) → is_pending pending v ≡ true → Reaches entries id v
  pub sound : (v : ℕ) → Contains up v → Reaches entries id v
  pub start : (is_pending pending id ≡ true) ⊎ Contains up id
  pub closed : (i hint : ℕ) (hints : List ℕ) → Contains up i → hints_at entries i ≡ Some hints → Contains hints hint
      → (is_pending pending hint ≡ true) ⊎ Contains up hint

only_id : (id v : ℕ) (none one : Pending) → ((w : ℕ) → is_pending none w ≡ false) →
    ((w : ℕ) → is_pending one w ≡ cond (id == w) true (is_pending none w))
    → is_pending one v ≡ true → id ≡ v
only_id id v none one empty is h = search (arith, eqb-true, true≢false)

pub first_pending : (entries : List Entry) (id : ℕ) (none one : Pending) → ((w : ℕ) → is_pending none w ≡ false)
    → ((w : ℕ) → is_pending one w ≡ cond (id == w) true (is_pending none w)) → AreReachedSoFar entries id one []
first_pending entries id none one empty is = record {
  ascending = λ k lt. absurd (omega (arith, lt));
  below = λ v h. let same = only_id id v none one empty is h in omega (arith, same);
  sound_pending = λ v h. subst (Reaches entries id) (only_id id v none one empty is h) itself;
  sound = λ v has. absurd (nothing v has);
  start = inl (is id ∙ ap (λ b. cond b true (is_pending none id)) (same_id id));
  closed = λ i hint hints has found in_hints. absurd (nothing i has);
}
  where
    nothing : (v : ℕ) → Contains {X = ℕ} [] v → ⊥
    nothing v (k, lt, at) = omega (arith, lt)

    same_id : (n : ℕ) → (n == n) ≡ true
    same_id n = eq-eqb n n refl

-- the greatest id that is pending is taken out, and its hints are added
pub one_more_reached : (entries : List Entry) (id at : ℕ) (before taken after : Pending) (up : List ℕ) (hints : List ℕ)
    → AreReachedSoFar entries id before up
    → Takes before taken at → hints_at entries at ≡ Some hints →
    ((hint : ℕ) → Contains hints hint → (1 ≤ hint) × (hint < at))
    → ((v : ℕ) → is_pending taken v ≡ true → is_pending after v ≡ true) →
    ((v : ℕ) → Contains hints v → is_pending after v ≡ true)
    → ((v : ℕ) → is_pending after v ≡ true → (is_pending taken v ≡ true) ⊎ Contains hints v)
    → AreReachedSoFar entries id after (at ∷ up)
one_more_reached entries id at before taken after up hints so_far takes found earlier kept added only =
    let reached_at : Reaches entries id at = so_far.sound_pending at takes.was in
    record {
      ascending = ascends;
      below = λ v h.
          elim (only v h) [
            | inl old ↦ takes.below v old
            | inr new ↦ (earlier v new).1
          ];
      sound_pending = λ v h.
          elim (only v h) [
            | inl old ↦ so_far.sound_pending v (takes.fewer v old)
            | inr new ↦ by_hint at v hints reached_at found new
          ];
      sound = search (arith, head_or_tail);
      start = elim so_far.start [ inl was ↦ stays id was | inr has ↦ inr (later id has) ];
      closed = λ i hint own has own_found in_own.
          elim (head_or_tail i has) [
            | inl here ↦
                let same : own ≡ hints = some_is own hints (sym own_found ∙ ap (hints_at entries) here ∙ found) in
                inl (added hint (subst (λ hs. Contains hs hint) same in_own))
            | inr behind ↦
                elim (so_far.closed i hint own behind own_found in_own) [
                  | inl was ↦ stays hint was
                  | inr has_hint ↦ inr (later hint has_hint)
                ]
          ];
    }
  where
    some_is : (xs ys : List ℕ) → Some xs ≡ Some ys → xs ≡ ys
    some_is xs ys e = cc

    later : (v : ℕ) → Contains up v → Contains (at ∷ up) v
    later v (k, lt, is) = (suc k, omega (arith, lt), is)

    head_or_tail : (v : ℕ) → Contains (at ∷ up) v → (v ≡ at) ⊎ Contains up v
    head_or_tail v (zero, lt, is) = inl (sym is)
    head_or_tail v (suc k, lt, is) = inr (k, omega (arith, lt), is)

    stays : (v : ℕ) → is_pending before v ≡ true → (is_pending after v ≡ true) ⊎ Contains (at ∷ up) v
    stays v was =
        elim (cases_Bool (v == at)) [
          | inl same ↦ inr (0, omega arith, sym (eqb-true v at same))
          | inr other ↦ inl (kept v (takes.others v was (eqb-false v at other)))
        ]

    ascends : IsStrictlyIncreasing (at ∷ up)
    ascends zero lt = let low = so_far.below at takes.was in first up low lt
      where
        first : (ys : List ℕ) → at < get_or ys 0 (id + 1) → 0 + 1 < length (at ∷ ys) →
            slice_index (at ∷ ys) 0 < slice_index (at ∷ ys) (0 + 1)
        first [] low lt = absurd (omega (arith, lt))
        first (y ∷ ys) low lt = low
    ascends (suc k) lt =
        let next : suc k + 1 ≡ suc (k + 1) = omega arith in
        subst (λ n. slice_index (at ∷ up) (suc k) < slice_index (at ∷ up) n) (sym next)
        (so_far.ascending k (omega (arith, lt)))

-- no entry has the id 0, and what is closed under hints has all that is reached
pub all_reached : (entries : List Entry) (id : ℕ) (pending : Pending) (up : List ℕ) →
    AreReachedSoFar entries id pending up
    → ((v : ℕ) → is_pending pending v ≡ false) → AreReached entries id up
all_reached entries id pending up so_far empty = record {
  ascending = so_far.ascending;
  sound = so_far.sound;
  complete = λ i reached. complete i reached;
}
  where
    inside : (v : ℕ) → (is_pending pending v ≡ true) ⊎ Contains up v → Contains up v
    inside v (inl was) = absurd (true≢false (sym was ∙ empty v))
    inside v (inr has) = has

    complete : (i : ℕ) → Reaches entries id i → Contains up i
    complete i itself = inside i so_far.start
    complete i (by_hint at hint hints before found has) = inside i
        (so_far.closed at hint hints (complete at before) found has)
