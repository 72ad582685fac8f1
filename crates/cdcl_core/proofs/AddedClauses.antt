-- One clause more, with its watches.
use Rattle.std.proofs.Common.{◌≡◌, ℕ, suc, ◌+◌, ◌-◌, ◌<◌, ◌≤◌, Bool, true, false, not, ◌&&◌, cond, ◌⊎◌, inl, inr, List, [], ◌∷◌, ◌++◌, length, Some, slice_get, All, Contains, refl, sym, ◌∙◌, ap, subst, arith, length-append}
use Rattle.std.proofs.Math.Seq.{get_or-append_seam}
use Rattle.std.proofs.lemmas.Bool.{and_parts, false≢true}
use Rattle.std.proofs.lemmas.List.{get_or_append_left}
use Rattle.std.proofs.lemmas.Option.{slice_get_within}
use Rattle.dq_lits.specs.Literal.{Literal, positive, same_literal}
use Rattle.dq_lits.specs.Derivation.{holds}
use Rattle.dq_lits.proofs.HeldLiterals.{held_of_all}
use Rattle.cdcl_core.specs.declared.watches.Watches.{Watches}
use Rattle.cdcl_core.specs.Chains.{watch_at, place_of}
use Rattle.cdcl_core.specs.Watching.{IsWatched, AreWatched, AreShort, IsNoted, NotesShort}
use Rattle.cdcl_core.specs.Visits.{AreListed}
use Rattle.cdcl_core.specs.Storage.{Stored, IsListed, HasLists}
use Rattle.learning_trail.proofs.Lessons.{live_more}
use Rattle.cdcl_core.proofs.VisitedClauses.{contains_last}

pub watch_old : (xs : List Literal) (x : Literal) (i : ℕ) → i < length xs → watch_at (xs ++ x ∷ []) i ≡ watch_at xs i
watch_old xs x i lt = get_or_append_left xs (x ∷ []) (positive 0) i lt

pub watch_new : (xs : List Literal) (x : Literal) (i : ℕ) → i ≡ length xs → watch_at (xs ++ x ∷ []) i ≡ x
watch_new xs x i e = ap (watch_at (xs ++ x ∷ [])) e ∙ get_or-append_seam xs x [] (positive 0)

pub watched_more : (clauses : List (List Literal)) (first second : List Literal) (c : List Literal) (k l : Literal) →
    AreWatched clauses first second → length first ≡ length clauses
    → length second ≡ length clauses → IsWatched c k l → AreWatched (clauses ++ c ∷ []) (first ++ k ∷ [])
    (second ++ l ∷ [])
watched_more clauses first second c k l watched count count' new i d at = elim (live_more clauses c (suc i)) [
  | inl same ↦
      let here : slice_get clauses i ≡ Some d = sym same ∙ at in
      let lt = slice_get_within clauses i d here in
      subst (λ x. IsWatched d x (watch_at (second ++ l ∷ []) i)) (sym (watch_old first k i (omega (arith, lt, count))))
      (subst (λ x. IsWatched d (watch_at first i) x) (sym (watch_old second l i (omega (arith, lt, count'))))
      (watched i d here))
  | inr n ↦
      let e = n.0 in
      let s : Some c ≡ Some d = sym n.1 ∙ at in
      let q : c ≡ d = cc in
      subst (λ x. IsWatched d x (watch_at (second ++ l ∷ []) i)) (sym (watch_new first k i (omega (arith, e, count))))
      (subst (λ x. IsWatched d k x) (sym (watch_new second l i (omega (arith, e, count'))))
      (subst (λ x. IsWatched x k l) q new))
]

pub listed_clause : (clauses : List (List Literal)) (c : List Literal) (was now : Watches) → AreListed clauses was →
    length was.heads.items ≤ length now.heads.items
    → ((l : Literal) → holds c l ≡ true → place_of l + 1 ≤ length now.heads.items) → AreListed (clauses ++ c ∷ []) now
listed_clause clauses c was now listed wide new i d l at h = elim (live_more clauses c (suc i)) [
  | inl same ↦ let low = listed i d l (sym same ∙ at) h in omega (arith, low, wide)
  | inr n ↦
      let s : Some c ≡ Some d = sym n.1 ∙ at in
      let q : c ≡ d = cc in
      new l (ap (λ x. holds x l) q ∙ h)
]

contains_more : (xs : List ℕ) (y x : ℕ) → Contains xs x → Contains (xs ++ y ∷ []) x
contains_more xs y x c = search (arith, length-append, get_or_append_left)

contains_end : (xs : List ℕ) (y : ℕ) → Contains (xs ++ y ∷ []) y
contains_end xs y = (length xs, omega (arith, length-append xs (y ∷ [])), get_or-append_seam xs y [] y)

pub short_more : (clauses : List (List Literal)) (first second : List Literal) (old new : List ℕ) (c : List Literal)
    (k l : Literal) (is_noted : Bool) (id : ℕ) → AreShort clauses first second old
    → length first ≡ length clauses → length second ≡ length clauses → id ≡ length clauses + 1 →
    (is_noted ≡ true → IsNoted first old c k) → NotesShort old new k l is_noted id
    → AreShort (clauses ++ c ∷ []) (first ++ k ∷ []) (second ++ l ∷ []) new
short_more clauses first second old new c k l is_noted id notes count count' last is noted =
    by (same_literal k l && not is_noted) refl
  where
    long : length (clauses ++ c ∷ []) ≡ length clauses + 1
    long = length-append clauses (c ∷ [])

    still : (i : ℕ) → i < length clauses → same_literal (watch_at (first ++ k ∷ []) i) (watch_at (second ++ l ∷ []) i)
        ≡ same_literal (watch_at first i) (watch_at second i)
    still i lt = search (arith, watch_old)

    here : (i : ℕ) → i ≡ length clauses → same_literal (watch_at (first ++ k ∷ []) i) (watch_at (second ++ l ∷ []) i)
        ≡ same_literal k l
    here i e = search (arith, watch_new)

    before : (x : ℕ) → Contains old x → x - 1 < length clauses
    before x h = let r = notes.ids x h in let low = r.0 in let high = r.1 in omega (arith, low, high)

    noted_more : (d : List Literal) (x y : Literal) → y ≡ x → ((n : ℕ) → Contains old n → Contains new n) →
        IsNoted first old d x → IsNoted (first ++ k ∷ []) new d y
    noted_more d x y e more n = search (arith, before, watch_old)

    whole_old : (i : ℕ) (d : List Literal) → slice_get clauses i ≡ Some d
        → same_literal (watch_at (first ++ k ∷ []) i) (watch_at (second ++ l ∷ []) i) ≡ true
        → ((n : ℕ) → Contains old n → Contains new n)
        → Contains new (suc i) ⊎ IsNoted (first ++ k ∷ []) new d (watch_at (first ++ k ∷ []) i)
    whole_old i d at same more = let lt = slice_get_within clauses i d at in
        elim (notes.whole i d at (sym (still i lt) ∙ same)) [
          | inl h ↦ inl (more (suc i) h)
          | inr n ↦ inr (noted_more d (watch_at first i) (watch_at (first ++ k ∷ []) i)
              (watch_old first k i (omega (arith, lt, count))) more n)
        ]

    said_by : (b : Bool) → (true && not b) ≡ false → b ≡ true
    said_by true e = refl
    said_by false e = absurd (false≢true (sym e))

    by : (b : Bool) → (same_literal k l && not is_noted) ≡ b
        → AreShort (clauses ++ c ∷ []) (first ++ k ∷ []) (second ++ l ∷ []) new
    by true e =
        let one = (and_parts (same_literal k l) (not is_noted) e).0 in
        let new_is : new ≡ old ++ id ∷ [] = noted ∙ ap (λ b. cond b (old ++ id ∷ []) old) e in
        let within : (x : ℕ) → Contains new x → Contains old x ⊎ (x ≡ id) = λ x h. contains_last old id x
        (subst (λ xs. Contains xs x) new_is h) in
        record {
          ids = λ x h. elim (within x h) [
            | inl o ↦ let r = notes.ids x o in let low = r.0 in let high = r.1 in (low, omega (arith, high, long))
            | inr s ↦ (omega (arith, s, last), omega (arith, s, last, long))
          ];
          one = λ x h. elim (within x h) [
            | inl o ↦ still (x - 1) (before x o) ∙ notes.one x o
            | inr s ↦ here (x - 1) (omega (arith, s, last)) ∙ one
          ];
          whole = λ i d at same. elim (live_more clauses c (suc i)) [
            | inl old_at ↦ whole_old i d (sym old_at ∙ at) same
                (λ n h. subst (λ xs. Contains xs n) (sym new_is) (contains_more old id n h))
            | inr n ↦
                let g = n.0 in
                let s : suc i ≡ id = omega (arith, g, last) in
                inl (subst (λ xs. Contains xs (suc i)) (sym new_is) (subst (Contains (old ++ id ∷ [])) (sym s)
                (contains_end old id)))
          ];
        }
    by false e =
        let new_is : new ≡ old = noted ∙ ap (λ b. cond b (old ++ id ∷ []) old) e in
        let kept : (n : ℕ) → Contains old n → Contains new n = λ n h. subst (λ xs. Contains xs n) (sym new_is) h in
        record {
          ids = λ x h. let r = notes.ids x (subst (λ xs. Contains xs x) new_is h) in let low = r.0 in let high = r.1 in
              (low, omega (arith, high, long));
          one = λ x h. let o = subst (λ xs. Contains xs x) new_is h in still (x - 1) (before x o) ∙ notes.one x o;
          whole = λ i d at same. elim (live_more clauses c (suc i)) [
            | inl old_at ↦ whole_old i d (sym old_at ∙ at) same kept
            | inr n ↦
                let g = n.0 in
                let at_end : i ≡ length clauses = omega (arith, g) in
                let s : Some c ≡ Some d = sym n.1 ∙ at in
                let q : c ≡ d = cc in
                let said : is_noted ≡ true = said_by is_noted (sym (ap (λ b. b && not is_noted) (sym (here i at_end) ∙ same)) ∙ e) in
                inr (subst (λ x. IsNoted (first ++ k ∷ []) new x (watch_at (first ++ k ∷ []) i)) q
                (noted_more c k (watch_at (first ++ k ∷ []) i) (watch_new first k i (omega (arith, at_end, count))) kept (is said)))
          ];
        }

-- of all literals of the clause there is a list
pub list_of : (n : ℕ) (c : List Literal) → All (λ l. place_of l + 1 ≤ n) c → (l : Literal) → holds c l ≡ true →
    place_of l + 1 ≤ n
list_of n c all l h = held_of_all (λ k. place_of k + 1 ≤ n) c all l h

pub listed_one : (s : Stored) (c : List Literal) (l : Literal) → HasLists s c → (l ≡ positive 1) ⊎ (holds c l ≡ true) →
    IsListed s l
listed_one s c l lists (inl e) = subst (IsListed s) (sym e) lists.some
listed_one s c l lists (inr h) = held_of_all (λ k. IsListed s k) c lists.all l h
