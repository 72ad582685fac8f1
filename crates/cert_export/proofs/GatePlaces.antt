-- The places of the needed gates: what is looked at, and what is still to be.
use Rattle.std.proofs.Common.{◌≡◌, ℕ, ◌-◌, ◌<◌, ◌==◌, ◌⊎◌, inl, inr, Bool, true, false, true≢false, List, [], ◌∷◌, ◌++◌, length, get_or, reverse, slice_get, Some, refl, sym, ◌∙◌, ap, subst, arith}
use Rattle.std.specs.List.{All, AllPairs, Contains}
use Rattle.std.proofs.lemmas.Bool.{eqb-true, eq-eqb}
use Rattle.std.proofs.lemmas.List.{get_or-reverse, length-reverse, reverse-append, reverse-reverse}
use Rattle.std.proofs.lemmas.List.Elements.{All-contains, All-push, Contains-append_left, Contains-push, Contains-push_cases}
use Rattle.std.proofs.lemmas.List.Quantifiers.{all_pairs_push}
use Rattle.list_laws.proofs.Elements.{place_within}
use Rattle.dq_lits.specs.Literal.{Literal, variable_of}
use Rattle.hint_log.specs.Conditions.{MayFollow}
use Rattle.hint_log.specs.Entries.{Entry, name_of, names_of}
use Rattle.hint_log.specs.Growth.{Each}
use Rattle.hint_log.specs.Pending.{is_pending, Takes}
use Rattle.hint_log.specs.declared.names.Name.{Name}
use Rattle.hint_log.specs.declared.names.Name.TheVariants.{And}
use Rattle.hint_log.specs.declared.pending.Pending.{Pending}
use Rattle.cert_export.specs.Needed.{is_and, HasGate, IsGatePlace, IsWanted, Wants, WantsSides}
use Rattle.cert_export.proofs.NamePlaces.{named_at, same_pair, side_before}

-- the same list from its end on
pub reversed_contains : (xs : List ℕ) (x : ℕ) → Contains xs x → Contains (reverse xs) x
reversed_contains xs x (k, below, is) = search (arith, (length-reverse xs), (get_or-reverse xs (length xs - 1 - k) x))

-- a variable that is no gate adds nothing
pub nothing_wanted : (entries : List Entry) (v : ℕ) (pending : Pending) → ((a b : Literal) → name_of entries v
    ≡ Some (And a b) → ⊥) → Wants entries v pending pending
nothing_wanted entries v pending none = search arith

-- the same place's name
pub named_so : (names : List (ℕ × Name)) (p v : ℕ) (n : Name) (r : ℕ × Name) → slice_get names p ≡ Some (v, n) →
    slice_get names p ≡ Some r → slice_get names p ≡ Some (v, r.1)
named_so names p v n r at other = search arith

pub no_gate : (entries : List Entry) (v p : ℕ) (n : Name) → Each MayFollow entries →
    slice_get (names_of entries) p ≡ Some (v, n) → is_and n ≡ false → (a b : Literal) → name_of entries v
    ≡ Some (And a b) → ⊥
no_gate entries v p n lawful at none a b named =
    let mine = named_at entries p v n lawful at in
    let same : n ≡ And a b = cc in
    true≢false (sym (ap is_and same) ∙ none)

pub still_wanted : (entries : List Entry) (v : ℕ) (old new : Pending) → ((p : ℕ) → is_pending old p ≡ true →
    is_pending new p ≡ true) → IsWanted entries old v → IsWanted entries new v
still_wanted entries v old new kept wanted a b named = search arith

-- both sides of a gate
pub sides_wanted : (entries : List Entry) (place v : ℕ) (a b : Literal) (old mid new : Pending) →
    Each MayFollow entries → slice_get (names_of entries) place ≡ Some (v, And a b) →
    Wants entries (variable_of a) old mid → Wants entries (variable_of b) mid new → WantsSides entries place old new
sides_wanted entries place v a b old mid new lawful at first second = record {
  kept = λ p h. second.kept p (first.kept p h);
  there = λ w c d other. both w c d other;
  only = λ p h. elim (second.only p h) [
    | inl before ↦ elim (first.only p before) [
      | inl older ↦ inl older
      | inr here ↦ inr ((variable_of a, here), side_before entries place p v a b a here.0 lawful at (inl refl) here.1)
    ]
    | inr here ↦ inr ((variable_of b, here), side_before entries place p v a b b here.0 lawful at (inr refl) here.1)
  ];
} where
  both : (w : ℕ) (c d : Literal) → slice_get (names_of entries) place ≡ Some (w, And c d) →
      IsWanted entries new (variable_of c) × IsWanted entries new (variable_of d)
  both w c d other =
      let name = (same_pair v w (And a b) (And c d) (sym at ∙ other)).1 in
      let left : a ≡ c = cc in
      let right : b ≡ d = cc in (
        subst (λ l. IsWanted entries new (variable_of l)) left (still_wanted entries (variable_of a) mid new second.kept
            first.there),
        subst (λ l. IsWanted entries new (variable_of l)) right second.there,
      )

-- where the variable is a gate, its place was looked at or is still to be
abbrev IsReached : List Entry → Pending → List ℕ → ℕ → Type 0
IsReached entries pending places v =
    (a b : Literal) → name_of entries v ≡ Some (And a b) →
    (p : ℕ) × HasGate entries v p × ((is_pending pending p ≡ true) ⊎ Contains places p)

-- the places that were looked at, descending, and those that are still to be, before them
pub record AreLookedAt (entries : List Entry) (roots pending : Pending) (places : List ℕ) : Type 0 where
  pub descending : AllPairs (λ p q. q < p) places
  pub gates : All (IsGatePlace entries) places
  pub pending_gates : (p : ℕ) → is_pending pending p ≡ true → IsGatePlace entries p
  pub before : (p : ℕ) → is_pending pending p ≡ true → All (λ q. p < q) places
  pub roots_there : (p : ℕ) → is_pending roots p ≡ true → (is_pending pending p ≡ true) ⊎ Contains places p
  pub closed : (p v : ℕ) (a b : Literal) → Contains places p → slice_get (names_of entries) p ≡ Some (v, And a b) →
      IsReached entries pending places (variable_of a) × IsReached entries pending places (variable_of b)

module _ (entries : List Entry) (roots old taken new : Pending) (place : ℕ) (places : List ℕ)
    (so_far : AreLookedAt entries roots old places) (takes : Takes old taken place)
    (sides : WantsSides entries place taken new) where
  abbrev more : List ℕ
  more = places ++ place ∷ []

  last : Contains more place
  last = Contains-push places place

  stays : (p : ℕ) → Contains places p → Contains more p
  stays p inside = Contains-append_left places (place ∷ []) p inside

  moves : (p : ℕ) → is_pending old p ≡ true → (is_pending new p ≡ true) ⊎ Contains more p
  moves p h = by_bit (p == place) refl where
    by_bit : (b : Bool) → (p == place) ≡ b → (is_pending new p ≡ true) ⊎ Contains more p
    by_bit true same = inr (subst (Contains more) (sym (eqb-true p place same)) last)
    by_bit false other = inl (sides.kept p (takes.others p h (λ is. true≢false (sym (eq-eqb p place is) ∙ other))))

  moves_on : (p : ℕ) → (is_pending old p ≡ true) ⊎ Contains places p → (is_pending new p ≡ true) ⊎ Contains more p
  moves_on p (inl h) = moves p h
  moves_on p (inr inside) = inr (stays p inside)

  still_reached : (v : ℕ) → IsReached entries old places v → IsReached entries new more v
  still_reached v reached a b named = let r = reached a b named in (r.0, r.1, moves_on r.0 r.2)

  reached_now : (v : ℕ) → IsWanted entries new v → IsReached entries new more v
  reached_now v wanted a b named = let w = wanted a b named in (w.0, w.1, inl w.2)

  older : (p : ℕ) → is_pending taken p ≡ true → is_pending old p ≡ true
  older p h = takes.fewer p h

  is_before : (p : ℕ) → is_pending new p ≡ true → All (λ q. p < q) more
  is_before p h = elim (sides.only p h) [
    | inl before ↦ All-push (λ q. p < q) places place (so_far.before p (older p before)) (takes.below p before)
    | inr side ↦ All-push (λ q. p < q) places place (λ k d less.
        omega (arith, side.1, so_far.before place takes.was k d less)) side.1
  ]

  pub one_more_looked_at : AreLookedAt entries roots new more
  one_more_looked_at = record {
    descending = all_pairs_push (λ p q. q < p) places place so_far.descending
        (so_far.before place takes.was);
    gates = All-push (IsGatePlace entries) places place so_far.gates (so_far.pending_gates place takes.was);
    pending_gates = search arith;
    before = is_before;
    roots_there = λ p h. moves_on p (so_far.roots_there p h);
    closed = λ p v a b inside at. elim (Contains-push_cases places place p inside) [
      | inl before ↦ (
          let both = so_far.closed p v a b before at in
          (still_reached (variable_of a) both.0, still_reached (variable_of b) both.1))
      | inr same ↦ search (arith, reached_now)
    ];
  }

-- what was looked at last, or the end of the names, comes behind what is still to be
pub fewer_left : (entries : List Entry) (roots pending : Pending) (places more : List ℕ) (place : ℕ) →
    AreLookedAt entries roots pending places → is_pending pending place ≡ true → more ≡ places ++ place ∷ [] →
    get_or (reverse more) 0 (length (names_of entries)) < get_or (reverse places) 0 (length (names_of entries))
fewer_left entries roots pending places more place so_far was is =
    let now : get_or (reverse more) 0 (length (names_of entries)) ≡ place =
    ap (λ ps. get_or (reverse ps) 0 (length (names_of entries))) is
    ∙ ap (λ ps. get_or ps 0 (length (names_of entries))) (reverse-append places (place ∷ [])) in
    let low = before (reverse places) (λ q inside. so_far_before q inside) in
    omega (arith, now, low) where
      so_far_before : (q : ℕ) → Contains (reverse places) q → place < q
      so_far_before q inside =
          search (arith, All-contains, (reverse-reverse places), (reversed_contains (reverse places) q inside))

      before : (up : List ℕ) → ((q : ℕ) → Contains up q → place < q) → place < get_or up 0 (length (names_of entries))
      before [] low = let g = so_far.pending_gates place was in place_within (names_of entries) place (g.0, g.1.0) g.1.1
      before (q ∷ up) low = low q (0, omega arith, refl)
