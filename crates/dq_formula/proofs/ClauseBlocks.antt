-- Clauses in blocks.
use Rattle.std.proofs.Common.{◌≡◌, ◌≢◌, ℕ, zero, suc, ◌+◌, ◌-◌, ◌≤◌, ◌<◌, Bool, true, false, List, [], ◌∷◌, ◌++◌, length, take, drop, get_or, refl, ap, sym, ◌∙◌, arith, cond, eqb, ◌⊎◌, inl, inr, ⊎_elim, length-append}
use Rattle.std.proofs.lemmas.Bool.{cases_lt}
use Rattle.std.proofs.lemmas.Bool.Decides.{nat_tests}
use Rattle.std.proofs.lemmas.List.{get_or_append_left, get_or-append_right, take_all, drop_at}
use Rattle.list_laws.proofs.Sequences.{take-inside}
use Rattle.dq_lits.specs.Literal.{Literal}
use Rattle.dq_formula.specs.declared.blocks.Place.{Place}
use Rattle.dq_formula.specs.Blocks.{block_at, end_of, clause_in, clauses_at, IsNext, ArePlaces}

-- there are as many clauses as places
pub length_clauses_at : (blocks : List (List Literal)) (ps : List Place) → length (clauses_at blocks ps) ≡ length ps
length_clauses_at blocks [] = refl
length_clauses_at blocks (p ∷ ps) = ap suc (length_clauses_at blocks ps)

pub clause_at_place : (blocks : List (List Literal)) (ps : List Place) (j : ℕ) (d : Place) → j < length ps
    → get_or (clauses_at blocks ps) j [] ≡ clause_in (block_at blocks (get_or ps j d).block) (get_or ps j d)
    (drop (j + 1) ps)
clause_at_place blocks [] j d l = absurd (omega arith)
clause_at_place blocks (p ∷ ps) zero d l = refl
clause_at_place blocks (p ∷ ps) (suc j) d l = let e : suc j + 1 ≡ suc (j + 1) = omega arith in
    rw e (clause_at_place blocks ps j d (omega arith))

-- where a clause lies
pub record LiesWithin (blocks : List (List Literal)) (p : Place) (later : List Place) : Type 0 where
  pub block_exists : p.block < length blocks
  pub start_first : p.start ≤ end_of (block_at blocks p.block) p later
  pub end_exists : end_of (block_at blocks p.block) p later ≤ length (block_at blocks p.block)

first_within : (blocks : List (List Literal)) (block start : ℕ) (p : Place) (later : List Place) →
    IsNext blocks block start p → ArePlaces blocks p.block p.start later
    → LiesWithin blocks p later
first_within blocks block start p [] is h = record {
  block_exists = is.block_exists;
  start_first = is.start_exists;
  end_exists = omega arith;
}
first_within blocks block start p (q ∷ later) is h = by (eqb q.block p.block) refl
  where
    Goal : Bool → Type 0
    Goal b = (p.start ≤ cond b q.start (length (block_at blocks p.block))) ×
        (cond b q.start (length (block_at blocks p.block)) ≤ length (block_at blocks p.block))

    same : q.block ≡ p.block → Goal true
    same e = (
      ⊎_elim (λ o. o.1) (λ o. absurd (omega (arith, o.0, e))) h.0.ordered,
      rw (← e) h.0.start_exists,
    )

    parts : (b : Bool) → eqb q.block p.block ≡ b → Goal b
    parts true e = same (grind (arith, nat_tests))
    parts false e = (is.start_exists, omega arith)

    by : (b : Bool) → eqb q.block p.block ≡ b → LiesWithin blocks p (q ∷ later)
    by b e = let both = parts b e in record {
      block_exists = is.block_exists;
      start_first = rw e both.0;
      end_exists = rw e both.1;
    }

pub lies_within : (blocks : List (List Literal)) (block start : ℕ) (ps : List Place) (j : ℕ) (d : Place) →
    ArePlaces blocks block start ps → j < length ps
    → LiesWithin blocks (get_or ps j d) (drop (j + 1) ps)
lies_within blocks block start [] j d h l = absurd (omega arith)
lies_within blocks block start (p ∷ ps) zero d h l = first_within blocks block start p ps h.0 h.1
lies_within blocks block start (p ∷ ps) (suc j) d h l = let e : suc j + 1 ≡ suc (j + 1) = omega arith in
    rw e (lies_within blocks p.block p.start ps j d h.1 (omega arith))

-- blocks are no more than places, but for two
pub few_blocks : (blocks : List (List Literal)) (block start : ℕ) (ps : List Place) → ArePlaces blocks block start ps →
    length blocks ≤ block + length ps + 2
few_blocks blocks block start [] h = ⊎_elim (λ a. omega (arith, a)) (λ a. omega (arith, a.0)) h
few_blocks blocks block start (p ∷ ps) h = search (arith, (few_blocks blocks p.block p.start ps h.1))

-- the last of some blocks, and those before it
block_at-last : (fs : List (List Literal)) (x : List Literal) → block_at (fs ++ x ∷ []) (length fs) ≡ x
block_at-last fs x = search (arith, get_or-append_right)

block_at-before : (fs : List (List Literal)) (x : List Literal) (b : ℕ) → b < length fs →
    block_at (fs ++ x ∷ []) b ≡ block_at fs b
block_at-before fs x b l = get_or_append_left fs (x ∷ []) [] b l

pub size : (fs : List (List Literal)) (x : List Literal) → length (fs ++ x ∷ []) ≡ length fs + 1
size fs x = length-append fs (x ∷ [])

-- a block that comes after p's: the clause at p stays
later_block : (fs : List (List Literal)) (x y : List Literal) (p : Place) (later : List Place) → p.block < length fs
    → clause_in (block_at (fs ++ y ∷ []) p.block) p later ≡ clause_in (block_at (fs ++ x ∷ []) p.block) p later
later_block fs x y p later l = search (arith, block_at-before)

-- a place behind the last one, at the end of what there was
end-new : (block : List Literal) (p new : Place) → (new.block ≡ p.block → new.start ≡ length block) →
    end_of block p (new ∷ []) ≡ length block
end-new block p new at = search (arith, nat_tests)

-- in the last block, literals behind a clause
same_block : (cur more : List Literal) (p : Place) (later : List Place) → p.start ≤ end_of cur p later →
    end_of cur p later ≤ length cur → end_of (cur ++ more) p later ≡ end_of cur p later
    → clause_in (cur ++ more) p later ≡ clause_in cur p later
same_block cur more p later a b e = search (arith, take-inside)

-- where the next clause begins in the same block, the end stays
end-same : (cur more : List Literal) (p q : Place) (later : List Place) → q.block ≡ p.block →
    end_of (cur ++ more) p (q ∷ later) ≡ end_of cur p (q ∷ later)
end-same cur more p q later e = let t : eqb q.block p.block ≡ true = grind (arith, nat_tests) in rw t refl

-- One clause more, in the last block, at the end of what there was. The clauses stay.
pub record IsNew (fs : List (List Literal)) (cur : List Literal) (new : Place) : Type 0 where
  pub block_is : new.block ≡ length fs
  pub start_is : new.start ≡ length cur

new_clause : (fs : List (List Literal)) (cur clause : List Literal) (new : Place) → IsNew fs cur new
    → clause_in (block_at (fs ++ (cur ++ clause) ∷ []) new.block) new [] ≡ clause
new_clause fs cur clause new is = search (arith, block_at-last, drop_at, take_all, length-append)

-- the clause at a place, where its block is one of the earlier ones or the last
stays : (fs : List (List Literal)) (cur clause : List Literal) (new p : Place) (later : List Place) (block start : ℕ) →
    IsNew fs cur new → IsNext (fs ++ cur ∷ []) block start p
    → ArePlaces (fs ++ cur ∷ []) p.block p.start later
    → clause_in (block_at (fs ++ (cur ++ clause) ∷ []) p.block) p (later ++ new ∷ []) ≡ clause_in
    (block_at (fs ++ cur ∷ []) p.block) p later
stays fs cur clause new p later block start is next h = ⊎_elim before last (cases_lt p.block (length fs))
  where
    blocks : List (List Literal)
    blocks = fs ++ cur ∷ []

    Goal : Type 0
    Goal = clause_in (block_at (fs ++ (cur ++ clause) ∷ []) p.block) p (later ++ new ∷ []) ≡ clause_in
        (block_at blocks p.block) p later

    -- the end is that of the next place, in a block that stays
    ends : (qs : List Place) → p.block < length fs → clause_in (block_at blocks p.block) p (qs ++ new ∷ []) ≡ clause_in
        (block_at blocks p.block) p qs
    ends [] l = ap (λ e. take (e - p.start) (drop p.start (block_at blocks p.block)))
        (end-new (block_at blocks p.block) p new (λ e. absurd (omega (arith, is.block_is, e))))
    ends (q ∷ qs) l = refl

    before : p.block < length fs → Goal
    before l = later_block fs cur (cur ++ clause) p (later ++ new ∷ []) l ∙ ends later l

    at : length fs ≤ p.block → p.block ≡ length fs
    at ge = omega (arith, next.block_exists, size fs cur)

    here : length fs ≤ p.block → block_at blocks p.block ≡ cur
    here ge = rw (at ge) (block_at-last fs cur)

    there : length fs ≤ p.block → block_at (fs ++ (cur ++ clause) ∷ []) p.block ≡ cur ++ clause
    there ge = rw (at ge) (block_at-last fs (cur ++ clause))

    inside : (qs : List Place) → length fs ≤ p.block → ArePlaces blocks p.block p.start qs →
        clause_in (cur ++ clause) p (qs ++ new ∷ []) ≡ clause_in cur p qs
    inside [] ge k =
        let t : eqb new.block p.block ≡ true = let e : new.block ≡ p.block = omega (arith, is.block_is, at ge) in
        grind (arith, nat_tests) in
        let low : p.start ≤ length cur = rw (here ge) at next.start_exists in
        rw (t, is.start_is) (take-inside p.start (length cur - p.start) cur clause low (omega (arith, low)))
    inside (q ∷ qs) ge k =
        let e : q.block ≡ p.block = ⊎_elim (λ o. o.0) (λ o. absurd
        (omega (arith, o.0, k.0.block_exists, size fs cur, ge))) k.0.ordered in
        let w = first_within blocks block start p (q ∷ qs) next k in
        let low : p.start ≤ end_of cur p (q ∷ qs) = rw (here ge) at w.start_first in
        let high : end_of cur p (q ∷ qs) ≤ length cur = rw (here ge) at w.end_exists in
        same_block cur clause p (q ∷ qs) low high (end-same cur clause p q qs e)

    last : length fs ≤ p.block → Goal
    last ge = rw (there ge, here ge) (inside later ge h)

pub clauses_at-put : (fs : List (List Literal)) (cur clause : List Literal) (new : Place) (block start : ℕ)
    (ps : List Place) → IsNew fs cur new → ArePlaces (fs ++ cur ∷ []) block start ps
    → clauses_at (fs ++ (cur ++ clause) ∷ []) (ps ++ new ∷ []) ≡ clauses_at (fs ++ cur ∷ []) ps ++ clause ∷ []
clauses_at-put fs cur clause new block start [] is h = ap (λ c. c ∷ []) (new_clause fs cur clause new is)
clauses_at-put fs cur clause new block start (p ∷ ps) is h =
    rw (
      stays fs cur clause new p ps block start is h.0 h.1,
      clauses_at-put fs cur clause new p.block p.start ps is h.1,
    ) refl

-- where a place stands in a block
pub record StandsIn (blocks : List (List Literal)) (block start : ℕ) : Type 0 where
  pub block_exists : block < length blocks
  pub start_exists : start ≤ length (block_at blocks block)

grows : (fs : List (List Literal)) (cur clause : List Literal) (b : ℕ) →
    length (block_at (fs ++ cur ∷ []) b) ≤ length (block_at (fs ++ (cur ++ clause) ∷ []) b)
grows [] cur clause zero = omega (arith, length-append cur clause)
grows [] cur clause (suc b) = omega arith
grows (f ∷ fs) cur clause zero = omega arith
grows (f ∷ fs) cur clause (suc b) = grows fs cur clause b

pub ArePlaces-put : (fs : List (List Literal)) (cur clause : List Literal) (new : Place) (block start : ℕ)
    (ps : List Place) → IsNew fs cur new → StandsIn (fs ++ cur ∷ []) block start
    → ArePlaces (fs ++ cur ∷ []) block start ps → ArePlaces (fs ++ (cur ++ clause) ∷ []) block start (ps ++ new ∷ [])
ArePlaces-put fs cur clause new block start [] is stands h = (
  record {
    block_exists = omega (arith, is.block_is, size fs (cur ++ clause));
    start_exists = search (arith, block_at-last, length-append);
    ordered = ⊎_elim same after h;
  },
  inl (omega (arith, is.block_is, size fs (cur ++ clause))),
)
  where
    same : length (fs ++ cur ∷ []) ≤ block + 1 → ((new.block ≡ block) × (start ≤ new.start)) ⊎
        ((new.block ≡ block + 1) × (new.start ≡ 0))
    same few =
        let e : length fs ≡ block = omega (arith, few, size fs cur, stands.block_exists) in
        let low : start ≤ length cur = rw (← e, block_at-last fs cur) at stands.start_exists in
        inl (omega (arith, is.block_is, e), omega (arith, is.start_is, low))

    after : (length (fs ++ cur ∷ []) ≡ block + 2) × (block_at (fs ++ cur ∷ []) (block + 1) ≡ []) →
        ((new.block ≡ block) × (start ≤ new.start)) ⊎ ((new.block ≡ block + 1) × (new.start ≡ 0))
    after both =
        let e : block + 1 ≡ length fs = omega (arith, both.0, size fs cur) in
        let none : cur ≡ [] = sym (block_at-last fs cur) ∙ ap (block_at (fs ++ cur ∷ [])) (sym e) ∙ both.1 in
        inr (omega (arith, is.block_is, e), omega (arith, is.start_is, ap length none))
ArePlaces-put fs cur clause new block start (p ∷ ps) is stands h = (
  record {
    block_exists = omega (arith, h.0.block_exists, size fs cur, size fs (cur ++ clause));
    start_exists = omega (arith, h.0.start_exists, grows fs cur clause p.block);
    ordered = h.0.ordered;
  },
  ArePlaces-put fs cur clause new p.block p.start ps is (record
      { block_exists = h.0.block_exists; start_exists = h.0.start_exists }) h.1,
)

pub stands_first : (fs : List (List Literal)) (cur : List Literal) → StandsIn (fs ++ cur ∷ []) 0 0
stands_first fs cur = record { block_exists = omega (arith, size fs cur); start_exists = omega arith }

-- an empty block behind the others
block_at-more : (blocks : List (List Literal)) (x : List Literal) (b : ℕ) → b < length blocks →
    block_at (blocks ++ x ∷ []) b ≡ block_at blocks b
block_at-more blocks x b l = get_or_append_left blocks (x ∷ []) [] b l

pub clauses_at-open : (blocks : List (List Literal)) (block start : ℕ) (ps : List Place) →
    ArePlaces blocks block start ps → clauses_at (blocks ++ [] ∷ []) ps ≡ clauses_at blocks ps
clauses_at-open blocks block start [] h = refl
clauses_at-open blocks block start (p ∷ ps) h =
    search (arith, block_at-more, (clauses_at-open blocks p.block p.start ps h.1))

pub ArePlaces-open : (fs : List (List Literal)) (cur : List Literal) (block start : ℕ) (ps : List Place) → cur ≢ [] →
    block < length (fs ++ cur ∷ []) → ArePlaces (fs ++ cur ∷ []) block start ps
    → ArePlaces ((fs ++ cur ∷ []) ++ [] ∷ []) block start ps
ArePlaces-open fs cur block start [] some exists h = inr (⊎_elim same after h)
  where
    Goal : Type 0
    Goal = (length ((fs ++ cur ∷ []) ++ [] ∷ []) ≡ block + 2) ×
        (block_at ((fs ++ cur ∷ []) ++ [] ∷ []) (block + 1) ≡ [])

    same : length (fs ++ cur ∷ []) ≤ block + 1 → Goal
    same few =
        let e : length (fs ++ cur ∷ []) ≡ block + 1 = omega (arith, few, exists) in
        (omega (arith, size (fs ++ cur ∷ []) [], e), rw (← e) (block_at-last (fs ++ cur ∷ []) []))

    after : (length (fs ++ cur ∷ []) ≡ block + 2) × (block_at (fs ++ cur ∷ []) (block + 1) ≡ []) → Goal
    after both =
        let e : block + 1 ≡ length fs = omega (arith, both.0, size fs cur) in
        absurd (some (sym (block_at-last fs cur) ∙ ap (block_at (fs ++ cur ∷ [])) (sym e) ∙ both.1))
ArePlaces-open fs cur block start (p ∷ ps) some exists h = (
  record {
    block_exists = omega (arith, h.0.block_exists, size (fs ++ cur ∷ []) []);
    start_exists = rw (block_at-more (fs ++ cur ∷ []) [] p.block h.0.block_exists) h.0.start_exists;
    ordered = h.0.ordered;
  },
  ArePlaces-open fs cur p.block p.start ps some h.0.block_exists h.1,
)
