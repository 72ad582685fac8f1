-- A literal's key tells it from the others.
use Rattle.std.proofs.Common.{◌≡◌, ℕ, Result, Ok, Err, IfOk, OnOk, ◌+◌, ◌*◌, ◌==◌, Bool, true, false, not, cond, ◌||◌, List, [], ◌∷◌, ◌++◌, map, refl, sym, ◌∙◌, ap, arith}
use Rattle.std.specs.List.{list_any}
use Rattle.std.proofs.lemmas.Bool.{false≢true, cases_eq, ne_eqb}
use Rattle.list_laws.proofs.Truths.{last, or_assoc, same_test}
use Rattle.dq_lits.specs.Literal.{Literal, positive, negative, same_literal}
use Rattle.dqdimacs_reader.specs.Building.{add_literal}
use Rattle.number_tables.specs.Numbers.{has_number}
use Rattle.dqdimacs_reader.specs.LiteralKey.{literal_key, AreKeysOf}

key_same : (k l : Literal) → (literal_key k == literal_key l) ≡ same_literal l k
key_same (positive v) (positive w) = same_test (2 * v) (2 * w) w v (λ e. omega arith) (λ e. omega arith)
key_same (positive v) (negative w) = ne_eqb (2 * v) (2 * w + 1) (λ e. omega arith)
key_same (negative v) (positive w) = ne_eqb (2 * v + 1) (2 * w) (λ e. omega arith)
key_same (negative v) (negative w) = same_test (2 * v + 1) (2 * w + 1) w v (λ e. omega arith) (λ e. omega arith)

keys_tell : (l : Literal) (literals : List Literal) → list_any (λ k. k == literal_key l) (map literal_key literals)
    ≡ list_any (same_literal l) literals
keys_tell l [] = refl
keys_tell l (k ∷ literals) = search (arith, key_same, (keys_tell l literals))

one_more : (l : Literal) (literals : List Literal) (n : ℕ)
    → has_number (map literal_key (literals ++ l ∷ [])) n ≡ (has_number (map literal_key literals) n ||
    (literal_key l == n))
one_more l [] n = last (literal_key l == n)
one_more l (k ∷ literals) n =
    ap (λ b. (literal_key k == n) || b) (one_more l literals n)
    ∙ or_assoc (literal_key k == n) (has_number (map literal_key literals) n) (literal_key l == n)

none_more : (l : Literal) (literals : List Literal) (n : ℕ) → list_any (same_literal l) literals ≡ true
    → has_number (map literal_key literals) n ≡ (has_number (map literal_key literals) n || (literal_key l == n))
none_more l literals n there = search (arith, cases_eq, keys_tell, ne_eqb, false≢true)

-- a literal is new where its key is
new_key : (l : Literal) (literals : List Literal) (keys : List ℕ) → AreKeysOf literals keys
    → not (has_number keys (literal_key l)) ≡ not (list_any (same_literal l) literals)
new_key l literals keys are = ap not (are (literal_key l) ∙ keys_tell l literals)

-- the keys with a literal's key are those of the literals with it
keys_more : (l : Literal) (literals : List Literal) (keys more : List ℕ) → AreKeysOf literals keys
    → ((n : ℕ) → has_number more n ≡ (has_number keys n || (literal_key l == n)))
    → AreKeysOf (add_literal literals l) more
keys_more l literals keys more are grown n =
    grown n ∙ ap (λ b. b || (literal_key l == n)) (are n) ∙ by_test (list_any (same_literal l) literals) refl
  where
    by_test : (b : Bool) → list_any (same_literal l) literals ≡ b
        → (has_number (map literal_key literals) n || (literal_key l == n))
        ≡ has_number (map literal_key (cond b literals (literals ++ l ∷ []))) n
    by_test true h = sym (none_more l literals n h)
    by_test false h = sym (one_more l literals n)

pub if_new : {E : Type 0} (r : Result Bool E) (l : Literal) (literals : List Literal) (keys : List ℕ) (key : ℕ)
    → key ≡ literal_key l → AreKeysOf literals keys → IfOk r (λ is_new. is_new ≡ not (has_number keys key))
    → IfOk r (λ is_new. is_new ≡ not (list_any (same_literal l) literals))
if_new (Ok is_new) l literals keys key is are h =
    h ∙ ap (λ k. not (has_number keys k)) is ∙ new_key l literals keys are
if_new (Err e) l literals keys key is are h = h

pub if_more : {E : Type 0} (r : Result Bool E) (l : Literal) (literals : List Literal) (keys more : List ℕ) (key : ℕ)
    → key ≡ literal_key l → AreKeysOf literals keys
    → OnOk r ((n : ℕ) → has_number more n ≡ (has_number keys n || (key == n)))
    → OnOk r (AreKeysOf (add_literal literals l) more)
if_more (Ok is_new) l literals keys more key is are h = search (arith, (keys_more l literals keys more are))
if_more (Err e) l literals keys more key is are h = h
