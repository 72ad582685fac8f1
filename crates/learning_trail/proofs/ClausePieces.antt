-- Clauses as pieces of one list.
use Rattle.std.proofs.Common.{◌≡◌, ℕ, zero, suc, ◌+◌, ◌-◌, ◌<◌, ◌≤◌, List, [], ◌∷◌, ◌++◌, length, take, drop, get_or, slice_get, Some, refl, ◌∙◌, ap, arith, length-append}
use Rattle.std.proofs.lemmas.List.{take-append-le}
use Rattle.dq_lits.specs.Literal.{Literal}
use Rattle.flat_lists.proofs.Lists.{AreEnds-start}
use Rattle.learning_trail.specs.Pieces.{pieces, AreEnds, start_of}

pub pieces-length : (xs : List Literal) (start : ℕ) (ends : List ℕ) → length (pieces xs start ends) ≡ length ends
pieces-length xs start [] = refl
pieces-length xs start (end ∷ ends) = ap suc (pieces-length xs end ends)

-- a piece
pub record IsPiece (xs : List Literal) (start : ℕ) (ends : List ℕ) (i : ℕ) : Type 0 where
  pub at : slice_get (pieces xs start ends) i ≡ Some (take (get_or ends i 0 - start_of start ends i)
      (drop (start_of start ends i) xs))
  pub from : start_of start ends i ≤ get_or ends i 0
  pub to : get_or ends i 0 ≤ length xs

pub piece_at : (xs : List Literal) (start : ℕ) (ends : List ℕ) (i : ℕ) → AreEnds start ends (length xs) →
    i < length ends → IsPiece xs start ends i
piece_at xs start [] i are lt = absurd (omega (arith, lt))
piece_at xs start (end ∷ ends) zero are lt = search (arith, AreEnds-start)
piece_at xs start (end ∷ ends) (suc i) are lt = search (arith, (piece_at xs end ends i are.1))

pub start_before : (start : ℕ) (ends : List ℕ) (i : ℕ) → i < length ends → start_of start ends (suc i) ≡ get_or ends i 0
start_before start [] i lt = absurd (omega (arith, lt))
start_before start (end ∷ ends) zero lt = search arith
start_before start (end ∷ ends) (suc i) lt = start_before end ends i (omega (arith, lt))

-- one piece more, behind the others
pieces_within : (xs ys : List Literal) (start : ℕ) (ends more : List ℕ) → AreEnds start ends (length xs) →
    pieces (xs ++ ys) start (ends ++ more) ≡ pieces xs start ends ++ pieces (xs ++ ys) (length xs) more
pieces_within xs ys start [] more are = ap (λ n. pieces (xs ++ ys) n more) are
pieces_within xs ys start (end ∷ ends) more are =
    let low = are.0 in
    let high = AreEnds-start end ends (length xs) are.1 in
    ap (λ c. c ∷ pieces (xs ++ ys) end (ends ++ more)) (within xs ys start (end - start) (omega (arith, low, high)))
    ∙ ap (λ cs. take (end - start) (drop start xs) ∷ cs) (pieces_within xs ys end ends more are.1)
  where
    within : (xs ys : List Literal) (n k : ℕ) → n + k ≤ length xs → take k (drop n (xs ++ ys)) ≡ take k (drop n xs)
    within xs ys zero k le = take-append-le k xs ys (omega (arith, le))
    within [] ys (suc n) k le = absurd (omega (arith, le))
    within (x ∷ xs) ys (suc n) k le = within xs ys n k (omega (arith, le))

drop_all : (xs ys : List Literal) → drop (length xs) (xs ++ ys) ≡ ys
drop_all [] ys = refl
drop_all (x ∷ xs) ys = drop_all xs ys

take_whole : (ys : List Literal) (n : ℕ) → n ≡ length ys → take n ys ≡ ys
take_whole ys n e = ap (λ k. take k ys) e ∙ whole ys
  where
    whole : (ys : List Literal) → take (length ys) ys ≡ ys
    whole [] = refl
    whole (y ∷ ys) = ap (λ zs. y ∷ zs) (whole ys)

pub pieces_more : (xs ys all : List Literal) (ends : List ℕ) (total : ℕ) → AreEnds 0 ends (length xs) → all ≡ xs ++ ys →
    total ≡ length all
    → pieces all 0 (ends ++ total ∷ []) ≡ pieces xs 0 ends ++ ys ∷ []
pieces_more xs ys all ends total are is long = search (arith, length-append, pieces_within, drop_all, take_whole)

pub ends_more : (xs ys all : List Literal) (ends : List ℕ) (total : ℕ) → AreEnds 0 ends (length xs) → all ≡ xs ++ ys →
    total ≡ length all → AreEnds 0 (ends ++ total ∷ []) (length all)
ends_more xs ys all ends total are is long = by 0 ends are
  where
    by : (start : ℕ) (es : List ℕ) → AreEnds start es (length xs) → AreEnds start (es ++ total ∷ []) (length all)
    by start [] e = (omega (arith, e, long, ap length is, length-append xs ys), long)
    by start (x ∷ es) e = (e.0, by x es e.1)
