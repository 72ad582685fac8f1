-- The clauses of an XOR line, put behind others with a literal and then with its opposite.
use Rattle.std.proofs.Common.{◌≡◌, ℕ, suc, ◌+◌, ◌*◌, ◌≤◌, ◌<◌, Bool, true, not, List, [], ◌∷◌, ◌++◌, length, map, take, drop, reverse, get_or, sym, ◌∙◌, ap, ap₂, arith, length-append}
use Rattle.std.proofs.lemmas.List.{drop-drop, drop_all, take_all, length-map, length-reverse, length-take}
use Rattle.dq_lits.specs.Literal.{Literal, opposite}
use Rattle.dq_formula.specs.declared.blocks.Blocks.{Blocks}
use Rattle.dq_formula.specs.Blocks.{clauses_of, HasRoom, ArePut}
use Rattle.dq_formula.specs.Xor.{first_parity_clauses, xor_clauses}
use Rattle.dq_formula.proofs.BlockSteps.{put_both}
use Rattle.dq_formula.proofs.XorClauses.{parity-step, both_signs, few-parity, nothing_behind}

-- as many with an even number as with the last literal, and with its opposite
pub parity-count : (even : Bool) (literals : List Literal) (n m : ℕ) (d : Literal) → n ≡ suc m → m < length literals
    → length (first_parity_clauses even literals n) ≡ length (first_parity_clauses even literals m) + length
    (first_parity_clauses (not even) literals m)
parity-count even literals n m d is l = search (arith, (parity-step even literals m d l), length-append, length-map)

pub room_first : (b : Blocks) (x y p : ℕ) → p ≡ x + y → HasRoom b p (5 * p) (5 * p) → HasRoom b x (5 * x) (5 * x)
room_first b x y p is had = search arith

pub room_second : (a b : Blocks) (xs : List (List Literal)) (x y p : ℕ) → length xs ≡ x → p ≡ x + y →
    ArePut a b xs (5 * x) → HasRoom a p (5 * p) (5 * p) → HasRoom b y (5 * y) (5 * y)
room_second a b xs x y p size is put had = put.room y (5 * y) (5 * y) (record {
  places = omega (arith, had.places, is, size);
  literals = omega (arith, had.literals, is);
  starts = omega (arith, had.starts, is);
})

pub few_second : (a b : Blocks) (xs : List (List Literal)) (x y p most : ℕ) → length xs ≡ x → p ≡ x + y →
    ArePut a b xs (5 * x) → length (clauses_of a) + p ≤ most → length (clauses_of b) + y ≤ most
few_second a b xs x y p most size is put few = search (arith, length-append)

-- what is behind a literal
pub drop-next : (xs rest : List Literal) (m : ℕ) (l : Literal) → drop m xs ≡ l ∷ rest → drop (m + 1) xs ≡ rest
drop-next xs rest m l is = sym (drop-drop 1 m xs) ∙ ap (drop 1) is

-- the two halves, with what stands behind them
pub both_put : (a b c : Blocks) (even : Bool) (literals rest first second : List Literal) (n m x y p : ℕ) (d : Literal)
    → n ≡ suc m → m < length literals → p ≡ x + y
    → first ≡ get_or literals m d ∷ rest → second ≡ opposite (get_or literals m d) ∷ rest
    → ArePut a b (map (λ k. k ++ first) (first_parity_clauses even literals m)) (5 * x)
    → ArePut b c (map (λ k. k ++ second) (first_parity_clauses (not even) literals m)) (5 * y)
    → ArePut a c (map (λ k. k ++ rest) (first_parity_clauses even literals n)) (5 * p)
both_put a b c even literals rest first second n m x y p d is l sum one two before after =
    let xs = first_parity_clauses even literals m in
    let ys = first_parity_clauses (not even) literals m in
    let both = put_both a b c (map (λ k. k ++ first) xs) (map (λ k. k ++ second) ys) (5 * x) (5 * y) before after in
    let whole : map (λ k. k ++ rest) (first_parity_clauses even literals n) ≡ map (λ k. k ++ first) xs ++ map
    (λ k. k ++ second) ys =
    ap (λ n. map (λ k. k ++ rest) (first_parity_clauses even literals n)) is ∙ both_signs even literals m d rest l
    ∙ ap₂ (λ u v. map (λ k. k ++ u) xs ++ map (λ k. k ++ v) ys) (sym one) (sym two) in
    let size : 5 * p ≡ 5 * x + 5 * y = omega (arith, sum) in
    rw (whole, size) both

pub room_less : (b : Blocks) (p : ℕ) → p ≤ 16 → HasRoom b 16 80 80 → HasRoom b p (5 * p) (5 * p)
room_less b p le had = search arith

-- an XOR line has at most sixteen clauses
pub few_clauses : (literals : List Literal) (n : ℕ) → length literals ≤ 5 →
    length (first_parity_clauses true literals n) ≤ 16
few_clauses literals n few =
    let size : length (reverse (take n literals)) ≤ 5 = omega
    (arith, length-reverse (take n literals), length-take n literals, few) in
    few-parity true (reverse (take n literals)) size

-- all literals, with nothing behind them
pub whole_clauses : {old new : Blocks} {s : ℕ} (literals clause : List Literal) → length clause ≤ length literals
    → ArePut old new (map (λ k. k ++ drop (length literals) clause)
    (first_parity_clauses true literals (length literals))) s
    → clauses_of new ≡ clauses_of old ++ xor_clauses literals
whole_clauses literals clause le put =
    let none : drop (length literals) clause ≡ [] = drop_all (length literals) clause le in
    let all : take (length literals) literals ≡ literals = take_all (length literals) literals (omega arith) in
    let clauses = rw (none, nothing_behind, all) at put.clauses in clauses

pub length-take_few : (n : ℕ) (xs : List Literal) → length (take n xs) ≤ n
length-take_few n xs = omega (arith, length-take n xs)
