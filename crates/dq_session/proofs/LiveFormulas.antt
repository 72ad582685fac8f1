-- The formula of now, clause by clause.
use Rattle.std.proofs.Common.{◌≡◌, ℕ, zero, suc, ◌+◌, ◌-◌, ◌≤◌, ◌<◌, ◌⊎◌, inl, inr, List, [], ◌∷◌, ◌++◌, map, take, length, slice_get, get_or, Option, Some, refl, sym, ◌∙◌, ap, arith}
use Rattle.std.specs.List.{All, Contains, filter_map, cons_option}
use Rattle.std.proofs.lemmas.List.{length-append}
use Rattle.std.proofs.lemmas.List.Elements.{All-contains}
use Rattle.std.proofs.lemmas.Option.{slice_get-get_or}
use Rattle.list_laws.proofs.Members.{element_at}
use Rattle.dq_lits.specs.Literal.{Literal, variable_of}
use Rattle.dq_lits.specs.Formula.{declared}
use Rattle.hint_log.specs.Entries.{Entry}
use Rattle.hint_log.specs.Naming.{numbered_from_one}
use Rattle.log_laws.proofs.Found.{numbered_among}
use Rattle.dq_session.specs.Databases.{DatabaseState, all_of, number_at, frame_at, IsOpen, IsDatabase}
use Rattle.dq_session.specs.declared.live.Live.{Live}
use Rattle.dq_session.proofs.LivePlaces.{number_above}
use Rattle.dq_session.proofs.Searches.{taken_more}

-- the clauses of the first so many live ones
abbrev pub first_clauses : DatabaseState → ℕ → List (List Literal)
first_clauses b i = filter_map (λ (l : Live). numbered_from_one (all_of b).matrix l.clause) (take i b.live)

numbered_there : (m : List (List Literal)) (j : ℕ) → 1 ≤ j → j ≤ length m →
    numbered_from_one m j ≡ Some (get_or m (j - 1) [])
numbered_there m zero low high = absurd (omega (arith, low))
numbered_there m (suc i) low high = search (arith, slice_get-get_or)

by_number : {Y : Type 0} (h : ℕ → Option Y) (xs : List Live) →
    filter_map (λ (l : Live). h l.clause) xs ≡ filter_map h (map (λ (l : Live). l.clause) xs)
by_number h [] = refl
by_number h (x ∷ xs) = ap (cons_option (h x.clause)) (by_number h xs)

few_pass : {X Y : Type 0} (h : X → Option Y) (xs : List X) (i : ℕ) → length (filter_map h (take i xs)) ≤ i
few_pass h xs zero = omega arith
few_pass h [] (suc i) = omega arith
few_pass {Y = Y} h (x ∷ xs) (suc i) = search (arith, (few_pass h xs i))

-- a live clause is one of those that were numbered
pub live_within : (b : DatabaseState) (es : List Entry) → IsDatabase b es → (i : ℕ) (l : Live) → slice_get b.live i ≡ Some l →
    (i < l.clause) × (l.clause ≤ length (all_of b).matrix)
live_within b es database i l is =
    let up = number_above b database.stack i l is in
    (omega (arith, up), by (database.stack.frames l (element_at b.live i l is)))
  where
    by : ((1 ≤ l.clause) × (l.clause ≤ length b.file.matrix) × (l.frame ≡ 0))
        ⊎ ((place : ℕ) × (l.clause ≡ number_at b place) × (place < length b.added)
        × (l.frame ≡ frame_at b place) × IsOpen b l.frame) → l.clause ≤ length (b.file.matrix ++ b.added)
    by (inl (low, high, frame)) = let long = length-append b.file.matrix b.added in omega (arith, high, long)
    by (inr (place, number, below, frame, is_open)) =
        let long = length-append b.file.matrix b.added in omega (arith, number, below, long)

pub one_more : (b : DatabaseState) (es : List Entry) → IsDatabase b es → (i : ℕ) (l : Live) → slice_get b.live i ≡ Some l
    → (lits : List Literal) → lits ≡ get_or (all_of b).matrix (l.clause - 1) []
    → first_clauses b (i + 1) ≡ first_clauses b i ++ lits ∷ []
one_more b es database i l is lits lits_are =
    let within = live_within b es database i l is in
    let low = within.0 in
    let m = (all_of b).matrix in
    taken_more (λ (x : Live). numbered_from_one m x.clause) b.live i l is
    ∙ ap (λ o. first_clauses b i ++ cons_option o [])
    (numbered_there m l.clause (omega (arith, low)) within.1 ∙ ap Some (sym lits_are))

pub few_so_far : (b : DatabaseState) (i : ℕ) → length (first_clauses b i) ≤ i
few_so_far b i = few_pass (λ (l : Live). numbered_from_one (all_of b).matrix l.clause) b.live i

pub all_clauses : (b : DatabaseState) → filter_map (λ (l : Live). numbered_from_one (all_of b).matrix l.clause) b.live
    ≡ filter_map (numbered_from_one (all_of b).matrix) (map (λ (l : Live). l.clause) b.live)
all_clauses b = by_number (numbered_from_one (all_of b).matrix) b.live

-- its literals are on declared variables
pub clause_bound : (b : DatabaseState) (es : List Entry) → IsDatabase b es → (i : ℕ) (l : Live) → slice_get b.live i ≡ Some l
    → (lits : List Literal) → lits ≡ get_or (all_of b).matrix (l.clause - 1) []
    → All (λ x. variable_of x ≤ b.file.variables) lits
clause_bound b es database i l is lits lits_are k d below =
    let within = live_within b es database i l is in
    let low = within.0 in
    let m = (all_of b).matrix in
    let there = numbered_there m l.clause (omega (arith, low)) within.1 ∙ ap Some (sym lits_are) in
    let bound = All-contains (All (λ x. Contains (declared b.file) (variable_of x))) m lits database.well_formed.bound
    (numbered_among m l.clause lits there) in
    (All-contains (λ v. (1 ≤ v) × (v ≤ b.file.variables)) (declared b.file) (variable_of (get_or lits k d))
    database.well_formed.prefix.in_range (bound k d below)).1
