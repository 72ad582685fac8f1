-- The clauses of a negated matrix by their ids.
use Rattle.std.proofs.Common.{◌≡◌, ℕ, zero, suc, ◌+◌, ◌*◌, ◌<◌, ◌≤◌, ◌==◌, Bool, false, not, cond, ◌||◌, List, [], ◌∷◌, ◌++◌, map, take, length, Option, Some, None, slice_get, refl, ◌∙◌, ap, subst, arith, length-append}
use Rattle.std.specs.List.{All, AllByRecursion, flat_map, filter, sum_by}
use Rattle.std.specs.Option.{option_and_then}
use Rattle.std.proofs.lemmas.Bool.{ne_eqb, eq-eqb, eqb-true, cases_eq}
use Rattle.std.proofs.lemmas.List.{length-map}
use Rattle.std.proofs.lemmas.Option.{slice_get_past, same_Some}
use Rattle.list_laws.proofs.Elements.{place_within, mapped_at, get-append_left, get-append_right}
use Rattle.list_laws.proofs.Sequences.{sum-none, sum-taken}
use Rattle.dq_lits.specs.Literal.{Literal, negative, variable_of}
use Rattle.dq_lits.specs.Formula.{Dqbf}
use Rattle.circuit_plain.specs.Netlist.{Netlist, IsNetlist, IsGate}
use Rattle.circuit_plain.specs.declared.circuits.Gate.{Gate}
use Rattle.cert_text.specs.NegatedMatrix.{opposite_of, gate_clauses, literal_under, falsity_clauses, all_falsity_clauses, some_clause_false, as_literal, without_constants, negated_matrix}
use Rattle.cert_text.proofs.NegatedClauses.{falsity_counted, gates_counted}
use Rattle.lifted_proofs.specs.Liftables.{falsity}
use Rattle.cert_text.proofs.CircuitLiterals.{opposite_even, as_odd}

append-right : {X : Type 0} (xs ys : List X) (i k : ℕ) → k ≡ length xs + i → slice_get (xs ++ ys) k ≡ slice_get ys i
append-right xs ys i k is = ap (slice_get (xs ++ ys)) is ∙ get-append_right xs ys i

falsity-length : (lit : ℕ → ℕ) (bad : ℕ) (c : List Literal) → length (falsity_clauses lit bad c) ≡ length c
falsity-length lit bad c = length-map c (λ x. opposite_of (2 * bad) ∷ opposite_of (literal_under lit x) ∷ [])

in-clauses : (lit : ℕ → ℕ) (bad : ℕ) (clauses : List (List Literal)) (p q k : ℕ) (clause : List Literal) (l : Literal)
    → slice_get clauses p ≡ Some clause → slice_get clause q ≡ Some l
    → k ≡ sum_by length (take p clauses) + q
    → slice_get (all_falsity_clauses lit bad clauses) k ≡ Some (falsity lit (bad + p) l)
in-clauses lit bad [] p q k clause l there at is = cc
in-clauses lit bad (c ∷ cs) zero q k clause l there at is =
    search (arith, sum-none, get-append_left, place_within, falsity-length, mapped_at)
in-clauses lit bad (c ∷ cs) (suc p) q k clause l there at is =
    let rest : ℕ = sum_by length (take p cs) + q in
    append-right (falsity_clauses lit bad c) (all_falsity_clauses lit (bad + 1) cs) rest k
    (omega (arith, is, falsity-length lit bad c, sum-taken c cs p))
    ∙ in-clauses lit (bad + 1) cs p q rest clause l there at refl
    ∙ ap (λ b. Some (falsity lit b l)) (omega arith)

module _ (f : Dqbf) (net : Netlist) (lit : ℕ → ℕ) where
  abbrev gate_part : List (List ℕ)
  gate_part = flat_map gate_clauses net.gates

  abbrev falsity_part : List (List ℕ)
  falsity_part = all_falsity_clauses lit (net.max_var + 1) f.matrix

  abbrev last_part : List (List ℕ)
  last_part = some_clause_false net f.matrix ∷ []

  by-id : (id i : ℕ) (o : Option (List ℕ)) → id ≡ suc i → slice_get (gate_part ++ (falsity_part ++ last_part)) i ≡ o
      → negated_matrix f net lit id ≡ option_and_then without_constants o
  by-id id i o is at = ap (negated_matrix f net lit) is ∙ ap (option_and_then without_constants) at

  -- the clauses of gates come first
  pub in-gates : (id i : ℕ) → id ≡ suc i → i < 3 * length net.gates
      → negated_matrix f net lit id ≡ option_and_then without_constants (slice_get (flat_map gate_clauses net.gates) i)
  in-gates id i is below =
      by-id id i (slice_get gate_part i) is
      (get-append_left gate_part (falsity_part ++ last_part) i (omega (arith, below, gates_counted net.gates)))

  -- then those of the literals
  pub in-falsity : (id k : ℕ) (o : Option (List ℕ)) → id ≡ 3 * length net.gates + k + 1 → k < sum_by length f.matrix
      → slice_get (all_falsity_clauses lit (net.max_var + 1) f.matrix) k ≡ o
      → negated_matrix f net lit id ≡ option_and_then without_constants o
  in-falsity id k o is below at =
      by-id id (3 * length net.gates + k) o (omega (arith, is))
      (append-right gate_part (falsity_part ++ last_part) k (3 * length net.gates + k)
      (omega (arith, gates_counted net.gates))
      ∙ get-append_left falsity_part last_part k
      (omega (arith, below, falsity_counted lit (net.max_var + 1) f.matrix)) ∙ at)

  -- and last that some clause is false
  pub in-last : (id : ℕ) → id ≡ 3 * length net.gates + sum_by length f.matrix + 1
      → negated_matrix f net lit id ≡ without_constants (some_clause_false net f.matrix)
  in-last id is =
      let many = sum_by length f.matrix in
      by-id id (3 * length net.gates + many) (Some (some_clause_false net f.matrix)) (omega (arith, is))
      (append-right gate_part (falsity_part ++ last_part) many (3 * length net.gates + many)
      (omega (arith, gates_counted net.gates))
      ∙ append-right falsity_part last_part 0 many (omega (arith, falsity_counted lit (net.max_var + 1) f.matrix)))

  pub behind-all : (id : ℕ) → 3 * length net.gates + sum_by length f.matrix + 1 < id → negated_matrix f net lit id ≡ None
  behind-all zero behind = refl
  behind-all (suc i) behind =
      by-id (suc i) i None refl
      (slice_get_past (gate_part ++ (falsity_part ++ last_part)) i
      (omega (arith, behind, falsity_counted lit (net.max_var + 1) f.matrix, length-append falsity_part last_part, length-append gate_part (falsity_part ++ last_part), gates_counted net.gates)))

-- the clause of a literal at its place
pub at-literal : (f : Dqbf) (net : Netlist) (lit : ℕ → ℕ) (p q id : ℕ) (clause : List Literal) (l : Literal)
    → slice_get f.matrix p ≡ Some clause → slice_get clause q ≡ Some l
    → id ≡ 3 * length net.gates + (sum_by length (take p f.matrix) + q) + 1
    → sum_by length (take p f.matrix) + q < sum_by length f.matrix
    → negated_matrix f net lit id ≡ without_constants (falsity lit (net.max_var + 1 + p) l)
at-literal f net lit p q id clause l there at is below =
    in-falsity f net lit id (sum_by length (take p f.matrix) + q) (Some (falsity lit (net.max_var + 1 + p) l)) is below
    (in-clauses lit (net.max_var + 1) f.matrix p q (sum_by length (take p f.matrix) + q) clause l there at refl)

-- ---- constants

-- where the clause is false, its literal's own circuit literal is
pub data Stands : ℕ → Type 0 where
  is_false : {x : ℕ} → x ≡ 0 → Stands x
  is_true : {x : ℕ} → x ≡ 1 → Stands x
  is_free : {x : ℕ} → 2 ≤ x → Stands x

pub stands-by : (x : ℕ) → Stands x
stands-by zero = is_false refl
stands-by (suc zero) = is_true refl
stands-by (suc (suc x)) = is_free (omega arith)

opposite-free : (x : ℕ) → 2 ≤ x → 2 ≤ opposite_of x
opposite-free x free = search (arith, eqb-true)

two-kept : (a b : ℕ) (p q r s : Bool) → (a == 1) ≡ p → (b == 1) ≡ q → (a == 0) ≡ r → (b == 0) ≡ s
    → without_constants (a ∷ b ∷ [])
    ≡ cond (p || (q || false)) None
    (Some (map as_literal (cond (not r) (a ∷ cond (not s) (b ∷ []) []) (cond (not s) (b ∷ []) []))))
two-kept a b p q r s e1 e2 e3 e4 = rw (e1, e2, e3, e4)

module _ (bad x : ℕ) (some : 1 ≤ bad) where
  first-free : (opposite_of (2 * bad) == 1) ≡ false
  first-free = ne_eqb (opposite_of (2 * bad)) 1 (λ e. absurd (omega (arith, e, opposite_even bad, some)))

  first-kept : (opposite_of (2 * bad) == 0) ≡ false
  first-kept = ne_eqb (opposite_of (2 * bad)) 0 (λ e. absurd (omega (arith, e, opposite_even bad)))

  first-is : as_literal (opposite_of (2 * bad)) ≡ negative bad
  first-is = ap as_literal (opposite_even bad) ∙ as_odd bad

  pub falsity-false : x ≡ 0 → without_constants (opposite_of (2 * bad) ∷ opposite_of x ∷ []) ≡ None
  falsity-false is = search (arith, two-kept, first-free, first-kept)

  pub falsity-true : x ≡ 1
      → without_constants (opposite_of (2 * bad) ∷ opposite_of x ∷ []) ≡ Some (negative bad ∷ [])
  falsity-true is = search (arith, two-kept, first-free, first-kept, first-is)

  pub falsity-free : 2 ≤ x
      → without_constants (opposite_of (2 * bad) ∷ opposite_of x ∷ [])
      ≡ Some (negative bad ∷ as_literal (opposite_of x) ∷ [])
  falsity-free free = search (arith, opposite-free, two-kept, first-free, ne_eqb, first-kept, first-is)

-- ---- variables

pub free-variable : (x : ℕ) → 2 ≤ x → 1 ≤ variable_of (as_literal (opposite_of x))
free-variable x free = search (arith, opposite-free)

pub literal-fits : (x max : ℕ) → x ≤ 2 * max + 1 → variable_of (as_literal x) ≤ max
literal-fits x max less = search arith

pub opposite-fits : (x max : ℕ) → x ≤ 2 * max + 1 → opposite_of x ≤ 2 * max + 1
opposite-fits x max less = search (arith, cases_eq, eq-eqb)

-- no literal of these is above
abbrev AreWithin : ℕ → List ℕ → Type 0
AreWithin max xs = AllByRecursion (λ x. x ≤ 2 * max + 1) xs

abbrev pub AreOn : ℕ → List Literal → Type 0
AreOn max ls = AllByRecursion (λ l. variable_of l ≤ max) ls

kept-fits : (max : ℕ) (xs : List ℕ) → AreWithin max xs
    → AreOn max (map as_literal (filter (λ l. not (l == 0)) xs))
kept-fits max [] all = tt
kept-fits max (x ∷ xs) all = search (arith, (kept-fits max xs all.1), literal-fits)

constants-fit : (max : ℕ) (xs : List ℕ) (clause : List Literal) → AreWithin max xs → without_constants xs ≡ Some clause
    → AreOn max clause
constants-fit max xs clause all is = search (arith, kept-fits)

gate-fits : (max : ℕ) (gates : List Gate) (i : ℕ) (xs : List ℕ) → All (IsGate max) gates
    → slice_get (flat_map gate_clauses gates) i ≡ Some xs → AreWithin max xs
gate-fits max [] i xs all at = cc
gate-fits max (g ∷ gs) i xs all at =
    by (λ k. gate-fits max gs k xs (λ j d below. all (suc j) d (omega (arith, below)))) i at
  where
    fits : IsGate max g
    fits = all 0 g (omega arith)

    own : 2 * g.variable ≤ 2 * max + 1
    own = omega (arith, fits.variable.1)

    by : ((k : ℕ) → slice_get (flat_map gate_clauses gs) k ≡ Some xs → AreWithin max xs) → (i : ℕ)
        → slice_get (gate_clauses g ++ flat_map gate_clauses gs) i ≡ Some xs → AreWithin max xs
    by later zero h = subst (AreWithin max) (same_Some (opposite_of (2 * g.variable) ∷ g.left ∷ []) xs h)
        (opposite-fits (2 * g.variable) max own, (fits.left, tt))
    by later (suc zero) h = subst (AreWithin max) (same_Some (opposite_of (2 * g.variable) ∷ g.right ∷ []) xs h)
        (opposite-fits (2 * g.variable) max own, (fits.right, tt))
    by later (suc (suc zero)) h =
        subst (AreWithin max) (same_Some (2 * g.variable ∷ opposite_of g.left ∷ opposite_of g.right ∷ []) xs h)
        (own, (opposite-fits g.left max fits.left, (opposite-fits g.right max fits.right, tt)))
    by later (suc (suc (suc k))) h = later k h

pub gate-clause-fits : (net : Netlist) (i : ℕ) (clause : List Literal) → IsNetlist net
    → option_and_then without_constants (slice_get (flat_map gate_clauses net.gates) i) ≡ Some clause
    → AreOn net.max_var clause
gate-clause-fits net i clause lawful is = by (slice_get (flat_map gate_clauses net.gates) i) refl is
  where
    by : (o : Option (List ℕ)) → slice_get (flat_map gate_clauses net.gates) i ≡ o
        → option_and_then without_constants o ≡ Some clause → AreOn net.max_var clause
    by None e h = cc
    by (Some xs) e h = constants-fit net.max_var xs clause (gate-fits net.max_var net.gates i xs lawful.gates_fit e) h
