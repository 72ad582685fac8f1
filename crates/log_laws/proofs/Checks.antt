-- What tests and tables show of a given log.
use Rattle.std.proofs.Common.{◌≡◌, ℕ, zero, suc, ◌+◌, ◌≤◌, ◌==◌, Bool, true, false, true≢false, cond, ◌||◌, ◌&&◌, List, [], ◌∷◌, ◌++◌, map, Option, None, Some, IsSome, refl, sym, ap, subst, arith, nat_le}
use Rattle.std.specs.List.{All, Contains, list_any, list_all, IsDistinct}
use Rattle.std.specs.Option.{option_and_then}
use Rattle.std.proofs.lemmas.Bool.{and_parts, or_cases, leb-true, eqb-true}
use Rattle.std.proofs.lemmas.Bool.Decides.{Decides-eqb}
use Rattle.std.proofs.lemmas.List.Elements.{All-from_recursion, All-contains}
use Rattle.std.proofs.lemmas.Map.Made.{AllPairs-from_IsDistinct}
use Rattle.std.proofs.lemmas.Map.Views.{Contains-from_any}
use Rattle.list_laws.proofs.Folds.{all_passing}
use Rattle.dq_lits.specs.Formula.{Existential, IsWellFormed}
use Rattle.dq_lits.specs.Literal.{Literal, negative, variable_of, opposite, same_literal}
use Rattle.dq_lits.specs.Derivation.{holds, stuck, status_of}
use Rattle.dq_lits.proofs.Truth.{same_literal-sound}
use Rattle.hint_log.specs.Entries.{Entry, Named, Given, has_id, last_id, numbered, clause_of, clause_at, name_of}
use Rattle.hint_log.specs.declared.names.Name.{Name}
use Rattle.hint_log.specs.declared.names.Name.TheVariants.{Input}
use Rattle.hint_log.specs.declared.origins.Origin.{Origin}
use Rattle.hint_log.specs.Conditions.{IsId, AreIds, AreNamed}
use Rattle.hint_log.specs.Deciding.{ReachesGiven, HoldsSelectors, ReadsInput, itself, left, right}
use Rattle.hint_log.specs.Growth.{Each}
use Rattle.hint_log.specs.ProductiveLog.{IsClosed}
use Rattle.log_laws.proofs.Found.{split_at, each_at}

abbrev pub is_some : Option Name → Bool
is_some (Some _) = true
is_some None = false

some_is : (o : Option Name) → is_some o ≡ true → IsSome o
some_is (Some _) h = refl
some_is None h = cc

pub named_by : (entries : List Entry) (literals : List Literal) →
    list_all (λ l. is_some (name_of entries (variable_of l))) literals ≡ true → AreNamed entries literals
named_by entries = all_passing (λ l. is_some (name_of entries (variable_of l)))
    (λ l. IsSome (name_of entries (variable_of l))) (λ l h. some_is (name_of entries (variable_of l)) h)

abbrev pub is_id : List Entry → ℕ → Bool
is_id entries id = nat_le 1 id && nat_le id (last_id entries)

pub ids_by : (entries : List Entry) (ids : List ℕ) → list_all (is_id entries) ids ≡ true → AreIds entries ids
ids_by entries ids h id inside =
    All-contains (IsId entries) ids id
    (all_passing (is_id entries) (IsId entries) (λ i test. let parts =
    and_parts (nat_le 1 i) (nat_le i (last_id entries)) test in
    record { from_one = leb-true 1 i parts.0; last = leb-true i (last_id entries) parts.1 }) ids h) inside

-- no entry gives this name
pub no_name : (name : Name) (entries : List Entry) → Each (λ earlier e. (w : ℕ) → e ≡ Named w name → ⊥) entries →
    (v : ℕ) → name_of entries v ≡ Some name → ⊥
no_name name [] h v is = cc
no_name name (Named w n ∷ es) h v is = by_bit (v == w) (no_name name es h.1 v) is where
  by_bit : (b : Bool) → (name_of es v ≡ Some name → ⊥) → cond b (Some n) (name_of es v) ≡ Some name → ⊥
  by_bit true later is = let same : n ≡ name = cc in h.0 w (ap (Named w) same)
  by_bit false later is = later is
no_name name (_ ∷ es) h v is = no_name name es h.1 v is

-- each entry's clause is stuck
pub closed_by : (trues : List Literal) (entries : List Entry) →
    Each (λ earlier e. status_of trues (clause_of e) ≡ stuck) entries → IsClosed (clause_at entries) trues
closed_by trues [] h id = refl
closed_by trues (e ∷ es) h id = by_bit (has_id e && (id == last_id es + 1)) (closed_by trues es h.1 id) where
  by_bit : (b : Bool) → status_of trues (clause_at es id) ≡ stuck →
      status_of trues (option_and_then clause_of (cond b (Some e) (numbered has_id es id))) ≡ stuck
  by_bit true later = h.0
  by_bit false later = later

-- all literals but one are false
pub rest_by : (trues : List Literal) (literal : Literal) (clause : List Literal) →
    list_all (λ x. same_literal x literal || holds trues (opposite x)) clause ≡ true →
    (l : Literal) → holds clause l ≡ true → same_literal l literal ≡ false → holds trues (opposite l) ≡ true
rest_by trues literal [] h l inside other = cc
rest_by trues literal (x ∷ xs) h l inside other =
    search (arith, and_parts, or_cases, same_literal-sound, true≢false, (rest_by trues literal xs))

-- no entry is a given clause of this origin
pub no_given : (origin : Origin) (entries : List Entry) → Each
    (λ earlier e. (c : List Literal) → e ≡ Given origin c → ⊥) entries → (c : List Literal) →
    Contains entries (Given origin c) → ⊥
no_given origin [] h c (k, below, is) = absurd (omega arith)
no_given origin (e ∷ es) h c (zero, below, is) = h.0 c is
no_given origin (e ∷ es) h c (suc k, below, is) = search (arith, (no_given origin es h.1 c))

-- a fact of each entry is one of a given clause that is reached
pub reached_has : (P : Entry → Type 0) (entries : List Entry) (hints : List ℕ) (origin : Origin) (c : List Literal) →
    Each (λ earlier e. P e) entries → ReachesGiven entries hints origin c → P (Given origin c)
reached_has P entries hints origin c h reached =
    let place = split_at entries reached.id (Given origin c) reached.is_given in
    each_at (λ earlier e. P e) place.0 place.1 (Given origin c) (subst (Each (λ earlier e. P e)) place.2 h)

-- a clause with a group's negated selector keeps the selectors, where no other group has clauses
pub holds_group : (entries : List Entry) (clause : List Literal) (hints : List ℕ) (group : ℕ) →
    holds clause (negative group) ≡ true →
    Each (λ before e. (origin : Origin) (g : ℕ) (rest : List Literal) → e ≡ Given origin (negative g ∷ rest) →
    group ≡ g) entries → HoldsSelectors entries clause hints
holds_group entries clause hints group inside one origin g rest reached =
    subst (λ v. holds clause (negative v) ≡ true)
    (reached_has (λ e. (o : Origin) (v : ℕ) (r : List Literal) → e ≡ Given o (negative v ∷ r) → group ≡ v) entries hints
    origin (negative g ∷ rest) one reached origin g rest refl) inside

-- formulas whose variables are these three
distinct : IsDistinct (λ x y. x == y) (1 ∷ 2 ∷ 3 ∷ [])
unfolding IsDistinct
distinct = ((refl, (refl, tt)), ((refl, tt), (tt, tt)))

in_range : All (λ v. (1 ≤ v) × (v ≤ 3)) (1 ∷ 2 ∷ 3 ∷ [])
in_range = All-from_recursion (λ v. (1 ≤ v) × (v ≤ 3)) (1 ∷ 2 ∷ 3 ∷ [])
    ((omega arith, omega arith), ((omega arith, omega arith), ((omega arith, omega arith), tt)))

abbrev pub is_among : List ℕ → ℕ → Bool
is_among xs v = list_any (λ x. v == x) xs

pub among_by : (xs ys : List ℕ) → list_all (is_among xs) ys ≡ true → All (Contains xs) ys
among_by xs = all_passing (is_among xs) (Contains xs) (λ v. Contains-from_any eqb-true v xs)

abbrev pub is_bound : List Literal → Bool
is_bound clause = list_all (λ l. is_among (1 ∷ 2 ∷ 3 ∷ []) (variable_of l)) clause

pub well_formed_by : (universals : List ℕ) (existentials : List Existential) (matrix : List (List Literal)) →
    universals ++ map (λ y. y.variable) existentials ≡ 1 ∷ 2 ∷ 3 ∷ [] →
    list_all (λ y. list_all (is_among universals) y.sees) existentials ≡ true → list_all is_bound matrix ≡ true →
    IsWellFormed (record { variables = 3; universals = universals; existentials = existentials; matrix = matrix })
well_formed_by universals existentials matrix are sees bound = record {
  prefix = record {
    in_range = subst (All (λ v. (1 ≤ v) × (v ≤ 3))) (sym are) in_range;
    declared_once = search (arith, AllPairs-from_IsDistinct, Decides-eqb);
    sees_universals = all_passing (λ y. list_all (is_among universals) y.sees) (λ y. All (Contains universals) y.sees)
        (λ y h. among_by universals y.sees h) existentials sees;
  };
  bound = all_passing is_bound (All (λ l. Contains (universals ++ map (λ y. y.variable) existentials) (variable_of l)))
      (λ clause h. subst (λ xs. All (λ l. Contains xs (variable_of l)) clause) (sym are)
      (all_passing (λ l. is_among (1 ∷ 2 ∷ 3 ∷ []) (variable_of l)) (λ l. Contains (1 ∷ 2 ∷ 3 ∷ []) (variable_of l))
      (λ l. Contains-from_any eqb-true (variable_of l) (1 ∷ 2 ∷ 3 ∷ [])) clause h))
      matrix bound;
}

-- a fact of each entry is one of an entry of the log
pub contained_has : (P : Entry → Type 0) (entries : List Entry) (e : Entry) → Each (λ before x. P x) entries →
    Contains entries e → P e
contained_has P [] e h (k, below, is) = absurd (omega arith)
contained_has P (x ∷ es) e h (zero, below, is) = subst P is h.0
contained_has P (x ∷ es) e h (suc k, below, is) = search (arith, (contained_has P es e h.1))

-- a fact of each name
pub named_has : (P : Name → Type 0) (entries : List Entry) →
    Each (λ before e. (w : ℕ) (n : Name) → e ≡ Named w n → P n) entries → (v : ℕ) (n : Name) →
    name_of entries v ≡ Some n → P n
named_has P [] h v n is = cc
named_has P (Named w m ∷ es) h v n is = by_bit (v == w) (named_has P es h.1 v n) is where
  by_bit : (b : Bool) → (name_of es v ≡ Some n → P n) → cond b (Some m) (name_of es v) ≡ Some n → P n
  by_bit true later is = let same : m ≡ n = cc in h.0 w n (ap (Named w) same)
  by_bit false later is = later is
named_has P (_ ∷ es) h v n is = named_has P es h.1 v n is

-- what is read is named an input
pub read_is_named : (entries : List Entry) (l : Literal) (x : ℕ) → ReadsInput entries l x →
    (v : ℕ) × (name_of entries v ≡ Some (Input x))
read_is_named entries _ _ (itself l x is) = (variable_of l, is)
read_is_named entries _ _ (left l a b x is reads) = read_is_named entries a x reads
read_is_named entries _ _ (right l a b x is reads) = read_is_named entries b x reads
