-- Values that make the clauses of a turn true falsify a clause of the matrix.
use Rattle.std.proofs.Common.{◌≡◌, ℕ, suc, ◌+◌, ◌<◌, Bool, true, false, not, cond, ◌||◌, ◌&&◌, inl, inr, List, [], ◌∷◌, length, map, get_or, slice_get, Some, None, refl, sym, ◌∙◌, ap, subst, arith}
use Rattle.std.specs.List.{Contains}
use Rattle.std.proofs.lemmas.Bool.{false≢true}
use Rattle.std.proofs.lemmas.List.Elements.{All-contains, Contains-append_right}
use Rattle.list_laws.proofs.Truths.{gate_bit}
use Rattle.list_laws.proofs.Elements.{place_within}
use Rattle.list_laws.proofs.Members.{contains_map}
use Rattle.dq_lits.proofs.SignedLiterals.{as_positive}
use Rattle.dq_lits.specs.Literal.{Assignment, Literal, positive, negative, variable_of, is_negative, opposite, literal_true, clause_true}
use Rattle.dq_lits.specs.Formula.{Dqbf}
use Rattle.dq_lits.specs.Derivation.{LiveClauses, MakesTrue}
use Rattle.dq_lits.proofs.Truth.{literal_true-opposite}
use Rattle.hint_log.specs.Entries.{Entry, Given, ProofLog, name_of, clause_at}
use Rattle.hint_log.specs.declared.names.Name.TheVariants.{And}
use Rattle.hint_log.specs.declared.origins.Leaf.{Leaf}
use Rattle.hint_log.specs.declared.origins.Leaf.TheVariants.{Constant, Literal as LeafLiteral}
use Rattle.hint_log.specs.declared.origins.Origin.{Origin}
use Rattle.hint_log.specs.declared.origins.Origin.TheVariants.{Gate, Fault}
use Rattle.hint_log.specs.Growth.{Grew}
use Rattle.hint_log.specs.Origins.{leaf_with_sign, leaf_clause}
use Rattle.log_laws.specs.Circuits.{leaf_value}
use Rattle.log_laws.proofs.Kept.{given_id}
use Rattle.oracle.specs.Calls.{IsModelUnder, IsLearnedEntry}
use Rattle.oracle.specs.declared.groups.Group.{Group}
use Rattle.circuit_cnf.specs.declared.gates.Gates.{Gates}
use Rattle.circuit_cnf.specs.Faults.{AreGiven, HasFault, IsFaulted}
use Rattle.circuit_cnf.specs.Gates.{HasClauses, AreKnown, groups_of}
use Rattle.circuit_cnf.specs.Turning.{NamesAreKept, AreFailing}

-- the selectors that were assumed are true
pub switched_on : (values : Assignment) (live : LiveClauses) (gs : List Group) →
    IsModelUnder values live (map (λ g. g.selector) gs) → (g : Group) → Contains gs g →
    is_negative g.selector ≡ false → values (variable_of g.selector) ≡ true
switched_on values live gs m g inside plain =
    let true_there : literal_true values g.selector ≡ true =
    All-contains (λ l. literal_true values l ≡ true) (map (λ h. h.selector) gs) g.selector m.assumptions_true
    (contains_map (λ (h : Group). h.selector) gs g inside) in
    sym (ap (literal_true values) (as_positive g.selector plain)) ∙ true_there

-- a group's clause is true by its rest where the group is on
rest_true : (values : Assignment) (group : ℕ) (rest : List Literal) → values group ≡ true →
    clause_true values (negative group ∷ rest) ≡ true → clause_true values rest ≡ true
rest_true values group rest on is = ap (λ b. not b || clause_true values rest) (sym on) ∙ is

-- a true clause has a true literal
true_literal : (values : Assignment) (ls : List Literal) (d : Literal) → clause_true values ls ≡ true →
    (k : ℕ) × (k < length ls) × (literal_true values (get_or ls k d) ≡ true)
true_literal values [] d h = absurd (false≢true h)
true_literal values (l ∷ ls) d h = by (literal_true values l) refl h (true_literal values ls d) where
  by : (b : Bool) → literal_true values l ≡ b → (b || clause_true values ls) ≡ true →
      (clause_true values ls ≡ true → (k : ℕ) × (k < length ls) × (literal_true values (get_or ls k d) ≡ true)) →
      (k : ℕ) × (k < suc (length ls)) × (literal_true values (get_or (l ∷ ls) k d) ≡ true)
  by true is h later = (0, omega arith, is)
  by false is h later = let r = later h in let below = r.1 in (suc r.0, omega (arith, below), r.2)

all_false : (values : Assignment) (ls : List Literal) → ((i : ℕ) (l : Literal) → slice_get ls i ≡ Some l →
    literal_true values l ≡ false) → clause_true values ls ≡ false
all_false values [] each = refl
all_false values (l ∷ ls) each = ap (λ b. b || clause_true values ls) (each 0 l refl) ∙ all_false values ls
    (λ i k at. each (suc i) k at)

-- a literal, by its variable's leaf
signed_leaf_value : (values : Assignment) (s : Bool) (leaf : Leaf) →
    leaf_value values (leaf_with_sign s leaf) ≡ cond s (not (leaf_value values leaf)) (leaf_value values leaf)
signed_leaf_value values false leaf = refl
signed_leaf_value values true (Constant b) = refl
signed_leaf_value values true (LeafLiteral l) = literal_true-opposite values l

under_leaf : (values : Assignment) (leaf : ℕ → Leaf) (l : Literal) →
    literal_true (λ v. leaf_value values (leaf v)) l ≡ not (leaf_value values
    (leaf_with_sign (not (is_negative l)) (leaf (variable_of l))))
under_leaf values leaf (positive v) = search (arith, signed_leaf_value)
under_leaf values leaf (negative v) = refl

-- a leaf whose clause is true is true
leaf_true : (values : Assignment) (leaf : Leaf) (tail : List Literal) → leaf_clause leaf ≡ Some tail →
    clause_true values tail ≡ true → leaf_value values leaf ≡ true
leaf_true values (Constant true) tail is h = refl
leaf_true values (Constant false) tail is h = search (arith, false≢true)
leaf_true values (LeafLiteral l) tail is h = search (arith, false≢true)

leaf_constant : (values : Assignment) (leaf : Leaf) → leaf_clause leaf ≡ None → leaf_value values leaf ≡ true
leaf_constant values (Constant true) h = refl
leaf_constant values (Constant false) h = cc
leaf_constant values (LeafLiteral l) h = cc

pub are_failing : (f : Dqbf) (gates : Gates) (leaf : ℕ → Leaf) (sel : ℕ) (values : Assignment) (old : List Entry)
    (log new : ProofLog) → Grew IsLearnedEntry log new → MakesTrue values (clause_at new.entries) →
    ((g : Group) → Contains (groups_of gates) g → values (variable_of g.selector) ≡ true) → values sel ≡ true →
    AreKnown gates log.entries → gates.unfinished ≡ None → NamesAreKept old log.entries → AreGiven f sel leaf log.entries →
    AreFailing f leaf old values
are_failing f gates leaf sel values old log new learned model gates_on sel_on known ready names given = record {
  gates = λ v a b is. gate v a b (names v (And a b) is);
  j = j;
  among = among;
  is_false = by (given.all j among refl);
} where
  true_there : (o : Origin) (c : List Literal) → Contains log.entries (Given o c) → clause_true values c ≡ true
  true_there o c inside =
      let there = subst (λ es. Contains es (Given o c)) (sym learned.grown)
      (Contains-append_right learned.more log.entries (Given o c) inside) in
      let at = given_id new.entries o c there in
      model at.0 c at.1

  gate : (v : ℕ) (a b : Literal) → name_of log.entries v ≡ Some (And a b) →
      values v ≡ (literal_true values a && literal_true values b)
  gate v a b is = elim (known.known a b v is) [
    | inl found ↦ by_clauses (known.clauses a b v found)
    | inr last ↦ (let clash : None ≡ Some last.0 = sym ready ∙ last.1 in cc)
  ] where
    by_clauses : HasClauses log.entries (groups_of gates) v a b →
        values v ≡ (literal_true values a && literal_true values b)
    by_clauses (group, among, have) =
        let g = variable_of group.selector in
        let on = gates_on group among in
        let one = rest_true values g (negative v ∷ a ∷ []) on
        (true_there (Gate v 1) (negative g ∷ negative v ∷ a ∷ [])
        (have 1 (negative v ∷ a ∷ []) (omega arith) refl)) in
        let two = rest_true values g (negative v ∷ b ∷ []) on
        (true_there (Gate v 2) (negative g ∷ negative v ∷ b ∷ [])
        (have 2 (negative v ∷ b ∷ []) (omega arith) refl)) in
        let three : (values v || (literal_true values (opposite a) || (literal_true values (opposite b) || false)))
        ≡ true = rest_true values g (positive v ∷ opposite a ∷ opposite b ∷ []) on
        (true_there (Gate v 3) (negative g ∷ positive v ∷ opposite a ∷ opposite b ∷ [])
        (have 3 (positive v ∷ opposite a ∷ opposite b ∷ []) (omega arith) refl)) in
        gate_bit (values v) (literal_true values a) (literal_true values b) one two
        (ap (λ x. values v || (x || (not (literal_true values b) || false))) (sym (literal_true-opposite values a))
        ∙ ap (λ x. values v || (literal_true values (opposite a) || (x || false))) (sym (literal_true-opposite values b))
        ∙ three)

  some : (k : ℕ) × (k < length given.bads) × (literal_true values (get_or given.bads k (positive 0)) ≡ true)
  some = true_literal values given.bads (positive 0) (rest_true values sel given.bads sel_on
      (true_there (Fault 0 0 (Constant false)) (negative sel ∷ given.bads) given.some))

  j : ℕ
  j = some.0

  among : some.0 < length f.matrix
  among = let below = some.1 in let count = given.count in omega (arith, below, count)

  bad : Literal
  bad = get_or given.bads some.0 (positive 0)

  bad_true : values (variable_of (get_or given.bads some.0 (positive 0))) ≡ true
  bad_true = search arith

  one_false : (i : ℕ) (l : Literal) → slice_get (get_or f.matrix some.0 []) i ≡ Some l →
      HasFault sel (variable_of bad) (some.0 + 1) (i + 1) l (leaf (variable_of l)) log.entries →
      literal_true (λ v. leaf_value values (leaf v)) l ≡ false
  one_false i l at (inl none) = search (arith, under_leaf, leaf_constant)
  one_false i l at (inr tail) =
      let c = negative sel ∷ negative (variable_of bad) ∷ tail.0 in
      let whole = rest_true values sel (negative (variable_of bad) ∷ tail.0) sel_on
      (true_there (Fault (some.0 + 1) (i + 1) (leaf (variable_of l))) c tail.2) in
      let rest = rest_true values (variable_of bad) tail.0 bad_true whole in
      under_leaf values leaf l ∙ ap not (leaf_true values (leaf_with_sign (not (is_negative l)) (leaf (variable_of l)))
      tail.0 tail.1 rest)

  -- the clause's variable is true, so that it isn't said to be false
  by : IsFaulted f sel (variable_of bad) (some.0 + 1) leaf (get_or f.matrix some.0 []) log.entries →
      clause_true (λ v. leaf_value values (leaf v)) (get_or f.matrix some.0 []) ≡ false
  by (inl have) = all_false (λ v. leaf_value values (leaf v)) (get_or f.matrix some.0 []) (λ i l at. one_false i l at
      (have i l (place_within (get_or f.matrix some.0 []) i l at) at))
  by (inr never) =
      let whole = rest_true values sel (negative (variable_of bad) ∷ []) sel_on
      (true_there never.0 (negative sel ∷ negative (variable_of bad) ∷ []) never.1) in
      absurd (false≢true (rest_true values (variable_of bad) [] bad_true whole))
