-- An answer that rests on instances alone shows that they have no model.
use Rattle.std.proofs.Common.{◌≡◌, ℕ, ◌+◌, ◌-◌, ◌*◌, ◌==◌, Bool, true, false, cond, not, ◌||◌, List, [], ◌∷◌, ◌++◌, map, get_or, Option, None, Some, refl, sym, ◌∙◌, ap, subst, arith, append_assoc}
use Rattle.std.specs.List.{All, Contains, filter_map, cons_option, position_or_len}
use Rattle.std.specs.Option.{option_map, option_and_then}
use Rattle.std.proofs.lemmas.Bool.{false≢true}
use Rattle.std.proofs.lemmas.List.Elements.{All-contains, All-head, All-tail, Contains-push, Contains-append_left}
use Rattle.dq_lits.specs.Literal.{Assignment, Literal, negative, variable_of, is_negative, on_variable, literal_true, clause_true}
use Rattle.dq_lits.specs.Formula.{Existential, Dqbf, existential_of}
use Rattle.dq_lits.specs.Expansion.{row_assignment, agree_on, pair_number, pair_literal, instance_clause, InstanceHolds, IsExpansionModel, IsExpansionUnsatisfiable}
use Rattle.dq_lits.specs.Henkin.{restriction}
use Rattle.dq_lits.proofs.Choices.{same_bits-refl}
use Rattle.dq_lits.proofs.TrueClauses.{same_sign}
use Rattle.hint_log.specs.Entries.{name_of, row_at, numbered, is_round, row_of, count, Entry, Given, Round}
use Rattle.hint_log.specs.declared.names.Name.{Name}
use Rattle.hint_log.specs.declared.names.Name.TheVariants.{Selector, Pair, Input, And, Bad, Copy as CopyOf, Term}
use Rattle.hint_log.specs.declared.origins.Origin.{Origin}
use Rattle.hint_log.specs.declared.origins.Origin.TheVariants.{Instance}
use Rattle.hint_log.specs.Growth.{Each}
use Rattle.hint_log.specs.Naming.{numbered_from_one, named_literal, name_literal, rows_of, arbiter, on_arbiter}
use Rattle.hint_log.specs.Origins.{IsInstanceRest, IsOriginsClause}
use Rattle.hint_log.specs.Conditions.{MayFollow}
use Rattle.hint_log.specs.Live.{with_matrix}
use Rattle.hint_log.specs.Deciding.{ReachesGiven, IsInstance, AreNegatedSelectors}
use Rattle.log_laws.proofs.Implied.{LinesAreImplied}
use Rattle.log_laws.proofs.ReachedClauses.{name_stays, answer_true}
use Rattle.log_laws.specs.Meaning.{IsSoundAnswer, InstancesHaveNoModel}
use Rattle.log_laws.proofs.Found.{numbered_among, position_small, position_append, named_variable}

-- an instance of one of these clauses
abbrev pub IsInstanceAmong : Dqbf → List (List Literal) → Origin → Type 0
IsInstanceAmong f matrix (Instance k j) = (clause : List Literal) → numbered_from_one f.matrix j ≡ Some clause →
    Contains matrix clause
IsInstanceAmong f matrix _ = ⊥

-- selectors are true, and arbiters have their pairs' bits
abbrev pub value_by_name : ℕ → Assignment → Option Name → Bool
value_by_name vars m None = false
value_by_name vars m (Some (Selector g)) = true
value_by_name vars m (Some (Pair k y)) = m ((k - 1) * vars + y)
value_by_name vars m (Some (Input x)) = false
value_by_name vars m (Some (And a b)) = false
value_by_name vars m (Some (Bad g j)) = false
value_by_name vars m (Some (CopyOf side v)) = false
value_by_name vars m (Some (Term a b)) = false

pub rows_more : (more es : List Entry) → (later : List (List Bool)) × (rows_of (more ++ es) ≡ rows_of es ++ later)
rows_more [] es = ([], sym (append-nil' (rows_of es))) where
  append-nil' : (xs : List (List Bool)) → xs ++ [] ≡ xs
  append-nil' [] = refl
  append-nil' (x ∷ xs) = ap (λ ys. x ∷ ys) (append-nil' xs)
rows_more (Round row values j ∷ more) es = let r = rows_more more es in
    (r.0 ++ row ∷ [], ap (λ rows. rows ++ row ∷ []) r.1 ∙ append_assoc (rows_of es) r.0 (row ∷ []))
rows_more (_ ∷ more) es = rows_more more es

pub row_contained : (es : List Entry) (k : ℕ) (row : List Bool) → row_at es k ≡ Some row → Contains (rows_of es) row
row_contained [] k row h = cc
row_contained (Round r values j ∷ es) k row h = by_bit (row_contained es k row) (k == count is_round es + 1) h where
  by_bit : (row_at es k ≡ Some row → Contains (rows_of es) row) → (b : Bool) →
      option_and_then row_of (cond b (Some (Round r values j)) (numbered is_round es k)) ≡ Some row →
      Contains (rows_of es ++ r ∷ []) row
  by_bit before true h = let same : r ≡ row = cc in subst (λ x. Contains (rows_of es ++ x ∷ []) row) (sym same)
      (Contains-push (rows_of es) row)
  by_bit before false h = Contains-append_left (rows_of es) (r ∷ []) row (before h)
row_contained (_ ∷ es) k row h = row_contained es k row h

module _ (f : Dqbf) (all : List Entry) (lawful : Each MayFollow all) (m : Assignment) where
  abbrev value : Assignment
  value v = value_by_name f.variables m (name_of all v)

  module _ (es more : List Entry) (is : all ≡ more ++ es) (row : List Bool) (among : Contains (rows_of es) row) where
    stays : (v : ℕ) (n : Name) → name_of es v ≡ Some n → name_of all v ≡ Some n
    stays v n h = ap (λ xs. name_of xs v) is ∙ name_stays more es v n (subst (Each MayFollow) is lawful) h

    same_pair : (y : Existential) → position_or_len (agree_on f y row) (rows_of es) ≡ position_or_len (agree_on f y row)
        (rows_of all)
    same_pair y =
        let r = rows_more more es in
        let k = among.0 in
        let at : get_or (rows_of es) k row ≡ row = among.2 in
        let passes : agree_on f y row (get_or (rows_of es) k row) ≡ true =
        ap (agree_on f y row) at ∙ same_bits-refl (restriction y (row_assignment f row)) in
        let small = position_small (agree_on f y row) (rows_of es) k row among.1 passes in
        sym (ap (λ xs. position_or_len (agree_on f y row) (rows_of xs)) is ∙ ap (position_or_len (agree_on f y row)) r.1
        ∙ position_append (agree_on f y row) (rows_of es) r.0 small)

    by_names : (clause rest : List Literal) → map (name_literal es) rest ≡ map Some
        (filter_map (on_arbiter f (rows_of es) row) clause) →
        clause_true value rest ≡ clause_true m (filter_map (pair_literal f (rows_of all) row) clause)
    by_names [] [] h = refl
    by_names [] (r ∷ rest) h = cc
    by_names (l ∷ ls) rest h = by_option (by_names ls) (existential_of f (variable_of l)) rest h where
      by_option : ((rest : List Literal) → map (name_literal es) rest ≡ map Some
          (filter_map (on_arbiter f (rows_of es) row) ls) →
          clause_true value rest ≡ clause_true m (filter_map (pair_literal f (rows_of all) row) ls)) →
          (o : Option Existential) (rest : List Literal) →
          map (name_literal es) rest ≡ map Some (cons_option
          (option_map (λ y. named_literal (arbiter f (rows_of es) row y) (is_negative l)) o)
          (filter_map (on_arbiter f (rows_of es) row) ls)) →
          clause_true value rest ≡ clause_true m (cons_option
          (option_map (λ y. on_variable (pair_number f (rows_of all) row y) l) o)
          (filter_map (pair_literal f (rows_of all) row) ls))
      by_option later None rest h = later rest h
      by_option later (Some y) [] h = cc
      by_option later (Some y) (r ∷ rest) h =
          let here : name_literal es r ≡ Some (named_literal (arbiter f (rows_of es) row y) (is_negative l)) = cc in
          let behind : map (name_literal es) rest ≡ map Some (filter_map (on_arbiter f (rows_of es) row) ls) = cc in
          let named = named_variable es r (arbiter f (rows_of es) row y) (is_negative l)
          (name_of es (variable_of r)) refl here in
          let k = position_or_len (agree_on f y row) (rows_of es) in
          let back : k + 1 - 1 ≡ k = omega arith in
          let bit : value (variable_of r) ≡ m (pair_number f (rows_of all) row y) =
          ap (value_by_name f.variables m) (stays (variable_of r) (arbiter f (rows_of es) row y) named.0)
          ∙ ap (λ q. m (q * f.variables + y.variable)) back
          ∙ ap (λ q. m (q * f.variables + y.variable)) (same_pair y) in
          ap (λ b. b || clause_true value rest) (same_sign value m (pair_number f (rows_of all) row y) r l named.1 bit)
          ∙ ap (λ b. literal_true m (on_variable (pair_number f (rows_of all) row y) l) || b) (later rest behind)

  -- a model of the instances of these clauses
  module _ (matrix : List (List Literal)) (model : IsExpansionModel (with_matrix f matrix) (rows_of all) m) where
    instance_true : (es more : List Entry) (origin : Origin) (c : List Literal) → all ≡ more ++ Given origin c ∷ es →
        IsInstanceAmong f matrix origin → IsOriginsClause f es origin c → clause_true value c ≡ true
    instance_true es more (Instance k j) c is what o =
        let rest : IsInstanceRest f es k j o.rest = o.rest_is in
        let among = row_contained es k rest.row rest.row_is in
        let is' : all ≡ (more ++ Given (Instance k j) c ∷ []) ++ es = search (arith, append_assoc) in
        let r = rows_more (more ++ Given (Instance k j) c ∷ []) es in
        let among_all : Contains (rows_of all) rest.row = subst (λ rows. Contains rows rest.row)
        (sym (ap rows_of is' ∙ r.1)) (Contains-append_left (rows_of es) r.0 rest.row among) in
        let here = All-contains (λ row. All (λ clause. InstanceHolds m (instance_clause f (rows_of all) row clause))
        matrix) (rows_of all) rest.row model among_all in
        let there = All-contains (λ clause. InstanceHolds m (instance_clause f (rows_of all) rest.row clause)) matrix
        rest.clause here (what rest.clause rest.clause_is) in
        let true' : clause_true m (filter_map (pair_literal f (rows_of all) rest.row) rest.clause) ≡ true =
        search arith in
        let same = by_names es (more ++ Given (Instance k j) c ∷ []) is' rest.row among rest.clause o.rest rest.named in
        ap (clause_true value) o.clause_is ∙ or_true' (not (value o.group)) (clause_true value o.rest)
        (same ∙ true') where
          or_true' : (x y : Bool) → y ≡ true → (x || y) ≡ true
          or_true' true y h = refl
          or_true' false y h = h
    instance_true es more _ c is what o = absurd what

    selectors_false : (clause : List Literal) → AreNegatedSelectors all clause → clause_true value clause ≡ false
    selectors_false [] h = refl
    selectors_false (l ∷ ls) h =
        let P : Literal → Type 0 = λ k. (k ≡ negative (variable_of k)) ×
        (name_of all (variable_of k) ≡ Some (Selector (variable_of k))) in
        let here = All-head P l ls h in
        let is : literal_true value l ≡ false = search arith in
        ap (λ b. b || clause_true value ls) is ∙ selectors_false ls (All-tail P l ls h)

pub refuted_among : LinesAreImplied → (f : Dqbf) (matrix : List (List Literal)) (earlier : List Entry)
    (clause : List Literal) (hints : List ℕ) → IsSoundAnswer f earlier clause hints
    → AreNegatedSelectors earlier clause → ((origin : Origin) (c : List Literal) → ReachesGiven earlier hints origin c →
    IsInstanceAmong f matrix origin)
    → IsExpansionUnsatisfiable (with_matrix f matrix) (rows_of earlier)
refuted_among implied f matrix earlier clause hints sound selectors among m model =
    let truth = answer_true implied earlier hints (value f earlier sound.logged m)
    (λ es more origin c is reached.
    instance_true f earlier sound.logged m matrix model es more origin c is (among origin c reached)
    (sound.givens_match_origins more es origin c is reached))
    clause sound.lemmas_are_derived sound.derived in
    false≢true (sym (selectors_false f earlier sound.logged m matrix model clause selectors) ∙ truth)

among_all : (f : Dqbf) (origin : Origin) → IsInstance origin → IsInstanceAmong f f.matrix origin
among_all f (Instance k j) what = numbered_among f.matrix j
among_all f _ what = absurd what

pub refuted : LinesAreImplied → InstancesHaveNoModel
refuted implied f earlier clause hints sound decides =
    refuted_among implied f f.matrix earlier clause hints sound decides.selectors
    (λ origin c reached. among_all f origin (decides.instances origin c reached))
