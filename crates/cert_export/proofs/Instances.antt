-- The instances given, renamed, are those of the expansion.
use Rattle.std.proofs.Common.{◌≡◌, ℕ, zero, suc, ◌+◌, ◌-◌, ◌*◌, ◌%◌, ◌≤◌, ◌<◌, ◌==◌, nat_lt, ◌||◌, ◌&&◌, Bool, true, false, not, cond, List, [], ◌∷◌, ◌++◌, map, length, get_or, slice_get, Option, None, Some, refl, sym, ◌∙◌, ap, subst, arith, append_assoc, length-append, mul-le-mul_right, add-mul, one-mul}
use Rattle.std.specs.List.{All, Contains, list_any, filter_map, cons_option, position_or_len}
use Rattle.std.specs.List.Sorted.{IsStrictlyIncreasing}
use Rattle.std.specs.Option.{option_map, option_and_then}
use Rattle.std.proofs.lemmas.Bool.{and_from, or_right, lt-ltb, ne_eqb, false≢true, eqb-true, eq-eqb, cond-true, cond-false}
use Rattle.std.proofs.lemmas.List.{length-map}
use Rattle.std.proofs.lemmas.List.Sums.{passes_at_first}
use Rattle.std.proofs.lemmas.Nat.{div-mul-add, mod-mul-add}
use Rattle.std.proofs.lemmas.List.Elements.{All-nil, All-cons, Contains-append_left}
use Rattle.std.proofs.lemmas.Option.{get_or_from_slice_get}
use Rattle.list_laws.proofs.Elements.{kept_there, last_there, place_within}
use Rattle.dq_lits.specs.Literal.{Literal, positive, negative, variable_of, is_negative, on_variable}
use Rattle.dq_lits.specs.Formula.{Existential, Dqbf, existential_of, IsWellFormed}
use Rattle.dq_lits.specs.Expansion.{agree_on, pair_number, pair_literal, universal_literal_true, instance_clause, instance_at, row_assignment}
use Rattle.list_laws.proofs.Numbers.{pair_row, pair_variable}
use Rattle.hint_log.specs.Entries.{has_id, is_round, row_of, row_at, count, rounds_of, numbered, name_of, Entry, Given, Round}
use Rattle.hint_log.specs.declared.names.Name.{Name}
use Rattle.hint_log.specs.declared.names.Name.TheVariants.{Selector, Pair}
use Rattle.hint_log.specs.declared.origins.Origin.{Origin}
use Rattle.hint_log.specs.declared.origins.Origin.TheVariants.{Instance}
use Rattle.hint_log.specs.Growth.{Each}
use Rattle.hint_log.specs.Naming.{numbered_from_one, named_literal, name_literal, rows_of, arbiter, on_arbiter}
use Rattle.hint_log.specs.Origins.{IsInstanceRest, IsOriginsClause}
use Rattle.cert_export.specs.Renaming.{Renaming, renamed_literal, renamed_clause}
use Rattle.cert_text.specs.Pairs.{is_pair_number}
use Rattle.refutation_checker.specs.Refutation.{normal_of, normal_number}
use Rattle.cert_export.specs.Exportable.{IsKnownInstance}
use Rattle.cert_export.specs.Pairing.{IsNameAt, HasNameAt, AreNamedAt}
use Rattle.cert_export.specs.Expansion.{row_of_round, rows_among, kept_pair, pair_of, pair_renaming, number_among, instance_id, IsInstanceClause, IsKeptClause, InstancesAreExpansion}
use Rattle.hint_log.specs.Conditions.{MayFollow}
use Rattle.log_laws.proofs.ReachedClauses.{name_stays}
use Rattle.log_laws.proofs.Found.{named_variable, position_append, position_small, split_at, slice_get_at}
use Rattle.log_laws.proofs.Refuted.{row_contained, rows_more}
use Rattle.cert_export.proofs.PairNames.{in_range, alike, same_places, same_numbers, from_one}
use Rattle.dq_lits.specs.Henkin.{restriction, same_bits}
use Rattle.dq_lits.proofs.Choices.{same_bits-refl}
use Rattle.dq_lits.proofs.FormulaVariables.{find_sound}

-- the row of a round is at its place
pub rounds_are : (es : List Entry) → length (rows_of es) ≡ rounds_of es
rounds_are [] = refl
rounds_are (Round row values j ∷ es) = length-append (rows_of es) (row ∷ []) ∙ ap (λ n. n + 1) (rounds_are es)
rounds_are (_ ∷ es) = rounds_are es

pub row_place : (es : List Entry) (k : ℕ) (row : List Bool) → row_at es k ≡ Some row →
    (1 ≤ k) × (slice_get (rows_of es) (k - 1) ≡ Some row)
row_place [] k row h = cc
row_place (Round r values j ∷ es) k row h = by_bit (row_place es k row) (k == count is_round es + 1) refl h where
  by_bit : (row_at es k ≡ Some row → (1 ≤ k) × (slice_get (rows_of es) (k - 1) ≡ Some row)) → (b : Bool) →
      (k == count is_round es + 1) ≡ b → option_and_then row_of
      (cond b (Some (Round r values j)) (numbered is_round es k)) ≡ Some row →
      (1 ≤ k) × (slice_get (rows_of es ++ r ∷ []) (k - 1) ≡ Some row)
  by_bit before true e h =
      let same : r ≡ row = cc in
      let number = eqb-true k (count is_round es + 1) e in
      let place : k - 1 ≡ length (rows_of es) = omega (arith, number, rounds_are es) in
      (omega (arith, number), ap (slice_get (rows_of es ++ r ∷ [])) place ∙ last_there (rows_of es) r ∙ ap Some same)
  by_bit before false e h = let b = before h in (b.0, kept_there (rows_of es) (r ∷ []) (k - 1) row b.1)
row_place (_ ∷ es) k row h = row_place es k row h

pub same_on : (p : ℕ) (r l : Literal) → is_negative r ≡ is_negative l → on_variable p r ≡ on_variable p l
same_on p (positive v) (positive w) e = refl
same_on p (positive v) (negative w) e = absurd (false≢true e)
same_on p (negative v) (positive w) e = absurd (false≢true (sym e))
same_on p (negative v) (negative w) e = refl

pub any_at : {X : Type 0} (q : X → Bool) (xs : List X) (i : ℕ) (x : X) → slice_get xs i ≡ Some x → q x ≡ true →
    list_any q xs ≡ true
any_at q [] i x h passes = cc
any_at q (y ∷ ys) zero x h passes = let same : y ≡ x = cc in ap (λ b. b || list_any q ys) (ap q same ∙ passes)
any_at q (y ∷ ys) (suc i) x h passes = or_right (q y) (list_any q ys) (any_at q ys i x h passes)

-- a number that stands in a list is at its place
pub at_place : {X : Type 0} (g : ℕ → X) (ks : List ℕ) (k : ℕ) → Contains ks k →
    slice_get (map g ks) (position_or_len (λ i. i == k) ks) ≡ Some (g k)
at_place g [] k (i, below, is) = absurd (omega arith)
at_place {X} g (x ∷ xs) k (i, below, is) = by_bit (x == k) refl i below is (at_place g xs k) where
  by_bit : (b : Bool) → (x == k) ≡ b → (i : ℕ) → i < length (x ∷ xs) → get_or (x ∷ xs) i k ≡ k →
      (Contains xs k → slice_get (map g xs) (position_or_len (λ i. i == k) xs) ≡ Some (g k)) →
      slice_get (g x ∷ map g xs) (cond (not b) (1 + position_or_len (λ i. i == k) xs) 0) ≡ Some (g k)
  by_bit true e i below is later = ap (λ n. Some (g n)) (eqb-true x k e)
  by_bit false e zero below is later = absurd (false≢true (sym e ∙ eq-eqb x k is))
  by_bit false e (suc i) below is later = search arith

module _ (f : Dqbf) (well : IsWellFormed f) (all : List Entry) (ks : List ℕ) (lawful : Each MayFollow all) where
  abbrev kept : List (List Bool)
  kept = rows_among all ks

  abbrev r : Renaming
  r = pair_renaming f all ks

  module _ (es more : List Entry) (is : all ≡ more ++ es) (row : List Bool) (among : Contains (rows_of es) row)
      (place : ℕ) (at_kept : slice_get kept place ≡ Some row) where
    stays : (v : ℕ) (n : Name) → name_of es v ≡ Some n → name_of all v ≡ Some n
    stays v n h = ap (λ xs. name_of xs v) is ∙ name_stays more es v n (subst (Each MayFollow) is lawful) h

    place_small : (y : Existential) (rows : List (List Bool)) → Contains rows row →
        position_or_len (agree_on f y row) rows < length rows
    place_small y rows (k, below, at) = search (arith, position_small, same_bits-refl)

    same_pair : (y : Existential) → position_or_len (agree_on f y row) (rows_of es) ≡ position_or_len (agree_on f y row)
        (rows_of all)
    same_pair y =
        let later = rows_more more es in
        sym (ap (λ xs. position_or_len (agree_on f y row) (rows_of xs)) is ∙ ap
        (position_or_len (agree_on f y row)) later.1 ∙ position_append (agree_on f y row)
        (rows_of es) later.0 (place_small y (rows_of es) among))

    pair_there : (y : Existential) → existential_of f y.variable ≡ Some y →
        pair_of f (rows_of all) kept (Some (arbiter f (rows_of es) row y)) ≡ Some (pair_number f kept row y)
    pair_there y own =
        let rows = rows_of all in
        let k = position_or_len (agree_on f y row) rows in
        let later = rows_more more es in
        let among_all : Contains rows row = subst (λ xs. Contains xs row) (sym (ap rows_of is ∙ later.1))
        (Contains-append_left (rows_of es) later.0 row among) in
        let small = place_small y rows among_all in
        let first = get_or rows k [] in
        let agreed : agree_on f y row first ≡ true = passes_at_first (agree_on f y row) rows [] small in
        let same = alike f y row first agreed in
        let back : agree_on f y first row ≡ true =
        ap (λ bits. same_bits bits (restriction y (row_assignment f row))) (sym same)
        ∙ same_bits-refl (restriction y (row_assignment f row)) in
        let suc_k : k + 1 ≡ suc k = omega arith in
        let row_there : numbered_from_one rows (k + 1) ≡ Some first =
        ap (numbered_from_one rows) suc_k ∙ slice_get_at rows k [] small in
        let test : (position_or_len (agree_on f y first) rows + 1 == k + 1) ≡ true =
        eq-eqb (position_or_len (agree_on f y first) rows + 1) (k + 1)
        (ap (λ n. n + 1) (sym (same_places f y rows row first same))) in
        let kept_there = any_at (agree_on f y first) kept place row at_kept back in
        ap (λ n. pair_of f rows kept (Some (Pair (n + 1) y.variable))) (same_pair y)
        ∙ ap (λ o. kept_pair f rows kept (k + 1) o (existential_of f y.variable)) row_there
        ∙ ap (kept_pair f rows kept (k + 1) (Some first)) own
        ∙ cond-true ((position_or_len (agree_on f y first) rows + 1 == k + 1) && list_any (agree_on f y first) kept)
        (Some (pair_number f kept first y)) None
        (and_from (position_or_len (agree_on f y first) rows + 1 == k + 1) (list_any (agree_on f y first) kept) test
        kept_there)
        ∙ ap Some (sym (same_numbers f y kept row first same))

    -- the number of the existential under the row at its place is the pair's
    normal_there : (y : Existential) → existential_of f y.variable ≡ Some y → 1 ≤ y.variable →
        y.variable ≤ f.variables →
        normal_number f kept (place * f.variables + y.variable) ≡ pair_number f kept row y
    normal_there y own low high =
        let V = f.variables in
        let x = place * V + y.variable in
        let quotient = pair_row place V y.variable low high in
        let back = pair_variable place V y.variable low high in
        ap (λ n. normal_of f kept x (slice_get kept n) (existential_of f ((x - 1) % V + 1))) quotient
        ∙ ap (λ o. normal_of f kept x o (existential_of f ((x - 1) % V + 1))) at_kept
        ∙ ap (λ n. normal_of f kept x (Some row) (existential_of f n)) back
        ∙ ap (normal_of f kept x (Some row)) own

    pair_right : (y : Existential) → existential_of f y.variable ≡ Some y → 1 ≤ y.variable →
        y.variable ≤ f.variables →
        is_pair_number f (length kept) (place * f.variables + y.variable) ≡ true
    pair_right y own low high = search (arith, pair_row, place_within, and_from, nat_lt, ne_eqb, lt-ltb)

    -- so an arbiter's name is that of such a pair
    own_arbiter : (y : Existential) → existential_of f y.variable ≡ Some y →
        IsNameAt f (rows_of all) kept place (Some (arbiter f (rows_of es) row y))
    own_arbiter y own =
        let range = in_range f well y (find_sound y.variable f.existentials y own).0 in
        record {
          from_one = range.0;
          in_range = range.1;
          number = pair_there y own ∙ ap Some (sym (normal_there y own range.0 range.1));
          is_pair = pair_right y own range.0 range.1;
        }

    abbrev IsOwn : Literal → Type 0
    IsOwn l = HasNameAt f all ks place (variable_of l)

    own_names : (clause rest : List Literal) →
        map (name_literal es) rest ≡ map Some (filter_map (on_arbiter f (rows_of es) row) clause) →
        All IsOwn rest
    own_names [] [] h = All-nil IsOwn
    own_names [] (q ∷ rest) h = cc
    own_names (l ∷ ls) rest h = by_option (own_names ls) (existential_of f (variable_of l)) refl rest h where
      by_option : ((rest : List Literal) → map (name_literal es) rest ≡ map Some
          (filter_map (on_arbiter f (rows_of es) row) ls) → All IsOwn rest) →
          (o : Option Existential) → existential_of f (variable_of l) ≡ o → (rest : List Literal) →
          map (name_literal es) rest ≡ map Some (cons_option
          (option_map (λ y. named_literal (arbiter f (rows_of es) row y) (is_negative l)) o)
          (filter_map (on_arbiter f (rows_of es) row) ls)) → All IsOwn rest
      by_option later None e rest h = later rest h
      by_option later (Some y) e [] h = cc
      by_option later (Some y) e (q ∷ rest) h =
          let here : name_literal es q ≡ Some (named_literal (arbiter f (rows_of es) row y) (is_negative l)) = cc in
          let behind : map (name_literal es) rest ≡ map Some (filter_map (on_arbiter f (rows_of es) row) ls) = cc in
          let named = named_variable es q (arbiter f (rows_of es) row y) (is_negative l)
          (name_of es (variable_of q)) refl here in
          let own : existential_of f y.variable ≡ Some y = ap (existential_of f)
          (find_sound (variable_of l) f.existentials y e).1 ∙ e in
          let name : name_of all (variable_of q) ≡ Some (arbiter f (rows_of es) row y) =
          stays (variable_of q) (arbiter f (rows_of es) row y) named.0 in
          All-cons IsOwn q rest (subst (IsNameAt f (rows_of all) kept place) (sym name) (own_arbiter y own))
          (later rest behind)

    instance_renamed : (clause rest : List Literal) → map (name_literal es) rest ≡ map Some
        (filter_map (on_arbiter f (rows_of es) row) clause) →
        renamed_clause r rest ≡ filter_map (pair_literal f kept row) clause
    instance_renamed [] [] h = refl
    instance_renamed [] (q ∷ rest) h = cc
    instance_renamed (l ∷ ls) rest h = by_option (instance_renamed ls)
        (existential_of f (variable_of l)) refl rest h where
          by_option : ((rest : List Literal) → map (name_literal es) rest ≡ map Some
              (filter_map (on_arbiter f (rows_of es) row) ls) → renamed_clause r rest ≡ filter_map
              (pair_literal f kept row) ls) →
              (o : Option Existential) → existential_of f (variable_of l) ≡ o → (rest : List Literal) →
              map (name_literal es) rest ≡ map Some (cons_option
              (option_map (λ y. named_literal (arbiter f (rows_of es) row y) (is_negative l)) o)
              (filter_map (on_arbiter f (rows_of es) row) ls)) →
              renamed_clause r rest ≡ cons_option (option_map
              (λ y. on_variable (pair_number f kept row y) l) o)
              (filter_map (pair_literal f kept row) ls)
          by_option later None e rest h = later rest h
          by_option later (Some y) e [] h = cc
          by_option later (Some y) e (q ∷ rest) h =
              let here : name_literal es q ≡ Some (named_literal (arbiter f (rows_of es) row y) (is_negative l)) = cc in
              let behind : map (name_literal es) rest ≡ map Some (filter_map (on_arbiter f (rows_of es) row) ls) = cc in
              let named = named_variable es q (arbiter f (rows_of es) row y) (is_negative l)
              (name_of es (variable_of q)) refl here in
              let own : existential_of f y.variable ≡ Some y = ap (existential_of f)
              (find_sound (variable_of l) f.existentials y e).1 ∙ e in
              let number : r (variable_of q) ≡ Some (pair_number f kept row y) =
              ap (pair_of f (rows_of all) kept) (stays (variable_of q) (arbiter f (rows_of es) row y) named.0)
              ∙ pair_there y own in
              let literal : renamed_literal r q ≡ Some (on_variable (pair_number f kept row y) l) =
              ap (option_map (λ w. on_variable w q)) number ∙ ap Some
              (same_on (pair_number f kept row y) q l named.1) in
              ap (λ o. cons_option o (renamed_clause r rest)) literal ∙ ap
              (λ xs. on_variable (pair_number f kept row y) l ∷ xs) (later rest behind)

  -- an instance's clause is that of its number in the expansion
  module _ (es more : List Entry) (k j i : ℕ) (c : List Literal) (is : all ≡ more ++ Given (Instance k j) c ∷ es)
      (o : IsOriginsClause f es (Instance k i) c) (inside : Contains ks k) where
    abbrev rest : IsInstanceRest f es k i o.rest
    rest = o.rest_is

    abbrev more' : List Entry
    more' = more ++ Given (Instance k j) c ∷ []

    abbrev p : ℕ
    p = position_or_len (λ i. i == k) ks

    is' : all ≡ more' ++ es
    is' = is ∙ sym (append_assoc more (Given (Instance k j) c ∷ []) es)

    among : Contains (rows_of es) rest.row
    among = row_contained es k rest.row rest.row_is

    of_round : row_of_round all k ≡ rest.row
    of_round =
        let later = rows_more more' es in
        let there : slice_get (rows_of all) (k - 1) ≡ Some rest.row =
        ap (λ xs. slice_get xs (k - 1)) (ap rows_of is' ∙ later.1) ∙ kept_there (rows_of es) later.0 (k - 1) rest.row
        (row_place es k rest.row rest.row_is).1 in
        get_or_from_slice_get (rows_of all) (k - 1) rest.row [] there

    row_there : slice_get kept p ≡ Some rest.row
    row_there = at_place (row_of_round all) ks k inside ∙ ap Some of_round

    base_right : (instance_at f kept (p * length f.matrix + i) ≡ Some (renamed_clause r c)) ×
        (p * length f.matrix + i ≤ length ks * length f.matrix)
    base_right =
        let clause_there = from_one f.matrix i rest.clause rest.clause_is in
        let C = length f.matrix in
        let many : length kept ≡ length ks = length-map ks (row_of_round all) in
        let clause_small = place_within f.matrix (i - 1) rest.clause clause_there.1 in
        let next : p * C + i ≡ suc (p * C + (i - 1)) = omega arith in
        let rem = mod-mul-add p C (i - 1) clause_small in
        let quotient = div-mul-add p C (i - 1) clause_small in
        let body : instance_at f kept (suc (p * C + (i - 1))) ≡ instance_clause f kept rest.row rest.clause =
        ap (λ q. option_and_then (λ row. option_and_then (instance_clause f kept row)
        (slice_get f.matrix ((p * C + (i - 1)) % C))) (slice_get kept q)) quotient
        ∙ ap (option_and_then (λ row. option_and_then (instance_clause f kept row)
        (slice_get f.matrix ((p * C + (i - 1)) % C)))) row_there
        ∙ ap (λ q. option_and_then (instance_clause f kept rest.row) (slice_get f.matrix q)) rem
        ∙ ap (option_and_then (instance_clause f kept rest.row)) clause_there.1 in
        let open' : instance_clause f kept rest.row rest.clause ≡ Some
        (filter_map (pair_literal f kept rest.row) rest.clause) =
        cond-false (list_any (universal_literal_true f rest.row) rest.clause) None _ rest.open_row in
        let same = instance_renamed es more' is' rest.row among p row_there rest.clause o.rest rest.named in
        let selector : renamed_literal r (negative o.group) ≡ None =
        ap (λ q. option_map (λ w. on_variable w (negative o.group)) (pair_of f (rows_of all) kept q))
        (stays es more' is' rest.row among p row_there o.group (Selector o.group) o.is_group) in
        let dropped : renamed_clause r c ≡ renamed_clause r o.rest =
        ap (renamed_clause r) o.clause_is ∙ ap (λ q. cons_option q (renamed_clause r o.rest)) selector in
        let up : (p + 1) * C ≤ length ks * C = mul-le-mul_right C
        (let s : p + 1 ≤ length ks = omega (arith, many, place_within kept p rest.row row_there) in s) in
        let parts : (p + 1) * C ≡ p * C + 1 * C = add-mul p 1 C in
        let one : 1 * C ≡ C = one-mul C in (
          ap (instance_at f kept) next ∙ body ∙ open' ∙ ap Some (sym (dropped ∙ same)),
          omega (arith, up, parts, one, clause_small, clause_there.0),
        )

    -- so an instance's variables have names of such pairs, or are its selector
    own_instance : AreNamedAt f all ks (Instance k j) c
    own_instance =
        let P : Literal → Type 0 = λ l. HasNameAt f all ks p (variable_of l) in
        let selector = stays es more' is' rest.row among p row_there o.group (Selector o.group) o.is_group in
        let first : P (negative o.group) = subst (IsNameAt f (rows_of all) kept p) (sym selector) tt in (
          inside,
          subst (All P) (sym o.clause_is) (All-cons P (negative o.group) o.rest first
              (own_names es more' is' rest.row among p row_there rest.clause o.rest rest.named)),
        )

-- what is kept are instances alone
instances_alone : (P : Origin → Type 0) (f : Dqbf) (ks live : List ℕ) (entries : List Entry) (origin : Origin)
    (c : List Literal) → IsKeptClause f ks live entries origin c →
    ((k j : ℕ) → IsKeptClause f ks live entries (Instance k j) c → P (Instance k j)) → P origin
instances_alone P f ks live entries (Instance k j) c mine own = own k j mine
instances_alone P f ks live entries _ c mine own = absurd mine

pub instances_are_expansion : InstancesAreExpansion
instances_are_expansion f ks live entries well lawful id origin c at usable =
    instances_alone (λ o. numbered has_id entries id ≡ Some (Given o c) →
    (instance_at f (rows_among entries ks) (instance_id ks live (length f.matrix) o) ≡ Some
    (renamed_clause (pair_renaming f entries ks) c)) ×
    (instance_id ks live (length f.matrix) o ≤ length ks * length f.matrix)) f ks live entries origin c usable
    (λ k j mine at. let place = split_at entries id (Given (Instance k j) c) at in
    base_right f well entries ks lawful place.1 place.0 k j (number_among live j) c place.2
    (mine.1.1 place.0 place.1 place.2) mine.0) at

module _ (f : Dqbf) (ks live : List ℕ) (entries : List Entry) (well : IsWellFormed f)
    (lawful : Each MayFollow entries) where
  pub own_given : (id : ℕ) (origin : Origin) (c : List Literal) → IsKeptClause f ks live entries origin c →
      numbered has_id entries id ≡ Some (Given origin c) → AreNamedAt f entries ks origin c
  own_given id origin c mine at =
      instances_alone (λ o. numbered has_id entries id ≡ Some (Given o c) → AreNamedAt f entries ks o c)
      f ks live entries origin c mine
      (λ k j mine at. let place = split_at entries id (Given (Instance k j) c) at in
      own_instance f well entries ks lawful place.1 place.0 k j (number_among live j) c place.2
      (mine.1.1 place.0 place.1 place.2) mine.0) at

  pub known_given : IsStrictlyIncreasing ks → IsStrictlyIncreasing live → (origin : Origin) (c : List Literal) →
      IsKeptClause f ks live entries origin c → IsKnownInstance ks live origin
  known_given rising ascending origin c mine = search (arith, instances_alone)

-- an instance's round is one of the log's
pub round_below : (f : Dqbf) (live : List ℕ) (entries : List Entry) (id k j : ℕ) (c : List Literal) →
    IsInstanceClause f live entries (Instance k j) c → numbered has_id entries id ≡ Some (Given (Instance k j) c) →
    (1 ≤ k) × (k ≤ rounds_of entries)
round_below f live entries id k j c mine at =
    let s = split_at entries id (Given (Instance k j) c) at in
    let o = mine.1 s.0 s.1 s.2 in
    let rest : IsInstanceRest f s.1 k (number_among live j) o.rest = o.rest_is in
    let place = row_place s.1 k rest.row rest.row_is in
    let later = rows_more (s.0 ++ Given (Instance k j) c ∷ []) s.1 in
    let is' : entries ≡ (s.0 ++ Given (Instance k j) c ∷ []) ++ s.1 =
    s.2 ∙ sym (append_assoc s.0 (Given (Instance k j) c ∷ []) s.1) in
    let many : length (rows_of entries) ≡ length (rows_of s.1) + length later.0 =
    ap (λ xs. length (rows_of xs)) is' ∙ ap length later.1 ∙ length-append (rows_of s.1) later.0 in
    let low = place.0 in (
      low,
      omega (arith, low, place_within (rows_of s.1) (k - 1) rest.row place.1, many, rounds_are entries),
    )
