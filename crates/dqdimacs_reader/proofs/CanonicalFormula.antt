-- A formula that some text may spell is spelled by its canonical text.
use Rattle.std.proofs.Common.{◌≡◌, ◌≢◌, ℕ, zero, suc, ◌^◌, ◌==◌, ◌<◌, ◌||◌, ◌&&◌, Bool, true, false, not, if◌then◌else◌, List, [], ◌∷◌, ◌++◌, map, length, get_or, refl, sym, ◌∙◌, ap, subst, arith, append_assoc, append-nil, length-append, Contains}
use Rattle.std.specs.List.{All, AllPairs, AllByRecursion, list_any, filter, flat_map, fold, range_with_len}
use Rattle.std.proofs.lemmas.Bool.{cases_Bool, ne_eqb}
use Rattle.std.proofs.lemmas.List.{length-map}
use Rattle.std.proofs.lemmas.List.Elements.{All-contains}
use Rattle.list_laws.proofs.Members.{tested_inside}
use Rattle.list_laws.proofs.Folds.{filter-shorter}
use Rattle.list_laws.proofs.Sequences.{all_behind, all_before}
use Rattle.list_laws.proofs.Truths.{false_unless}
use Rattle.list_laws.proofs.Elements.{at_front}
use Rattle.dq_lits.specs.Literal.{Literal, variable_of, same_literal}
use Rattle.dq_lits.specs.Formula.{Existential, Dqbf, declared}
use Rattle.dq_lits.proofs.Truth.{same_literal-sound}
use Rattle.dq_formula.specs.Dependencies.{listed_universals}
use Rattle.dq_formula.specs.Prefix.{is_declared, occurs, free_variables, unseeing}
use Rattle.dqdimacs_reader.specs.Building.{empty_formula, add_literal, add_clause, with_free}
use Rattle.dqdimacs_reader.specs.Canonical.{canonical}
use Rattle.dqdimacs_reader.specs.Grammar.{SpellsFormula, plain, InRange, AreLawfulConstraints, declare, add_constraint, clause_lexemes, constraint_lexemes, header, part_lexemes}
use Rattle.dqdimacs_reader.specs.Reading.{IsSpellable}
use Rattle.dqdimacs_reader.proofs.CanonicalWords.{HasSmallNumbers, IsNumbered, IsSmall, parts_of, canonical_lexemes}
use Rattle.dqdimacs_reader.proofs.CanonicalParts.{IsVariable, IsKnown, IsDeclarable, variable, prefix, all_lawful, all_declared}

pub by_recursion : {X : Type 0} (Q : X → Type 0) (xs : List X) → All Q xs → AllByRecursion Q xs
by_recursion Q [] all = tt
by_recursion Q (x ∷ xs) all = (
  all 0 x (omega arith),
  by_recursion Q xs
      (λ k d below. all (suc k) d (omega (arith, below))),
)

pub each : {X : Type 0} (P Q : X → Type 0) → ((x : X) → P x → Q x) → (xs : List X) → AllByRecursion P xs →
    AllByRecursion Q xs
each P Q step [] all = tt
each P Q step (x ∷ xs) all = (step x all.0, each P Q step xs all.1)

abbrev pub AreDifferent : List Literal → Type 0
AreDifferent ls = AllPairs (λ k l. k ≢ l) ls

tail_different : (l : Literal) (ls : List Literal) → AreDifferent (l ∷ ls) → AreDifferent ls
tail_different l ls pairs i j d before below = pairs (suc i) (suc j) d (omega arith) (omega arith)

no_earlier_literal : (front back : List Literal) (l : Literal) → AreDifferent (front ++ l ∷ back) →
    list_any (same_literal l) front ≡ false
no_earlier_literal [] back l pairs = refl
no_earlier_literal (k ∷ front) back l pairs =
    let differs : k ≢ l = λ h.
    pairs 0 (suc (length front)) l (omega arith) (omega (arith, length-append front (l ∷ back)))
    (h ∙ sym (at_front front back l l)) in
    ap (λ b. b || list_any (same_literal l) front) (false_unless (same_literal l k)
    (λ h. differs (sym (same_literal-sound l k h))))
    ∙ no_earlier_literal front back l (tail_different k (front ++ l ∷ back) pairs)

added : (done rest : List Literal) → AreDifferent (done ++ rest) → fold add_literal done rest ≡ done ++ rest
added done [] pairs = sym (append-nil done)
added done (l ∷ rest) pairs =
    ap (λ b. fold add_literal (if b then done else done ++ l ∷ []) rest) (no_earlier_literal done rest l pairs)
    ∙ added (done ++ l ∷ []) rest (subst AreDifferent (sym (append_assoc done (l ∷ []) rest)) pairs)
    ∙ append_assoc done (l ∷ []) rest

clauses_added : (f : Dqbf) (clauses : List (List Literal)) → AllByRecursion AreDifferent clauses →
    fold add_constraint f (map plain clauses) ≡ record f { matrix = f.matrix ++ clauses }
clauses_added f [] are = ap (λ matrix. record f { matrix = matrix }) (sym (append-nil f.matrix))
clauses_added f (ls ∷ clauses) are =
    ap (λ clause. fold add_constraint (add_clause f clause) (map plain clauses)) (added [] ls are.0)
    ∙ clauses_added (add_clause f ls) clauses are.1
    ∙ ap (λ matrix. record f { matrix = matrix }) (append_assoc f.matrix (ls ∷ []) clauses)

plain_lexemes : (clauses : List (List Literal)) → flat_map constraint_lexemes (map plain clauses)
    ≡ flat_map clause_lexemes clauses
plain_lexemes [] = refl
plain_lexemes (ls ∷ clauses) = ap (λ zs. clause_lexemes ls ++ zs) (plain_lexemes clauses)

plain_lawful : (variables : ℕ) (clauses : List (List Literal)) →
    AllByRecursion (AllByRecursion (InRange variables)) clauses → AreLawfulConstraints variables (map plain clauses)
plain_lawful variables [] are = tt
plain_lawful variables (ls ∷ clauses) are = (are.0, plain_lawful variables clauses are.1)

literal_elsewhere : (ds : List ℕ) (v : ℕ) (ls : List Literal) → list_any (λ x. x == v) ds ≡ false →
    AllByRecursion (λ l. Contains ds (variable_of l)) ls → list_any (λ l. variable_of l == v) ls ≡ false
literal_elsewhere ds v [] undeclared are = refl
literal_elsewhere ds v (l ∷ ls) undeclared are =
    search (arith, tested_inside, ne_eqb, (literal_elsewhere ds v ls undeclared are.1))

clause_elsewhere : (ds : List ℕ) (v : ℕ) (clauses : List (List Literal)) → list_any (λ x. x == v) ds ≡ false →
    AllByRecursion (AllByRecursion (λ l. Contains ds (variable_of l))) clauses → occurs clauses v ≡ false
clause_elsewhere ds v [] undeclared are = refl
clause_elsewhere ds v (ls ∷ clauses) undeclared are =
    search (arith, literal_elsewhere, (clause_elsewhere ds v clauses undeclared are.1))

free_no : (b : Bool) (f : Dqbf) (v : ℕ) → is_declared f v ≡ b → (b ≡ false → occurs f.matrix v ≡ false) →
    (not (is_declared f v) && occurs f.matrix v) ≡ false
free_no true f v is h = ap (λ b. not b && occurs f.matrix v) is
free_no false f v is h = ap (λ b. not b && occurs f.matrix v) is ∙ h refl

nothing_passes : (p : ℕ → Bool) → ((v : ℕ) → p v ≡ false) → (vs : List ℕ) → filter p vs ≡ []
nothing_passes p h [] = refl
nothing_passes p h (v ∷ vs) = ap (λ b. if b then v ∷ filter p vs else filter p vs) (h v) ∙ nothing_passes p h vs

none_free : (f : Dqbf) → AllByRecursion (AllByRecursion (λ l. Contains (declared f) (variable_of l))) f.matrix →
    free_variables f ≡ []
none_free f are =
    nothing_passes (λ v. not (is_declared f v) && occurs f.matrix v)
    (λ v. free_no (is_declared f v) f v refl (λ undeclared. clause_elsewhere (declared f) v f.matrix undeclared are))
    (range_with_len 1 f.variables)

all_pass : (p : ℕ → Bool) (us : List ℕ) → length (filter p us) ≡ length us → filter p us ≡ us
all_pass p [] same = refl
all_pass p (u ∷ us) same = search (arith, cases_Bool, (all_pass p us), filter-shorter)

of_variables : (Q : ℕ → Type 0) (es : List Existential) → AllByRecursion Q (map variable es) →
    AllByRecursion (λ y. Q y.variable) es
of_variables Q [] all = tt
of_variables Q (y ∷ es) all = (all.0, of_variables Q es all.1)

module _ (f : Dqbf) (is : IsSpellable f) where
  in_range : AllByRecursion (IsVariable f.variables) (declared f)
  in_range = by_recursion (IsVariable f.variables) (declared f) is.lawful.prefix.in_range

  universals_in_range : AllByRecursion (IsVariable f.variables) f.universals
  universals_in_range = all_before (IsVariable f.variables) f.universals (map variable f.existentials) in_range

  existentials_in_range : AllByRecursion (λ y. IsVariable f.variables y.variable) f.existentials
  existentials_in_range =
      of_variables (IsVariable f.variables) f.existentials (all_behind (IsVariable f.variables) f.universals
      (map variable f.existentials) in_range)

  known : (x : ℕ) → Contains f.universals x → IsKnown f.variables f.universals x
  known x among =
      let range = All-contains (IsVariable f.variables) f.universals x
      (all_of f.universals universals_in_range) among in
      (range.0, range.1, tested_inside f.universals x among)
    where
      all_of : (xs : List ℕ) → AllByRecursion (IsVariable f.variables) xs → All (IsVariable f.variables) xs
      all_of [] are k d below = absurd (omega (arith, below))
      all_of (x ∷ xs) are zero d below = are.0
      all_of (x ∷ xs) are (suc k) d below = all_of xs are.1 k d (omega (arith, below))

  whole : (y : Existential) → y.sees ≡ listed_universals f.universals y.sees → length y.sees ≡ length f.universals →
      y.sees ≡ f.universals
  whole y ordered same =
      ordered ∙ all_pass (λ u. list_any (λ x. x == u) y.sees) f.universals (sym (ap length ordered) ∙ same)

  declarable : All (IsDeclarable f.variables f.universals) f.existentials
  declarable k d below =
      let y = get_or f.existentials k d in
      let ordered = is.lawful.ordered k d below in
      record {
        is_variable = at f.existentials existentials_in_range k d below;
        ordered = record { listed = ordered; whole = whole y ordered };
        known = each (Contains f.universals) (IsKnown f.variables f.universals) known y.sees
            (by_recursion (Contains f.universals) y.sees (is.lawful.prefix.sees_universals k d below));
      }
    where
      at : (es : List Existential) → AllByRecursion (λ y. IsVariable f.variables y.variable) es →
          (k : ℕ) (d : Existential) → k < length es →
          IsVariable f.variables (get_or es k d).variable
      at [] are k d below = absurd (omega (arith, below))
      at (y ∷ es) are zero d below = are.0
      at (y ∷ es) are (suc k) d below = at es are.1 k d (omega (arith, below))

  are_declarable : AllByRecursion (IsDeclarable f.variables f.universals) f.existentials
  are_declarable = by_recursion (IsDeclarable f.variables f.universals) f.existentials declarable

  bound : AllByRecursion (AllByRecursion (λ l. Contains (declared f) (variable_of l))) f.matrix
  bound =
      each (All (λ l. Contains (declared f) (variable_of l)))
      (AllByRecursion (λ l. Contains (declared f) (variable_of l)))
      (λ ls all. by_recursion (λ l. Contains (declared f) (variable_of l)) ls all) f.matrix
      (by_recursion (All (λ l. Contains (declared f) (variable_of l))) f.matrix is.well_formed.bound)

  literals_in_range : AllByRecursion (AllByRecursion (InRange f.variables)) f.matrix
  literals_in_range =
      each (AllByRecursion (λ l. Contains (declared f) (variable_of l))) (AllByRecursion (InRange f.variables))
      (λ ls all. each (λ l. Contains (declared f) (variable_of l)) (InRange f.variables)
      (λ l among. All-contains (IsVariable f.variables) (declared f)
      (variable_of l) is.lawful.prefix.in_range among) ls all)
      f.matrix bound

  different : AllByRecursion AreDifferent f.matrix
  different = by_recursion AreDifferent f.matrix is.distinct

  small : HasSmallNumbers f
  small =
      let few = is.lawful.few_variables in
      record {
        variables = omega (arith, few);
        clauses = omega (arith, is.lawful.few_clauses);
        universals = each (IsVariable f.variables) (λ n. n < 10 ^ 18)
            (λ v range. omega (arith, range.1, few)) f.universals universals_in_range;
        existentials = each (IsDeclarable f.variables f.universals) IsSmall
            (λ y is_one. record {
              variable = omega (arith, is_one.is_variable.1, few);
              sees = each (IsKnown f.variables f.universals) (λ n. n < 10 ^ 18)
                  (λ x one. omega (arith, one.1, few)) y.sees is_one.known;
            }) f.existentials are_declarable;
        literals = each (AllByRecursion (InRange f.variables)) (AllByRecursion IsNumbered)
            (λ ls all. each (InRange f.variables) IsNumbered (λ l range. (range.0, omega (arith, range.1, few))) ls all)
            f.matrix literals_in_range;
      }

  -- what the canonical text's parts and clauses make up
  made_up : with_free (fold add_constraint (fold declare (empty_formula f.variables) (parts_of f))
      (map plain f.matrix)) ≡ f
  made_up =
      ap (λ g. with_free (fold add_constraint g (map plain f.matrix)))
      (all_declared f.variables f.universals f.existentials are_declarable)
      ∙ ap with_free (clauses_added (prefix f.variables f.universals f.existentials) f.matrix different)
      ∙ ap (λ vs. record f { existentials = f.existentials ++ map unseeing vs }) (none_free f bound)
      ∙ ap (λ es. record f { existentials = es }) (append-nil f.existentials)

  pub canonical_spells : SpellsFormula (canonical f) f
  canonical_spells = record {
    parts = parts_of f;
    constraints = map plain f.matrix;
    spelling = canonical_lexemes f small
        ∙ ap (λ n. header f.variables n ++ (flat_map part_lexemes (parts_of f) ++ flat_map clause_lexemes f.matrix))
        (sym (length-map f.matrix plain))
        ∙ ap (λ zs. header f.variables (length (map plain f.matrix)) ++ (flat_map part_lexemes (parts_of f) ++ zs))
        (sym (plain_lexemes f.matrix));
    few_variables = is.lawful.few_variables;
    few_constraints = omega (arith, is.lawful.few_clauses, length-map f.matrix plain);
    few_clauses = is.lawful.few_clauses;
    lawful_parts = all_lawful f.variables f.universals f.existentials universals_in_range are_declarable
        is.lawful.prefix.declared_once;
    lawful_constraints = plain_lawful f.variables f.matrix literals_in_range;
    formula = sym made_up;
  }
