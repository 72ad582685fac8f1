-- Clauses that are read literal by literal, on the names of their pairs.
use Rattle.std.proofs.Common.{◌≡◌, ℕ, zero, suc, ◌+◌, ◌<◌, Bool, true, false, not, cond, ◌&&◌, ◌||◌, List, [], ◌∷◌, ◌++◌, map, take, drop, length, get_or, None, Some, is_some, IsSome, refl, sym, ◌∙◌, ap, subst, arith}
use Rattle.std.specs.List.{All, list_any}
use Rattle.std.specs.Bool.{beq}
use Rattle.std.proofs.lemmas.List.Quantifiers.{position-Some}
use Rattle.std.proofs.lemmas.List.{get_or_default, map_more}
use Rattle.list_laws.proofs.Elements.{drop_at}
use Rattle.dq_lits.specs.Expansion.{row_assignment, universal_literal_true}
use Rattle.dq_lits.specs.Formula.{existential_of}
use Rattle.dq_lits.specs.Literal.{Literal, positive, negative, variable_of, on_variable, is_negative, literal_true}
use Rattle.dq_lits.specs.Row.{bit_of}
use Rattle.dq_formula.proofs.TrueUniversals.{true_universal}
use Rattle.cert_text.specs.Pairs.{is_pair_number}
use Rattle.refutation_checker.specs.Bindings.{binding_at, is_existential as binds_existential}
use Rattle.refutation_checker.specs.PairNames.{names_in, IsFrame, AreNames}
use Rattle.refutation_checker.specs.declared.bindings.Binding.{Binding}
use Rattle.refutation_checker.specs.declared.bindings.Binding.TheVariants.{Universal, Existential as Bound}
use Rattle.refutation_checker.specs.declared.pair_names.PairNames.{PairNames}
use Rattle.refutation_checker.specs.Judging.{IsNamed, AreNamed, on_pair, pair_part, IsRead, IsClause, clause_under, normal_literals}
use Rattle.refutation_checker.specs.Namings.{Frame, Names, Extends, base_of, name_of}
use Rattle.refutation_checker.specs.Pairs.{pair_of}
use Rattle.refutation_checker.specs.Refutation.{normal_number, normal_literal}
use Rattle.refutation_checker.specs.Rows.{row_of}
use Rattle.refutation_checker.proofs.BoundVariables.{not_universal, not_existential}
use Rattle.refutation_checker.proofs.NamedLines.{named_later, one_named_more, named_from_base}
use Rattle.refutation_checker.proofs.PairNumbers.{instance_part}

-- a literal that adds nothing, and one that adds its pair
pub part_none : (x : Frame) (row : List Bool) (l : Literal) → existential_of x.formula (variable_of l) ≡ None →
    pair_part x row (l ∷ []) ≡ []
part_none x row l none = ap (λ o. map (on_pair x row) (cond (is_some o) (l ∷ []) [])) none

pub part_one : (x : Frame) (row : List Bool) (l : Literal) → IsSome (existential_of x.formula (variable_of l)) →
    pair_part x row (l ∷ []) ≡ on_pair x row l ∷ []
part_one x row l some = ap (λ b. map (on_pair x row) (cond b (l ∷ []) [])) some

part_append : (x : Frame) (row : List Bool) (ls ks : List Literal) →
    pair_part x row (ls ++ ks) ≡ pair_part x row ls ++ pair_part x row ks
part_append x row [] ks = refl
part_append x row (l ∷ ls) ks = search (arith, (part_append x row ls ks))

take_more : {X : Type 0} (xs : List X) (i : ℕ) (d : X) → i < length xs →
    take (i + 1) xs ≡ take i xs ++ get_or xs i d ∷ []
take_more [] i d lt = absurd (omega (arith, lt))
take_more (x ∷ xs) zero d lt = refl
take_more (x ∷ xs) (suc i) d lt = search (arith, (take_more xs i d))

-- the first i literals of a clause were read
pub record AreRead (x : Frame) (n : Names) (row : List Bool) (clause named : List Literal) (i : ℕ) : Type 0 where
  pub none_true : list_any (universal_literal_true x.formula row) (drop i clause) ≡ list_any
      (universal_literal_true x.formula row) clause
  pub named_are : AreNamed x n (pair_part x row (take i clause)) named

pub read_more : (x : Frame) (n m : Names) (row : List Bool) (clause named now : List Literal) (i : ℕ) (l : Literal)
    (b : Bool)
    → All (λ r. length r ≡ length x.formula.universals) x.rows → Extends x n m → i < length clause →
    l ≡ get_or clause i l → b ≡ false
    → AreRead x n row clause named i → IsRead x m row l named now b → AreRead x m row clause now (i + 1)
read_more x n m row clause named now i l b whole extends lt l_is b_is before read =
    let is : IsRead x m row l named now false = subst (IsRead x m row l named now) b_is read in
    record {
      none_true = sym (ap (list_any (universal_literal_true x.formula row)) (drop_at clause i l lt)
          ∙ ap (λ k. universal_literal_true x.formula row k || list_any (universal_literal_true x.formula row)
          (drop (i + 1) clause)) (sym l_is)
          ∙ ap (λ t. t || list_any (universal_literal_true x.formula row) (drop (i + 1) clause)) is.0)
          ∙ before.none_true;
      named_are = subst (λ ls. AreNamed x m ls now)
          (sym (ap (pair_part x row) (take_more clause i l lt) ∙ part_append x row (take i clause)
          (get_or clause i l ∷ []) ∙ ap (λ k. pair_part x row (take i clause) ++ pair_part x row (k ∷ []))
          (sym l_is)))
          (is.1 (pair_part x row (take i clause)) (named_later x n m
          (pair_part x row (take i clause)) named whole extends before.named_are));
    }

-- a clause without a true universal literal
pub all_read : (x : Frame) (n : Names) (k j : ℕ) (row : List Bool) (clause named : List Literal) (i : ℕ) →
    row ≡ row_of x.rows k → clause ≡ get_or x.formula.matrix j []
    → drop i clause ≡ [] → take i clause ≡ clause → AreRead x n row clause named i →
    IsClause x n (clause_under x (k, j)) named true
all_read x n k j row clause named i row_is clause_is none all are = search (arith, instance_part)

-- one with a true universal literal
pub true_read : (x : Frame) (n m : Names) (k j : ℕ) (row : List Bool) (clause named old now : List Literal) (i : ℕ)
    (l : Literal) (b : Bool) → row ≡ row_of x.rows k
    → clause ≡ get_or x.formula.matrix j [] → i < length clause → l ≡ get_or clause i l → b ≡ true →
    AreRead x n row clause old i
    → IsRead x m row l old now b → IsClause x m (clause_under x (k, j)) named false
true_read x n m k j row clause named old now i l b row_is clause_is lt l_is b_is before read = search (arith, drop_at)

-- one more literal of a clause
pub read_pair : (x : Frame) (n : Names) (row : List Bool) (l m : Literal) (old now : List Literal) →
    IsSome (existential_of x.formula (variable_of l))
    → universal_literal_true x.formula row l ≡ false → IsNamed x n (pair_of x.formula x.rows row (variable_of l)) l m →
    now ≡ old ++ m ∷ []
    → IsRead x n row l old now false
read_pair x n row l m old now some untrue named is = (
  untrue,
  λ before are. subst (λ ls. AreNamed x n (before ++ ls) now) (sym (part_one x row l some))
      (subst (AreNamed x n (before ++ on_pair x row l ∷ [])) (sym is)
      (one_named_more x n before old (pair_of x.formula x.rows row (variable_of l)) l m are named)),
)

append_none : (ls : List Literal) → ls ++ [] ≡ ls
append_none [] = refl
append_none (l ∷ ls) = ap (λ ks. l ∷ ks) (append_none ls)

pub read_other : (x : Frame) (n : Names) (row : List Bool) (l : Literal) (old now : List Literal) (b : Bool) →
    existential_of x.formula (variable_of l) ≡ None
    → b ≡ universal_literal_true x.formula row l → now ≡ old → IsRead x n row l old now b
read_other x n row l old now true none is same = sym is
read_other x n row l old now false none is same = search (arith, part_none, append_none)

-- a literal's name
pub is_named : (x : Frame) (n : Names) (v a : ℕ) (l m : Literal) → name_of x n v ≡ Some a → m ≡ on_variable a l →
    IsNamed x n v l m
is_named x n v a l m named is =
    let at : variable_of m ≡ a = ap variable_of is ∙ variable_on a l in
    record { name = named ∙ ap Some (sym at); same = is ∙ ap (λ w. on_variable w l) (sym at) }
  where
    variable_on : (w : ℕ) (k : Literal) → variable_of (on_variable w k) ≡ w
    variable_on w (positive u) = refl
    variable_on w (negative u) = refl

pub pair_named : (x : Frame) (n : PairNames) (k y c p base : ℕ) (l m : Literal) → IsFrame x → AreNames x n →
    k < length x.rows → Bound c p ≡ binding_at x.bindings y
    → base_of x (names_in n) c (row_of x.rows k) ≡ Some base → m ≡ on_variable (base + p) l
    → IsNamed x (names_in n) (pair_of x.formula x.rows (row_of x.rows k) y) l m
pair_named x n k y c p base l m frame names k_in is based m_is =
    is_named x (names_in n) (pair_of x.formula x.rows (row_of x.rows k) y) (base + p) l m
    (named_from_base x (names_in n) k y c p base names.naming frame.lawful frame.bound frame.whole k_in
    (sym is) based).0 m_is

-- a literal that isn't existential
pub other_read : (x : Frame) (n : Names) (k y : ℕ) (l : Literal) (old : List Literal) (b : Bool) (binding : Binding) →
    IsFrame x → y ≡ variable_of l
    → binding ≡ binding_at x.bindings y → binds_existential binding ≡ false →
    b ≡ universal_literal_true x.formula (row_of x.rows k) l
    → IsRead x n (row_of x.rows k) l old old b
other_read x n k y l old b binding frame y_is is other b_is = search (arith, not_existential, read_other)

-- and one that is
pub existential_read : (x : Frame) (n : Names) (k y : ℕ) (l m : Literal) (old now : List Literal) → IsFrame x →
    y ≡ variable_of l → IsSome (existential_of x.formula y)
    → IsNamed x n (pair_of x.formula x.rows (row_of x.rows k) y) l m → now ≡ old ++ m ∷ [] →
    IsRead x n (row_of x.rows k) l old now false
existential_read x n k y l m old now frame y_is some named is =
    let there : IsSome (existential_of x.formula (variable_of l)) =
    subst (λ v. IsSome (existential_of x.formula v)) y_is some in
    read_pair x n (row_of x.rows k) l m old now there
    (ap (λ b. b && literal_true (row_assignment x.formula (row_of x.rows k)) l)
    (not_universal x.formula (variable_of l) frame.lawful there))
    (subst (λ v. IsNamed x n (pair_of x.formula x.rows (row_of x.rows k) v) l m) y_is named) is

pub bound_declared : (x : Frame) (y c p : ℕ) → IsFrame x → Bound c p ≡ binding_at x.bindings y →
    IsSome (existential_of x.formula y) × (c < length x.sets)
bound_declared x y c p frame is = search arith

-- a universal's literal
pub universal_read : (x : Frame) (k place : ℕ) (l : Literal) (r : List Bool) (bit negated : Bool) → IsFrame x →
    k < length x.rows
    → binding_at x.bindings (variable_of l) ≡ Universal place → r ≡ get_or x.rows k r → bit ≡ bit_of r place →
    negated ≡ is_negative l
    → not (beq bit negated) ≡ universal_literal_true x.formula (row_of x.rows k) l
universal_read x k place l r bit negated frame k_in is r_is bit_is neg_is =
    search (arith, get_or_default, true_universal)

pub universal_within : (x : Frame) (k place v : ℕ) (r : List Bool) → IsFrame x → k < length x.rows →
    binding_at x.bindings v ≡ Universal place → r ≡ get_or x.rows k r
    → place < length r
universal_within x k place v r frame k_in is r_is = search (arith, position-Some, get_or_default)

-- one literal more of a line
pub line_named_more : (x : Frame) (n m : Names) (literals named now : List Literal) (i k y v : ℕ) (l a : Literal) →
    All (λ r. length r ≡ length x.formula.universals) x.rows
    → Extends x n m → i < length literals → l ≡ get_or literals i l → v ≡ variable_of l
    → normal_number x.formula x.rows v ≡ pair_of x.formula x.rows (row_of x.rows k) y
    → AreNamed x n (normal_literals x (take i literals)) named →
    IsNamed x m (pair_of x.formula x.rows (row_of x.rows k) y) l a → now ≡ named ++ a ∷ []
    → AreNamed x m (normal_literals x (take (i + 1) literals)) now
line_named_more x n m literals named now i k y v l a whole extends lt l_is v_is normal before is now_is =
    let pair = pair_of x.formula x.rows (row_of x.rows k) y in
    let own : on_variable pair l ≡ normal_literal x.formula x.rows (get_or literals i l) =
    ap (λ w. on_variable w l) (sym normal ∙ ap (normal_number x.formula x.rows) v_is) ∙ ap
    (normal_literal x.formula x.rows) l_is in
    subst (λ ls. AreNamed x m ls now)
    (ap (λ k. normal_literals x (take i literals) ++ k ∷ []) own ∙ sym
    (map_more (normal_literal x.formula x.rows) literals i l lt))
    (subst (AreNamed x m (normal_literals x (take i literals) ++ on_variable pair l ∷ [])) (sym now_is)
    (one_named_more x m (normal_literals x (take i literals)) named pair l a
    (named_later x n m (normal_literals x (take i literals)) named whole extends before) is))

pub pair_number_at : (x : Frame) (literals : List Literal) (i : ℕ) (l : Literal) (v : ℕ) → i < length literals →
    l ≡ get_or literals i l → v ≡ variable_of l
    → All (λ k. is_pair_number x.formula (length x.rows) (variable_of k) ≡ true) literals →
    is_pair_number x.formula (length x.rows) v ≡ true
pair_number_at x literals i l v lt l_is v_is all = search arith
