-- Words of private contracts: lines that are judged on the names of their pairs.
use Rattle.std.specs.Prelude.{◌≡◌, ℕ, Bool, true, false, List, [], ◌∷◌, ◌++◌, map, drop, Option, None, Some, slice_index_or}
use Rattle.std.specs.List.{AllByRecursion}
use Rattle.std.specs.Option.{option_map}
use Rattle.dq_lits.specs.Derivation.{is_empty}
use Rattle.dq_lits.specs.Expansion.{instance_at, instance_clause, universal_literal_true}
use Rattle.dq_lits.specs.Literal.{Literal, variable_of, on_variable}
use Rattle.rup_core.specs.Judging.{LineState, derive_line, is_derived_by}
use Rattle.rup_core.specs.Proving.{ProofState, with_lines}
use Rattle.rup_core.specs.Renaming.{AreKnown, renamed}
use Rattle.refutation_checker.specs.Namings.{Frame, Names, Extends, name_of, new_number, is_named}
use Rattle.refutation_checker.specs.Pairs.{pair_of, existential_part}
use Rattle.refutation_checker.specs.Rows.{row_of}
use Rattle.refutation_checker.specs.Refutation.{normal_literal}

-- a literal on the name of a variable
pub record IsNamed (x : Frame) (n : Names) (v : ℕ) (l m : Literal) : Type 0 where
  pub name : name_of x n v ≡ Some (variable_of m)
  pub same : m ≡ on_variable (variable_of m) l

-- literals on the names of their variables
pub record AreNamed (x : Frame) (n : Names) (literals named : List Literal) : Type 0 where
  pub named_are : named ≡ renamed (new_number x n) literals
  pub known : AreKnown (is_named x n) literals

-- an existential literal, on the number of its pair
abbrev pub on_pair : Frame → List Bool → Literal → Literal
on_pair x row l = on_variable (pair_of x.formula x.rows row (variable_of l)) l

-- those of a clause
abbrev pub pair_part : Frame → List Bool → List Literal → List Literal
pair_part x row clause = map (on_pair x row) (existential_part x.formula clause)

-- whether a literal is a universal one that is true, and else what it adds to the names
abbrev pub IsRead : Frame → Names → List Bool → Literal → List Literal → List Literal → Bool
    → Type 0
IsRead x n row l old new true = universal_literal_true x.formula row l ≡ true
IsRead x n row l old new false =
    (universal_literal_true x.formula row l ≡ false)
    × ((before : List Literal) → AreNamed x n before old
    → AreNamed x n (before ++ pair_part x row (l ∷ [])) new)

-- the clause at one place under the row at another
abbrev pub clause_under : Frame → ℕ × ℕ → Option (List Literal)
clause_under x at =
    instance_clause x.formula x.rows (row_of x.rows at.0) (slice_index_or x.formula.matrix at.1 [])

-- a clause under a row, on names
abbrev pub IsClause : Frame → Names → Option (List Literal) → List Literal → Bool → Type 0
IsClause x n clause named true =
    (literals : List Literal) × ((clause ≡ Some literals) × AreNamed x n literals named)
IsClause x n clause named false = clause ≡ None

-- lines on names
abbrev pub AreLines : Frame → Names → List (ℕ × List Literal) → List (ℕ × List Literal) → Type 0
AreLines x n [] [] = Unit {0}
AreLines x n [] (_ ∷ _) = ⊥
AreLines x n (_ ∷ _) [] = ⊥
AreLines x n (line ∷ lines) (other ∷ others) =
    (other.0 ≡ line.0) × AreNamed x n line.1 other.1 × AreLines x n lines others

abbrev pub clauses_with : Frame → List (ℕ × List Literal) → ℕ → Option (List Literal)
clauses_with x lines id = with_lines (instance_at x.formula x.rows) lines id

abbrev pub normal_literals : Frame → List Literal → List Literal
normal_literals x literals = map (normal_literal x.formula x.rows) literals

-- the clauses on names
abbrev pub named_clause : Frame → Names → List (ℕ × List Literal) → ℕ → Option (List Literal)
named_clause x m lines id = option_map (renamed (new_number x m)) (clauses_with x lines id)

-- ids of lines aren't those of instances
abbrev pub AreBehind : Frame → List (ℕ × List Literal) → Type 0
AreBehind x lines =
    AllByRecursion (λ line. instance_at x.formula x.rows line.0 ≡ None) lines

-- judged by the hints that are left, the line is derived as by all of them, whichever names are
-- given later
abbrev pub HintsLeft : Frame → Names → List (ℕ × List Literal) → List Literal → List ℕ → LineState
    → ℕ → Type 0
HintsLeft x n lines literals hints line i = (m : Names) → Extends x n m
    → is_derived_by line (map (named_clause x m lines) (drop i hints))
    ≡ derive_line (renamed (new_number x m) literals) (map (named_clause x m lines) hints)

-- whether a line is derived, on the pairs themselves
abbrev pub is_line : Frame → List (ℕ × List Literal) → List Literal → List ℕ → Bool
is_line x lines literals hints =
    derive_line (normal_literals x literals) (map (clauses_with x lines) hints)

-- lines are held on names, and all of them are derived
pub record IsHeld (x : Frame) (n : Names) (lines : List (ℕ × List Literal)) (p : ProofState)
    : Type 0 where
  pub lines_are : AreLines x n lines p.lines
  pub going : p.fault ≡ None

-- what a line that was judged leaves
abbrev pub IsJudged : Frame → Names → List (ℕ × List Literal) → ℕ → List Literal → ProofState
    → Bool → Type 0
IsJudged x n lines id literals p true =
    IsHeld x n (lines ++ (id, normal_literals x literals) ∷ []) p × (p.finished ≡ is_empty literals)
IsJudged x n lines id literals p false = p.fault ≡ Some id
