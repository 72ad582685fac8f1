-- An answer of a log that shows a definition of an existential (A. Padoa, 1900; E. Beth, 1953): it
-- rests on the first copy of the matrix, on gates over first copies, and on clauses by which the
-- copy of the existential and an output over first copies differ.
use Rattle.std.specs.Prelude.{◌≡◌, ℕ, true, List, ◌∷◌, Some}
use Rattle.dq_lits.specs.Formula.{Dqbf}
use Rattle.dq_lits.specs.Literal.{Literal, variable_of}
use Rattle.dq_formula.specs.Prefix.{is_declared}
use Rattle.hint_log.specs.Deciding.{AreNegatedSelectors, ReachesGiven}
use Rattle.hint_log.specs.Entries.{Entry, Answer, last_id, name_of}
use Rattle.hint_log.specs.Origins.{IsTermLeaf}
use Rattle.hint_log.specs.declared.names.Name.TheVariants.{Copy as CopyOf, Term}
use Rattle.hint_log.specs.declared.origins.Leaf.{Leaf}
use Rattle.hint_log.specs.declared.origins.Leaf.TheVariants.{Constant, Literal as LeafLiteral}
use Rattle.hint_log.specs.declared.origins.Origin.{Origin}
use Rattle.hint_log.specs.declared.origins.Origin.TheVariants.{Copy, TermGate, Differ}

-- the variables whose first copies a literal reaches through gates over first copies
pub data ReadsCopy (entries : List Entry) : Literal → ℕ → Type 0 where
  itself : (l : Literal) (x : ℕ) → name_of entries (variable_of l) ≡ Some (CopyOf 1 x)
      → ReadsCopy entries l x
  left : (l a b : Literal) (x : ℕ) → name_of entries (variable_of l) ≡ Some (Term a b)
      → ReadsCopy entries a x → ReadsCopy entries l x
  right : (l a b : Literal) (x : ℕ) → name_of entries (variable_of l) ≡ Some (Term a b)
      → ReadsCopy entries b x → ReadsCopy entries l x

abbrev pub TermLeafReads : List Entry → Leaf → ℕ → Type 0
TermLeafReads entries (Constant b) x = ⊥
TermLeafReads entries (LeafLiteral l) x = ReadsCopy entries l x

-- where the literal stands on a first copy, it is that of a declared variable
abbrev pub IsDeclaredCopy : Dqbf → List Entry → Literal → Type 0
IsDeclaredCopy f entries l =
    (x : ℕ) → name_of entries (variable_of l) ≡ Some (CopyOf 1 x) → is_declared f x ≡ true

-- all that gates over first copies read directly
abbrev pub ReadDeclaredCopies : Dqbf → List Entry → Type 0
ReadDeclaredCopies f entries =
    (v : ℕ) (a b : Literal) → name_of entries v ≡ Some (Term a b)
    → IsDeclaredCopy f entries a × IsDeclaredCopy f entries b

abbrev pub IsLeafDeclared : Dqbf → List Entry → Leaf → Type 0
IsLeafDeclared f entries (Constant b) = Unit {0}
IsLeafDeclared f entries (LeafLiteral l) = IsDeclaredCopy f entries l

-- a clause of the first copy, of a gate over it, or by which the existential and the output differ
abbrev pub IsDefinitionGiven : ℕ → Leaf → Origin → Type 0
IsDefinitionGiven y leaf (Copy side j) = side ≡ 1
IsDefinitionGiven y leaf (TermGate v i) = Unit {0}
IsDefinitionGiven y leaf (Differ x out part) = (x ≡ y) × (out ≡ leaf)
IsDefinitionGiven y leaf _ = ⊥

-- the log's last entry is an answer, of this id, that rests on such clauses alone
pub record IsShownDefinition (entries : List Entry) (y : ℕ) (leaf : Leaf) (id : ℕ) : Type 0 where
  pub clause : List Literal
  pub hints : List ℕ
  pub earlier : List Entry
  pub answered : entries ≡ Answer clause hints ∷ earlier
  pub last : id ≡ last_id entries
  pub selectors : AreNegatedSelectors earlier clause
  pub leaf_is : IsTermLeaf earlier leaf
  pub rests : (origin : Origin) (c : List Literal) → ReachesGiven earlier hints origin c
      → IsDefinitionGiven y leaf origin
