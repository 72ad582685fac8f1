-- Gates over first copies read copies of declared variables.
use Rattle.std.proofs.Common.{◌≡◌, ◌<◌, ℕ, length, List, ◌∷◌, true, false, Some, sym, ◌∙◌, ap, subst, arith}
use Rattle.std.proofs.lemmas.Bool.{eq-eqb}
use Rattle.std.proofs.lemmas.List.Folds.{list_any_at}
use Rattle.dq_lits.specs.Literal.{Literal}
use Rattle.dq_lits.specs.Formula.{Dqbf, declared}
use Rattle.dq_lits.proofs.SignedLiterals.{opposite_variable}
use Rattle.dq_formula.specs.Prefix.{is_declared}
use Rattle.aig_graph.specs.declared.nodes.Node.{Node}
use Rattle.aig_graph.specs.declared.nodes.Node.TheVariants.{Constant, Input, Gate}
use Rattle.aig_graph.specs.Graph.{AigGraph}
use Rattle.defining_nodes.specs.Definitions.{input_variable}
use Rattle.hint_log.specs.Entries.{Entry, Named, name_of}
use Rattle.hint_log.specs.declared.names.Name.TheVariants.{Copy as CopyOf, Selector, Term}
use Rattle.hint_log.specs.declared.origins.Leaf.{Leaf}
use Rattle.log_laws.proofs.Found.{named_variable}
use Rattle.log_laws.proofs.Kept.{name_cases}
use Rattle.definability.specs.Growing.{HasSameGivens}
use Rattle.definition_proofs.specs.Differing.{LeavesTerms}
use Rattle.definition_proofs.specs.Leaves.{StandsFor, IsLeafFor, input, gate, not_input, not_gate}
use Rattle.definition_proofs.specs.Shown.{IsDeclaredCopy, ReadDeclaredCopies, IsLeafDeclared}
use Rattle.definition_proofs.specs.Terms.{HasNoTerms}

input_declared : (f : Dqbf) (i : ℕ) → i < length (declared f) → is_declared f (input_variable f i) ≡ true
input_declared f i within = search (arith, list_any_at, eq-eqb)

-- what stands for a node is no copy, or that of a declared variable
pub stands_declared : (f : Dqbf) (graph : AigGraph) (es : List Entry) (n : Node) (l : Literal) →
    StandsFor f graph es n l → IsDeclaredCopy f es l
stands_declared f graph es _ _ (input i l within named) x is = search (arith, named_variable, input_declared)
stands_declared f graph es _ _ (gate g v sides a b at are first second named) x is = search arith
stands_declared f graph es _ _ (not_input i l stands) x is =
    stands_declared f graph es (Input i false) l stands x (sym (ap (name_of es) (opposite_variable l)) ∙ is)
stands_declared f graph es _ _ (not_gate g l stands) x is =
    stands_declared f graph es (Gate g false) l stands x (sym (ap (name_of es) (opposite_variable l)) ∙ is)

pub leaf_declared : (f : Dqbf) (graph : AigGraph) (es : List Entry) (n : Node) (output : Leaf) →
    IsLeafFor f graph es n output → IsLeafDeclared f es output
leaf_declared f graph es (Constant b) output is = subst (IsLeafDeclared f es) (sym is) tt
leaf_declared f graph es e output (l, is, stands) =
    subst (IsLeafDeclared f es) (sym is) (stands_declared f graph es e l stands)

-- what names no gate and no copy leaves it so
pub copies_before : (f : Dqbf) (old new : List Entry) →
    ((v : ℕ) (a b : Literal) → name_of new v ≡ Some (Term a b) → name_of old v ≡ Some (Term a b)) →
    ((v x : ℕ) → name_of new v ≡ Some (CopyOf 1 x) → name_of old v ≡ Some (CopyOf 1 x)) → ReadDeclaredCopies f old →
    ReadDeclaredCopies f new
copies_before f old new terms copies sides v a b named = search arith

pub leaves_sides : (f : Dqbf) (group : ℕ) (old new : List Entry) → LeavesTerms group old new →
    ReadDeclaredCopies f old → ReadDeclaredCopies f new
leaves_sides f group old new leaves = copies_before f old new leaves.terms leaves.copies

pub same_sides : (f : Dqbf) (old new : List Entry) → HasSameGivens old new → ReadDeclaredCopies f old →
    ReadDeclaredCopies f new
same_sides f old new same = search (arith, copies_before)

-- a gate more, over no copies or those of declared variables
pub gate_sides : (f : Dqbf) (old new : List Entry) (v : ℕ) (a b : Literal) →
    ((w : ℕ) → name_of new w ≡ name_of (Named v (Term a b) ∷ old) w) → ReadDeclaredCopies f old →
    IsDeclaredCopy f old a → IsDeclaredCopy f old b → ReadDeclaredCopies f new
gate_sides f old new v a b names sides left right w c d named = search (arith, name_cases)

-- no gate yet
pub no_sides : (f : Dqbf) (old new : List Entry) (g : ℕ) → HasNoTerms old → new ≡ Named g (Selector g) ∷ old →
    ReadDeclaredCopies f new
no_sides f old new g none is v a b named = search (arith, name_cases)
