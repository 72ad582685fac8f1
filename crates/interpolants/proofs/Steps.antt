-- Interpolants as they are built, literal by literal and link by link.
use Rattle.std.proofs.Common.{◌≡◌, ℕ, Bool, true, false, not, ◌||◌, ◌&&◌, List, [], ◌∷◌, ◌++◌, Option, Some, None, refl, sym, ◌∙◌, ap, arith}
use Rattle.std.specs.Option.{is_some}
use Rattle.std.specs.List.{list_any, list_all}
use Rattle.std.proofs.lemmas.List.Folds.{list_any-append, list_all-append}
use Rattle.list_laws.proofs.Truths.{last}
use Rattle.dq_lits.specs.Literal.{Assignment, Literal, variable_of, opposite, literal_true}
use Rattle.dq_lits.specs.Derivation.{holds}
use Rattle.aig_graph.specs.Graph.{AigGraph, node_value, node_support}
use Rattle.aig_graph.specs.Made.{Extends, IsMade}
use Rattle.interpolants.specs.Interpolant.{node_of, Agrees, AreNodes, ReadsShared}
use Rattle.interpolants.specs.Parts.{is_true_shared, IsSharedPart, is_asked_true, IsAsked}
use Rattle.aig_graph.specs.declared.nodes.Node.{Node}
use Rattle.interpolants.proofs.PartialInterpolants.{agrees_before, reads_made}

and_true : (b : Bool) → (b && true) ≡ b
and_true true = refl
and_true false = refl

and_assoc : (a b c : Bool) → ((a && b) && c) ≡ (a && (b && c))
and_assoc true b c = refl
and_assoc false b c = refl

-- a literal on a shared variable, and its node
pub record IsLiteralNode (shared : List (ℕ × Node)) (g : AigGraph) (l : Literal) (n lit : Node) : Type 0 where
  pub node_is : node_of shared (variable_of l) ≡ Some n
  pub value : (inputs : ℕ → Bool) (m : Assignment) → node_value g inputs n ≡ m (variable_of l) →
      node_value g inputs lit ≡ literal_true m l
  pub support : node_support g lit ≡ node_support g n

literal_value : (shared : List (ℕ × Node)) (g : AigGraph) (l : Literal) (n lit : Node) →
    IsLiteralNode shared g l n lit → (inputs : ℕ → Bool) (m : Assignment) →
    Agrees shared g inputs m → node_value g inputs lit ≡ literal_true m l
literal_value shared g l n lit is inputs m agrees = is.value inputs m (agrees (variable_of l) n is.node_is)

literal_reads : (shared : List (ℕ × Node)) (g : AigGraph) (l : Literal) (n lit : Node) →
    IsLiteralNode shared g l n lit → ReadsShared shared g lit
literal_reads shared g l n lit is i has = search arith

pub shared_more : (shared : List (ℕ × Node)) (old new : AigGraph) (clause : List Literal) (l : Literal)
    (node n lit made : Node) → Extends old new → AreNodes shared old →
    IsLiteralNode shared old l n lit → IsMade (λ x y. x || y) old new node lit made →
    IsSharedPart shared old clause node →
    IsSharedPart shared new (clause ++ l ∷ []) made
shared_more shared old new clause l node n lit made e nodes is or part = record {
  is_node = or.is_node;
  value = λ inputs m agrees.
      let before = agrees_before shared old new e nodes inputs m agrees in
      or.value inputs ∙ ap (λ b. b || node_value old inputs lit) (part.value inputs m before)
      ∙ ap (λ b. list_any (is_true_shared shared m) clause || b)
      (literal_value shared old l n lit is inputs m before ∙ sym (ap (λ o. is_some o && literal_true m l) is.node_is)
      ∙ sym (last (is_true_shared shared m l)))
      ∙ sym (list_any-append (is_true_shared shared m) clause (l ∷ []));
  reads = reads_made shared old new (λ x y. x || y) node lit made e nodes part.reads
      (literal_reads shared old l n lit is) or;
}

pub shared_past : (shared : List (ℕ × Node)) (g : AigGraph) (clause : List Literal) (l : Literal) (node : Node) →
    node_of shared (variable_of l) ≡ None →
    IsSharedPart shared g clause node → IsSharedPart shared g (clause ++ l ∷ []) node
shared_past shared g clause l node none part = record {
  is_node = part.is_node;
  value = λ inputs m agrees.
      part.value inputs m agrees ∙ sym (last (list_any (is_true_shared shared m) clause))
      ∙ ap (λ b. list_any (is_true_shared shared m) clause || b)
      (sym (ap (λ o. (is_some o && literal_true m l) || false) none))
      ∙ sym (list_any-append (is_true_shared shared m) clause (l ∷ []));
  reads = part.reads;
}

asked_here : (a : Bool) (o : Option Node) (n : Node) (t : Bool) → a ≡ true → o ≡ Some n →
    ((not (a && is_some o) || t) && true) ≡ t
asked_here true None n t h is = cc
asked_here true (Some k) n t h is = and_true t
asked_here false o n t h is = cc

asked_not : (a s t : Bool) → (a && s) ≡ false → ((not (a && s) || t) && true) ≡ true
asked_not a s t h = ap (λ b. (not b || t) && true) h

pub asked_more : (shared : List (ℕ × Node)) (a_side clause : List Literal) (first old new : AigGraph) (l : Literal)
    (p node n lit made : Node) → Extends old new → AreNodes shared old →
    holds a_side (opposite l) ≡ true → node_of shared (variable_of l) ≡ Some n →
    IsLiteralNode shared old (opposite l) n lit → IsMade (λ x y. x && y) old new node lit made →
    IsAsked shared a_side clause first old p node → IsAsked shared a_side (clause ++ l ∷ []) first new p made
asked_more shared a_side clause first old new l p node n lit made e nodes of_side found is and part = record {
  is_node = and.is_node;
  value = λ inputs m agrees.
      let before = agrees_before shared old new e nodes inputs m agrees in
      and.value inputs ∙ ap (λ b. b && node_value old inputs lit) (part.value inputs m before)
      ∙ and_assoc (node_value first inputs p) (list_all (is_asked_true shared a_side m) clause)
      (node_value old inputs lit)
      ∙ ap (λ b. node_value first inputs p && b)
      (ap (λ b. list_all (is_asked_true shared a_side m) clause && b)
      (literal_value shared old (opposite l) n lit is inputs m before
      ∙ sym (asked_here (holds a_side (opposite l)) (node_of shared (variable_of l)) n
      (literal_true m (opposite l)) of_side found))
      ∙ sym (list_all-append (is_asked_true shared a_side m) clause (l ∷ [])));
  reads = reads_made shared old new (λ x y. x && y) node lit made e nodes part.reads
      (literal_reads shared old (opposite l) n lit is) and;
}

pub asked_past : (shared : List (ℕ × Node)) (a_side clause : List Literal) (first g : AigGraph) (l : Literal)
    (p node : Node) →
    (holds a_side (opposite l) && is_some (node_of shared (variable_of l))) ≡ false →
    IsAsked shared a_side clause first g p node → IsAsked shared a_side (clause ++ l ∷ []) first g p node
asked_past shared a_side clause first g l p node none part = record {
  is_node = part.is_node;
  value = λ inputs m agrees.
      part.value inputs m agrees
      ∙ ap (λ b. node_value first inputs p && b)
      (sym (and_true (list_all (is_asked_true shared a_side m) clause))
      ∙ ap (λ b. list_all (is_asked_true shared a_side m) clause && b)
      (sym (asked_not (holds a_side (opposite l)) (is_some (node_of shared (variable_of l)))
      (literal_true m (opposite l)) none))
      ∙ sym (list_all-append (is_asked_true shared a_side m) clause (l ∷ [])));
  reads = part.reads;
}
