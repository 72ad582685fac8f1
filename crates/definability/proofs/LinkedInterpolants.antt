-- From an interpolant between two linked copies to a definition.
use Rattle.std.proofs.Common.{◌≡◌, ◌⊎◌, ℕ, Bool, true, false, not, cond, ◌||◌, inl, inr, List, [], ◌∷◌, map, Some, refl, sym, ◌∙◌, ap, subst, arith}
use Rattle.std.specs.List.{All, Contains, list_any}
use Rattle.std.proofs.lemmas.Bool.{cases_Bool, or_right, not-true}
use Rattle.std.proofs.lemmas.List.Elements.{All-push, All-contains}
use Rattle.dq_lits.specs.Literal.{Assignment, Literal, positive, negative, variable_of, is_negative, literal_true, clause_true}
use Rattle.dq_lits.specs.Formula.{Dqbf}
use Rattle.dq_lits.specs.Henkin.{MatrixHolds}
use Rattle.dq_lits.proofs.HeldLiterals.{held_of_all}
use Rattle.hint_log.specs.Entries.{Entry}
use Rattle.hint_log.specs.Naming.{NamedLiteral, named_literal, name_literal, AreNamedAs}
use Rattle.hint_log.specs.Origins.{link_names}
use Rattle.hint_log.specs.declared.names.Name.TheVariants.{Copy as CopyOf}
use Rattle.defining_nodes.specs.Definitions.{input_variable}
use Rattle.aig_graph.specs.Graph.{AigGraph, node_value}
use Rattle.aig_graph.specs.declared.nodes.Node.{Node}
use Rattle.interpolants.specs.Interpolant.{Partition, SideHolds, Agrees, is_on_a, IsInterpolant}
use Rattle.log_laws.proofs.Found.{named_variable}
use Rattle.definability.specs.Copies.{copy_names, IsCopyGiven}
use Rattle.definability.specs.Defining.{DefinitionsAreForced}
use Rattle.definability.specs.Ruling.{copy_value, value_by, copied_assignment}
use Rattle.definability.specs.Dividing.{asked_of, IsLinkGiven, IsSelectorLiteral, IsCopyLiteral, Divides, AreSharedCopies, IsDefinitionAt}

abbrev pub signed : Bool → Bool → Bool
signed negated b = cond negated (not b) b

abbrev pub named_true : Assignment → NamedLiteral → Bool
named_true m n = signed n.negated (copy_value m n.name)

pub literal_signed : (p : Assignment) (k : Literal) → literal_true p k ≡ signed (is_negative k) (p (variable_of k))
literal_signed p (positive v) = refl
literal_signed p (negative v) = refl

-- a named literal has its name's value
pub named_is : (entries : List Entry) (m : Assignment) (k : Literal) (n : NamedLiteral) →
    name_literal entries k ≡ Some n → literal_true (copied_assignment entries m) k ≡ named_true m n
named_is entries m k n is = search (arith, named_variable, literal_signed)

named_clause : (entries : List Entry) (m : Assignment) (ks : List Literal) (ns : List NamedLiteral) →
    AreNamedAs entries ks ns →
    clause_true (copied_assignment entries m) ks ≡ list_any (named_true m) ns
named_clause entries m [] [] are = refl
named_clause entries m [] (n ∷ ns) are = cc
named_clause entries m (k ∷ ks) [] are = cc
named_clause entries m (k ∷ ks) (n ∷ ns) are =
    let here : name_literal entries k ≡ Some n = cc in
    let later : map (name_literal entries) ks ≡ map Some ns = cc in
    ap (λ b. b || clause_true (copied_assignment entries m) ks) (named_is entries m k n here) ∙ ap
    (λ b. named_true m n || b) (named_clause entries m ks ns later)

copies_true : (m : Assignment) (side : ℕ) (ls : List Literal) →
    list_any (named_true m) (copy_names side ls) ≡ clause_true m ls
copies_true m side [] = refl
copies_true m side (l ∷ ls) = search (arith, literal_signed, (copies_true m side ls))

-- every given clause is true where the matrix is
pub copy_given_true : (entries : List Entry) (f : Dqbf) (side : ℕ) (m : Assignment) (clause : List Literal) →
    MatrixHolds f m → IsCopyGiven entries f side clause →
    clause_true (copied_assignment entries m) clause ≡ true
copy_given_true entries f side m clause holds_there given =
    let p = copied_assignment entries m in
    let original = All-contains (λ c. clause_true m c ≡ true) f.matrix given.original holds_there given.original_is in
    ap (clause_true p) given.clause_is
    ∙ or_right (literal_true p (negative given.group)) (clause_true p given.rest)
    (named_clause entries m given.rest (copy_names side given.original) given.copied ∙ copies_true m side given.original
    ∙ original)

either : (b : Bool) → (not b || (b || false)) ≡ true
either true = refl
either false = refl

either_back : (b : Bool) → (b || (not b || false)) ≡ true
either_back true = refl
either_back false = refl

link_true : (m : Assignment) (x i : ℕ) → (i ≡ 1) ⊎ (i ≡ 2) → list_any (named_true m) (link_names x i) ≡ true
link_true m x i (inl one) = ap (λ k. list_any (named_true m) (link_names x k)) one ∙ either (m x)
link_true m x i (inr two) = ap (λ k. list_any (named_true m) (link_names x k)) two ∙ either_back (m x)

link_given_true : (entries : List Entry) (f : Dqbf) (places : List ℕ) (m : Assignment) (clause : List Literal) →
    IsLinkGiven entries f places clause → clause_true (copied_assignment entries m) clause ≡ true
link_given_true entries f places m clause given =
    let p = copied_assignment entries m in
    ap (clause_true p) given.clause_is
    ∙ or_right (literal_true p (negative given.group)) (clause_true p given.rest)
    (named_clause entries m given.rest (link_names given.variable given.part) given.named
    ∙ link_true m given.variable given.part given.which)

module _ (q : Partition) (f : Dqbf) (places : List ℕ) (v : ℕ) (conditions : List Literal) (graph : AigGraph)
    (divides : Divides f places v conditions q)
    (shared : AreSharedCopies f places q.entries graph q.shared) where
  side_true : (m : Assignment) (side : Bool) → MatrixHolds f m → SideHolds q side (copied_assignment q.entries m)
  side_true m side holds_there at clause given on_side =
      elim (cases_Bool (is_on_a q clause)) [
        | inl on_a ↦ copy_given_true q.entries f 1 m clause holds_there (divides.a_given at clause given on_a)
        | inr on_b ↦ elim (divides.b_given at clause given on_b) [
          | inl copy ↦ copy_given_true q.entries f 2 m clause holds_there copy
          | inr link ↦ link_given_true q.entries f places m clause link
        ]
      ]

  shared_agree : (m : Assignment) → Agrees q.shared graph (λ i. m (input_variable f i)) (copied_assignment q.entries m)
  shared_agree m w n is =
      let s = shared.are w n is in
      s.value (λ i. m (input_variable f i)) ∙ sym (ap (value_by m) s.named)

  selector_true : (m : Assignment) (l : Literal) → IsSelectorLiteral q.entries l →
      literal_true (copied_assignment q.entries m) l ≡ true
  selector_true m l (g, is, named) = ap (literal_true (copied_assignment q.entries m)) is ∙ ap (value_by m) named

  -- a copy of a literal that is true is true
  copy_true : (m : Assignment) (side : ℕ) (originals : List Literal) → All (λ l. literal_true m l ≡ true) originals →
      (l : Literal) → IsCopyLiteral q.entries side originals l →
      literal_true (copied_assignment q.entries m) l ≡ true
  copy_true m side originals all l copy =
      let k = copy.original in
      named_is q.entries m l (named_literal (CopyOf side (variable_of k)) (is_negative k)) copy.named ∙ sym
      (literal_signed m k) ∙ held_of_all (λ o. literal_true m o ≡ true) originals all k copy.among

  pub interpolant_defines : (node : Node) → IsInterpolant q graph node → IsDefinitionAt f places v conditions graph node
  interpolant_defines node is = record {
    is_node = is.is_node;
    reads = λ i among.
        let s = is.reads i among in
        let t = shared.are s.variable s.node s.node_is in
        subst (Contains places) (sym (t.support i s.reads)) t.read;
    defines = λ m holds_there meets.
        let p = copied_assignment q.entries m in
        let agrees = shared_agree m in
        let inputs : ℕ → Bool = λ i. m (input_variable f i) in
        let is_true_there = λ (l : Literal). literal_true m l ≡ true in
        elim (cases_Bool (m v)) [
          | inl is_true ↦
              is_true ∙ sym (is.follows inputs p agrees (side_true m true holds_there) (λ l h.
              elim (divides.assumed l h) [
                | inl selector ↦ selector_true m l selector
                | inr copy ↦ copy_true m 1 (asked_of conditions (positive v))
                    (All-push is_true_there conditions (positive v) meets is_true) l copy
              ]))
          | inr is_false ↦
              is_false ∙ sym (not-true (node_value graph inputs node)
              (is_not (node_value graph inputs node) (is.contradicts inputs p agrees
              (side_true m false holds_there) (λ l h.
              elim (divides.others l h) [
                | inl selector ↦ selector_true m l selector
                | inr copy ↦ copy_true m 2 (asked_of conditions (negative v))
                    (All-push is_true_there conditions (negative v) meets (ap not is_false)) l copy
              ]))))
        ];
  }
    where
      is_not : (b : Bool) → (b ≡ true → ⊥) → not b ≡ true
      is_not true h = absurd (h refl)
      is_not false h = refl

pub definitions_forced : DefinitionsAreForced
definitions_forced f ranks graph y node is choice solves m follows = is.defines m (solves m follows)
