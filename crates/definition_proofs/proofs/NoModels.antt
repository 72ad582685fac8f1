-- Values of the first copies under which gates over them have their values: a definition has the
-- existential's.
use Rattle.std.proofs.Common.{◌≡◌, ℕ, Bool, true, false, not, ◌||◌, ◌&&◌, List, [], ◌∷◌, Some, refl, sym, ◌∙◌, ap, arith}
use Rattle.std.specs.List.{Contains}
use Rattle.std.proofs.lemmas.List.Elements.{Contains-get_or}
use Rattle.list_laws.proofs.Truths.{gate_bit}
use Rattle.dq_lits.specs.Literal.{Assignment, Literal, positive, negative, variable_of, opposite, literal_true, clause_true}
use Rattle.dq_lits.specs.Derivation.{MakesTrue}
use Rattle.dq_lits.specs.Formula.{Dqbf, IsWellFormed, declared}
use Rattle.dq_lits.specs.Henkin.{MatrixHolds}
use Rattle.dq_lits.proofs.Truth.{literal_true-opposite}
use Rattle.dq_lits.proofs.SignedLiterals.{as_positive}
use Rattle.aig_graph.specs.declared.nodes.Node.{Node}
use Rattle.aig_graph.specs.declared.nodes.Node.TheVariants.{Constant, Input, Gate}
use Rattle.aig_graph.specs.Graph.{AigGraph, node_value}
use Rattle.aig_graph.proofs.LargerGraphs.{gate_value_in}
use Rattle.defining_nodes.specs.Definitions.{input_variable}
use Rattle.hint_log.specs.Entries.{Entry, Given, clause_at, name_of}
use Rattle.hint_log.specs.Naming.{round_assignment}
use Rattle.hint_log.specs.declared.names.Name.{Name}
use Rattle.hint_log.specs.declared.names.Name.TheVariants.{Copy as CopyOf, Term}
use Rattle.hint_log.specs.declared.origins.Leaf.{Leaf}
use Rattle.hint_log.specs.declared.origins.Leaf.TheVariants.{Constant as LeafConstant, Literal as LeafLiteral}
use Rattle.hint_log.specs.declared.origins.Origin.{Origin}
use Rattle.hint_log.specs.declared.origins.Origin.TheVariants.{TermGate, Differ}
use Rattle.log_laws.specs.Circuits.{leaf_value}
use Rattle.log_laws.proofs.Found.{named_variable}
use Rattle.definability.specs.Copies.{group_variable, IsDefinability, IsWhole}
use Rattle.oracle.specs.declared.groups.Group.{Group}
use Rattle.definability.specs.Dividing.{values_at}
use Rattle.definability.specs.declared.definability.Definability.{Definability}
use Rattle.definability.proofs.FreePairs.{bits_of_values, given_id, copied_value, matrix_holds}
use Rattle.definability.proofs.SearchAnswers.{found_declared, found_variable}
use Rattle.definition_proofs.specs.Differing.{part_number, differing, IsDifference, HasDifference}
use Rattle.definition_proofs.specs.Leaves.{StandsFor, input, gate, not_input, not_gate, IsLeafFor}
use Rattle.definition_proofs.specs.Proving.{IsDefinedBy}
use Rattle.definition_proofs.specs.Terms.{AreTerms}
use Rattle.definition_proofs.specs.declared.differing.Difference.{Difference}
use Rattle.definition_proofs.specs.declared.terms.Terms.{Terms}

not_both : (b : Bool) → (b || (b || false)) ≡ true → (not b || (not b || false)) ≡ true → ⊥
not_both true one two = cc
not_both false one two = cc

-- an output's clauses are broken where the copy has its value
same_breaks : (values : Assignment) (copy : ℕ) (leaf : Leaf) → values copy ≡ leaf_value values leaf →
    ((second : Bool) (rest : List Literal) → differing copy leaf second ≡ Some rest →
    clause_true values rest ≡ true) → ⊥
same_breaks values copy (LeafConstant true) same parts =
    let h : (not (values copy) || false) ≡ true = parts true (negative copy ∷ []) refl in
    let broken : (not true || false) ≡ true = ap (λ b. not b || false) (sym same) ∙ h in
    cc
same_breaks values copy (LeafConstant false) same parts =
    let h : (values copy || false) ≡ true = parts false (positive copy ∷ []) refl in
    let broken : (false || false) ≡ true = ap (λ b. b || false) (sym same) ∙ h in
    cc
same_breaks values copy (LeafLiteral l) same parts =
    let b = literal_true values l in
    let one : (values copy || (b || false)) ≡ true = parts false (positive copy ∷ l ∷ []) refl in
    let two : (not (values copy) || (literal_true values (opposite l) || false)) ≡ true =
    parts true (negative copy ∷ opposite l ∷ []) refl in
    not_both b (ap (λ x. x || (b || false)) (sym same) ∙ one)
    (ap (λ x. not x || (not b || false)) (sym same) ∙ ap (λ x. not (values copy) || (x || false))
    (sym (literal_true-opposite values l)) ∙ two)

module _ (f : Dqbf) (graph : AigGraph) (p : Definability) (terms : Terms) (es : List Entry) (values : Assignment)
    (formula : IsWellFormed f)
    (unique : (v w : ℕ) (name : Name) → name_of es v ≡ Some name → name_of es w ≡ Some name → v ≡ w)
    (definability : IsDefinability f p es) (whole : IsWhole f p) (known : AreTerms terms es) (live : MakesTrue values (clause_at es))
    (first_on : (g : Group) → Contains p.first.groups.items g → values (group_variable g) ≡ true)
    (terms_on : values (group_variable terms.group) ≡ true) where
  abbrev row : List Bool
  row = values_at values p.first.universals.items

  abbrev bits : List Bool
  bits = values_at values p.first.existentials.items

  abbrev m : Assignment
  m = round_assignment f row bits

  abbrev inputs : ℕ → Bool
  inputs i = m (input_variable f i)

  holds_there : MatrixHolds f m
  holds_there = matrix_holds f es values formula unique live 1 p.copied.items p.first definability.first definability.covered row row
      bits (bits_of_values values p.copied.items p.first.universals.items) refl first_on

  copied : (v w : ℕ) → Contains (declared f) v → name_of es w ≡ Some (CopyOf 1 v) → m v ≡ values w
  copied v w among = copied_value f es values formula unique live 1 p.copied.items p.first definability.first definability.covered row
      row bits (bits_of_values values p.copied.items p.first.universals.items) refl first_on v w among (whole v)

  -- a clause that was given to a group that is active
  given_true : (o : Origin) (group : ℕ) (rest : List Literal) → values group ≡ true →
      Contains es (Given o (negative group ∷ rest)) → clause_true values rest ≡ true
  given_true o group rest on inside =
      let r = given_id es o (negative group ∷ rest) inside in
      sym (ap (λ b. not b || clause_true values rest) on) ∙ live r.0 (negative group ∷ rest) r.2

  term_value : (v : ℕ) (a b : Literal) → name_of es v ≡ Some (Term a b) →
      values v ≡ (literal_true values a && literal_true values b)
  term_value v a b named =
      let clauses = known.clauses v a b named in
      let g = group_variable terms.group in
      let one : (not (values v) || (literal_true values a || false)) ≡ true =
      given_true (TermGate v 1) g (negative v ∷ a ∷ []) terms_on (clauses 1 (negative v ∷ a ∷ []) refl) in
      let two : (not (values v) || (literal_true values b || false)) ≡ true =
      given_true (TermGate v 2) g (negative v ∷ b ∷ []) terms_on (clauses 2 (negative v ∷ b ∷ []) refl) in
      let three : (values v || (literal_true values (opposite a) || (literal_true values (opposite b) || false))) ≡
      true =
      given_true (TermGate v 3) g (positive v ∷ opposite a ∷ opposite b ∷ []) terms_on
      (clauses 3 (positive v ∷ opposite a ∷ opposite b ∷ []) refl) in
      gate_bit (values v) (literal_true values a) (literal_true values b) one two
      (ap (λ x. values v || (x || (not (literal_true values b) || false))) (sym (literal_true-opposite values a))
      ∙ ap (λ x. values v || (literal_true values (opposite a) || (x || false))) (sym (literal_true-opposite values b)) ∙ three)

  literal_value : (n : Node) (l : Literal) → StandsFor f graph es n l →
      literal_true values l ≡ node_value graph inputs n
  literal_value _ _ (input i l below named) =
      let is = named_variable es l (CopyOf 1 (input_variable f i)) false (name_of es (variable_of l)) refl named in
      ap (literal_true values) (as_positive l is.1)
      ∙ sym (copied (input_variable f i) (variable_of l) (Contains-get_or (declared f) i 0 below) is.0)
  literal_value _ _ (gate g v sides a b at are on_left on_right named) =
      term_value v a b named
      ∙ ap (λ x. x && literal_true values b) (literal_value sides.left a on_left)
      ∙ ap (λ x. node_value graph inputs sides.left && x) (literal_value sides.right b on_right)
      ∙ sym (gate_value_in inputs graph.inputs graph.gates g sides are at)
  literal_value _ _ (not_input i l stands) =
      literal_true-opposite values l ∙ ap not (literal_value (Input i false) l stands)
  literal_value _ _ (not_gate g l stands) =
      literal_true-opposite values l ∙ ap not (literal_value (Gate g false) l stands)

  leaf_is_value : (n : Node) (leaf : Leaf) → IsLeafFor f graph es n leaf →
      leaf_value values leaf ≡ node_value graph inputs n
  leaf_is_value (Constant b) leaf is = ap (leaf_value values) is
  leaf_is_value e leaf (l, is, stands) = ap (leaf_value values) is ∙ literal_value e l stands

  module _ (d : Difference) (group : ℕ) (node : Node) (difference : IsDifference es d)
      (given : HasDifference es group d) (leaf : IsLeafFor f graph es node d.output)
      (defined : IsDefinedBy f graph d.existential node) (differ_on : values group ≡ true) where
    own_value : m d.existential ≡ node_value graph inputs node
    own_value = ap m (sym (found_variable f d.existential defined.existential defined.found))
        ∙ defined.definition.defines m holds_there

    own_declared : Contains (declared f) d.existential
    own_declared = search (arith, found_variable, found_declared)

    copy_value : values (variable_of d.copy) ≡ leaf_value values d.output
    copy_value = sym (copied d.existential (variable_of d.copy) own_declared difference.copy_is) ∙ own_value
        ∙ sym (leaf_is_value node d.output leaf)

    pub no_values : ⊥
    no_values = same_breaks values (variable_of d.copy) d.output copy_value (λ second rest is.
        given_true (Differ d.existential d.output (part_number second)) group rest differ_on (given second rest is))
