-- Blocks that are right.
use Rattle.std.proofs.Common.{◌≡◌, ◌+◌, ◌<◌, ◌≤◌, ◌^◌, ◌==◌, ◌||◌, ℕ, Bool, true, false, not, cond, inl, inr, List, [], ◌∷◌, ◌++◌, length, None, Some, refl, sym, ◌∙◌, ap, subst, true≢false, arith}
use Rattle.std.specs.List.{All, Contains, list_any}
use Rattle.std.proofs.lemmas.List.Elements.{All-contains, All-nil, All-cons}
use Rattle.dq_lits.specs.Formula.{Dqbf, Existential, existential_of}
use Rattle.dq_lits.specs.Henkin.{MatrixHolds}
use Rattle.dq_lits.specs.Literal.{Assignment, Literal, positive, negative, literal_true}
use Rattle.dq_lits.specs.Row.{assignment_of}
use Rattle.dq_formula.specs.Prefix.{existential_variables}
use Rattle.aig_graph.specs.Graph.{AigGraph}
use Rattle.aig_graph.specs.declared.nodes.Node.{Node}
use Rattle.circuit_plain.specs.declared.circuits.Gate.{Gate}
use Rattle.cert_text.specs.AllowedDefinitions.{AreGatesFrom, IsValuationOf}
use Rattle.cert_text.specs.DefinitionBlocks.{Definition, DefinitionBlock, FreePair, Valuation, defined, free}
use Rattle.cert_text.specs.DefinitionsWritten.{IsSmallBlock}
use Rattle.cert_text.specs.Header.{max_count}
use Rattle.hint_log.specs.Entries.{Entry}
use Rattle.hint_log.specs.Naming.{by_universality, round_assignment}
use Rattle.hint_log.specs.declared.origins.Leaf.{Leaf}
use Rattle.defining_nodes.specs.Definitions.{IsDefinition, defining_output}
use Rattle.definition_order.specs.Order.{MayRead}
use Rattle.defined_checker.specs.FreePairs.{valuation_assignment}
use Rattle.defined_checker.specs.Judging.{AreJudged, IsJudged, ReadsItsOwn, defines, separates}
use Rattle.definability.specs.Defining.{IsFreePair as ArePair}
use Rattle.definability.specs.declared.defining.Pair.{Pair}
use Rattle.definition_proofs.specs.Shown.{TermLeafReads}
use Rattle.definition_export.specs.Exporting.{IsExportedDefinition}
use Rattle.definition_search.specs.Texts.{AreRightBlocks}
use Rattle.dq_lits.proofs.TrueClauses.{clause_same}

-- a block more
pub block_more : (f : Dqbf) (ys : List ℕ) (y : ℕ) (blocks : List DefinitionBlock) (block : DefinitionBlock) →
    AreRightBlocks f ys blocks → AreRightBlocks f (y ∷ []) (block ∷ []) →
    AreRightBlocks f (ys ++ y ∷ []) (blocks ++ block ∷ [])
block_more f [] y [] block before one = one
block_more f [] y (b ∷ blocks) block before one = absurd before.each
block_more f (x ∷ ys) y [] block before one = absurd before.each
block_more f (x ∷ ys) y (b ∷ blocks) block before one =
    let first = judged_first f b blocks before.judged in
    let later = block_more f ys y blocks block
    (record { each = before.each.1; few = before.few.1; judged = first.1 }) one in
    record {
      each = (before.each.0, later.each);
      few = (before.few.0, later.few);
      judged = inl (first.0, later.judged);
    } where
      judged_first : (f : Dqbf) (b : DefinitionBlock) (blocks : List DefinitionBlock) → AreJudged f (b ∷ blocks) None →
          IsJudged f b None × AreJudged f blocks None
      judged_first f b blocks judged = elim judged [
        | inl both ↦ both
        | inr fault ↦ (let both : None ≡ Some fault.0 = fault.1.1 in cc)
      ]

-- an assignment of the declared variables, and a row with values
split_bits : (us es : List ℕ) (row values : List Bool) (v : ℕ) → length row ≡ length us →
    by_universality (list_any (λ u. u == v) us) (assignment_of us row v) (assignment_of es values v)
    ≡ assignment_of (us ++ es) (row ++ values) v
split_bits [] es [] values v long = refl
split_bits [] es (b ∷ row) values v long = cc
split_bits (u ∷ us) es [] values v long = cc
split_bits (u ∷ us) es (b ∷ row) values v long =
    by_bit (split_bits us es row values v (omega (arith, long))) (u == v) where
      by_bit : by_universality (list_any (λ u. u == v) us) (assignment_of us row v) (assignment_of es values v)
          ≡ assignment_of (us ++ es) (row ++ values) v → (c : Bool) →
          by_universality (c || list_any (λ u. u == v) us) (cond c b (assignment_of us row v)) (assignment_of es values v)
          ≡ cond c b (assignment_of (us ++ es) (row ++ values) v)
      by_bit rest true = refl
      by_bit rest false = rest

abbrev pub valuation : List Bool → List Bool → Valuation
valuation row values = record { row = row; values = values }

sample_bits : (f : Dqbf) (row values : List Bool) (v : ℕ) → length row ≡ length f.universals →
    round_assignment f row values v ≡ valuation_assignment f (valuation row values) v
sample_bits f row values v long = split_bits f.universals (existential_variables f) row values v long

literal_same : (m n : Assignment) → ((v : ℕ) → m v ≡ n v) → (l : Literal) → literal_true m l ≡ literal_true n l
literal_same m n same (positive v) = same v
literal_same m n same (negative v) = ap not (same v)

matrix_same : (f : Dqbf) (m n : Assignment) → ((v : ℕ) → m v ≡ n v) → MatrixHolds f m → MatrixHolds f n
matrix_same f m n same holds k d within =
    sym (clause_same m n _ same) ∙ holds k d within

-- a pair that shows that an existential has no definition
pub pair_right : (f : Dqbf) (y : Existential) (variable : ℕ) (pair : Pair) (p : FreePair) →
    existential_of f variable ≡ Some y → y.variable ≡ variable → ArePair f [] y pair → p.existential ≡ variable →
    p.first ≡ valuation pair.row1 pair.values1 → p.second ≡ valuation pair.row2 pair.values2 →
    AreRightBlocks f (variable ∷ []) (free p ∷ [])
pair_right f y variable pair p found variable_is is own first_is second_is = record {
  each = (
    (
      own,
      (
        subst (IsValuationOf f) (sym first_is) (record { row = is.first.row_length; values = is.first.values_length }),
        subst (IsValuationOf f) (sym second_is) (record { row = is.second.row_length; values = is.second.values_length }),
      ),
    ),
    tt,
  );
  few = (tt, tt);
  judged = inl (
    separates {p = p} {y = y} (ap (existential_of f) own ∙ found) (record {
      first = subst (λ v. MatrixHolds f (valuation_assignment f v)) (sym first_is)
          (matrix_same f _ _ one is.first.holds_there);
      second = subst (λ v. MatrixHolds f (valuation_assignment f v)) (sym second_is)
          (matrix_same f _ _ other is.second.holds_there);
      alike = λ v may. at_first v ∙ is.agree v may ∙ sym (at_second v);
      apart = λ same. true≢false (sym (value_first) ∙ same ∙ value_second);
    }),
    refl,
  );
} where
  one : (v : ℕ) → round_assignment f pair.row1 pair.values1 v
      ≡ valuation_assignment f (valuation pair.row1 pair.values1) v
  one v = sample_bits f pair.row1 pair.values1 v is.first.row_length

  other : (v : ℕ) → round_assignment f pair.row2 pair.values2 v
      ≡ valuation_assignment f (valuation pair.row2 pair.values2) v
  other v = sample_bits f pair.row2 pair.values2 v is.second.row_length

  at_first : (v : ℕ) → valuation_assignment f p.first v ≡ round_assignment f pair.row1 pair.values1 v
  at_first v = ap (λ x. valuation_assignment f x v) first_is ∙ sym (one v)

  at_second : (v : ℕ) → valuation_assignment f p.second v ≡ round_assignment f pair.row2 pair.values2 v
  at_second v = ap (λ x. valuation_assignment f x v) second_is ∙ sym (other v)

  value_first : valuation_assignment f p.first p.existential ≡ true
  value_first = at_first p.existential ∙ ap (round_assignment f pair.row1 pair.values1) (own ∙ sym variable_is)
      ∙ is.is_true

  value_second : valuation_assignment f p.second p.existential ≡ false
  value_second = at_second p.existential ∙ ap (round_assignment f pair.row2 pair.values2) (own ∙ sym variable_is)
      ∙ is.is_false

-- a definition that was exported
pub definition_right : (f : Dqbf) (y : Existential) (variable : ℕ) (graph : AigGraph) (node : Node)
    (entries : List Entry) (leaf : Leaf) (d : Definition) → existential_of f variable ≡ Some y →
    IsDefinition f [] graph y node →
    ((v : ℕ) → TermLeafReads entries leaf v → Contains (defining_output f graph node).support v) →
    IsExportedDefinition f entries variable leaf d → length d.gates ≤ max_count → length d.steps ≤ max_count →
    AreRightBlocks f (variable ∷ []) (defined d ∷ [])
definition_right f y variable graph node entries leaf d found is reads exported gates steps = record {
  each = ((exported.existential, exported.allowed gates), tt);
  few = (steps, tt);
  judged = inl (defines {d = d} {y = y} (ap (existential_of f) exported.existential ∙ found) own exported.proved, refl);
} where
  own : ReadsItsOwn f y d
  own v foreign = foreign.foreign (All-contains (MayRead f [] y) (defining_output f graph node).support v is.reads
      (reads v (exported.reads v foreign.read)))

-- the variables of such blocks are few
gates_small : (f : Dqbf) (variable : ℕ) (gates : List Gate) → AreGatesFrom f variable gates →
    variable + length gates < 2 ^ 63 → All (λ g. g.variable < 2 ^ 63) gates
gates_small f variable [] are few = All-nil (λ g. g.variable < 2 ^ 63)
gates_small f variable (g ∷ gates) are few =
    let numbered = are.0.numbered in
    All-cons (λ g. g.variable < 2 ^ 63) g gates (omega (arith, numbered, few))
    (gates_small f (variable + 1) gates are.1 (omega (arith, few)))

pub block_small : (f : Dqbf) (y : ℕ) (block : DefinitionBlock) → f.variables ≤ 1000000 →
    AreRightBlocks f (y ∷ []) (block ∷ []) → IsSmallBlock block
block_small f y (defined d) few right =
    let is = right.each.0.1 in
    let most : length d.gates ≤ 1000000000 = is.few in
    gates_small f (f.variables + 1) d.gates is.gates (omega (arith, few, most))
block_small f y (free p) few right = tt
