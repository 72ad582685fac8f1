-- Values that a buffer has, of one row or of the rows that words have side by side: what stands in a row, and in the
-- buffer, is a function from places to bits.
use Rattle.std.proofs.Common.{◌≡◌, ◌≢◌, ℕ, ◌+◌, ◌<◌, Bool, false, ◌&&◌, List, length, map, get_or, refl, ◌∙◌, ap, arith, set, get_or-set_same, get_or-set_other, length-set, Some}
use Rattle.std.proofs.lemmas.List.{length-map, map-set}
use Rattle.std.specs.List.{All}
use Rattle.list_laws.proofs.Numbers.{below_or_here}
use Rattle.dq_lits.specs.Row.{bit_of}
use Rattle.aig_graph.specs.declared.nodes.Node.{Node}
use Rattle.aig_graph.specs.declared.nodes.Node.TheVariants.{Constant, Input, Gate}
use Rattle.aig_graph.specs.declared.nodes.Sides.{Sides}
use Rattle.aig_graph.specs.Graph.{AigGraph, IsNode, with_sign, value_by, gate_value, IsEarlierNode, IsGraph, AreSides, gate_at, size_of, node_value}
use Rattle.aig_graph.specs.Words.{word_bit, row_at}
use Rattle.aig_graph.proofs.LargerGraphs.{gate_value_at}
use Rattle.aig_graph.proofs.WrittenBits.{written, written_more}

-- the bit of a gate
abbrev gate_bit : AigGraph → (ℕ → Bool) → ℕ → Bool
gate_bit graph buf g = buf (graph.inputs + g)

-- the first gates have their values
abbrev pub HaveValues : AigGraph → (ℕ → Bool) → (ℕ → Bool) → ℕ → Type 0
HaveValues graph row buf count = (g : ℕ) → g < count → gate_bit graph buf g ≡ gate_value row graph.gates g

pub node_has_value : (graph : AigGraph) (row buf : ℕ → Bool) (count : ℕ) → HaveValues graph row buf count →
    (n : Node) → IsEarlierNode graph.inputs count n →
    value_by row (gate_bit graph buf) n ≡ value_by row (gate_value row graph.gates) n
node_has_value graph row buf count values (Constant b) earlier = refl
node_has_value graph row buf count values (Input i negated) earlier = refl
node_has_value graph row buf count values (Gate g negated) earlier = ap (with_sign negated) (values g earlier)

-- one gate more
have_more : (graph : AigGraph) (row old new : ℕ → Bool) (g : ℕ) (s : Sides) (left right : Bool) → IsGraph graph →
    HaveValues graph row old g → gate_at graph.gates g ≡ Some s → AreSides graph.inputs g s →
    left ≡ value_by row (gate_bit graph old) s.left → right ≡ value_by row (gate_bit graph old) s.right →
    gate_bit graph new g ≡ (left && right) →
    ((h : ℕ) → h < g → gate_bit graph new h ≡ gate_bit graph old h) →
    HaveValues graph row new (g + 1)
have_more graph row old new g s left right lawful values at sides left_is right_is here others =
    search (arith, below_or_here, node_has_value, gate_value_at)

apart : (inputs h g : ℕ) → h < g → inputs + h ≢ inputs + g
apart inputs h g below = λ e. omega (arith, e, below)

-- the same for one row
pub record AreValues (graph : AigGraph) (old row buf : List Bool) (count : ℕ) : Type 0 where
  pub values : HaveValues graph (bit_of row) (bit_of buf) count
  pub same_length : length buf ≡ length old

pub values_more : (graph : AigGraph) (old row buf : List Bool) (g : ℕ) (s : Sides) (left right : Bool) → IsGraph graph →
    length old ≡ size_of graph → AreValues graph old row buf g → g < length graph.gates →
    gate_at graph.gates g ≡ Some s → AreSides graph.inputs g s →
    left ≡ value_by (bit_of row) (gate_bit graph (bit_of buf)) s.left →
    right ≡ value_by (bit_of row) (gate_bit graph (bit_of buf)) s.right →
    AreValues graph old row (set buf (graph.inputs + g) (left && right)) (g + 1)
values_more graph old row buf g s left right lawful long before inside at sides left_is right_is =
    let room : graph.inputs + g < length buf = let same = before.same_length in omega (arith, long, same, inside) in
    record {
      values = have_more graph (bit_of row) (bit_of buf) (bit_of (set buf (graph.inputs + g) (left && right))) g s left
          right lawful before.values at sides left_is right_is
          (get_or-set_same buf (graph.inputs + g) (left && right) false room)
          (λ h below. get_or-set_other buf (graph.inputs + g) (graph.inputs + h) (left && right) false
          (apart graph.inputs h g below));
      same_length = length-set buf (graph.inputs + g) (left && right) ∙ before.same_length;
    }

-- the same for the rows that words have
pub record AreWords (graph : AigGraph) (old inputs buf : List ℕ) (count : ℕ) : Type 0 where
  pub values : (b : ℕ) → b < 64 → HaveValues graph (row_at inputs b) (row_at buf b) count
  pub same_length : length buf ≡ length old

pub words_more : (graph : AigGraph) (old inputs buf : List ℕ) (g : ℕ) (s : Sides) (left right word : ℕ) →
    IsGraph graph → length old ≡ size_of graph → AreWords graph old inputs buf g → g < length graph.gates →
    gate_at graph.gates g ≡ Some s → AreSides graph.inputs g s →
    ((b : ℕ) → b < 64 → word_bit b left ≡ value_by (row_at inputs b) (gate_bit graph (row_at buf b)) s.left) →
    ((b : ℕ) → b < 64 → word_bit b right ≡ value_by (row_at inputs b) (gate_bit graph (row_at buf b)) s.right) →
    ((b : ℕ) → word_bit b word ≡ (word_bit b left && word_bit b right)) →
    AreWords graph old inputs (set buf (graph.inputs + g) word) (g + 1)
words_more graph old inputs buf g s left right word lawful long before inside at sides left_is right_is both =
    let room : graph.inputs + g < length buf = let same = before.same_length in omega (arith, long, same, inside) in
    record {
      values = λ b low. have_more graph (row_at inputs b) (row_at buf b) (row_at (set buf (graph.inputs + g) word) b) g s
          (word_bit b left) (word_bit b right) lawful (before.values b low) at sides (left_is b low) (right_is b low)
          (ap (word_bit b) (get_or-set_same buf (graph.inputs + g) word 0 room) ∙ both b)
          (λ h below. ap (word_bit b) (get_or-set_other buf (graph.inputs + g) (graph.inputs + h) word 0
          (apart graph.inputs h g below)));
      same_length = length-set buf (graph.inputs + g) word ∙ before.same_length;
    }

-- the words of the first nodes are written
pub record IsWrittenTo (graph : AigGraph) (nodes : List Node) (inputs old out : List ℕ) (place : ℕ) : Type 0 where
  pub bits : (b : ℕ) → b < 64 →
      map (word_bit b) out ≡ written (node_value graph (row_at inputs b)) nodes (map (word_bit b) old) place
  pub same_length : length out ≡ length old

pub written_on : (graph : AigGraph) (nodes : List Node) (inputs buf old out : List ℕ) (place word : ℕ) →
    All (IsNode graph) nodes → length old ≡ length nodes →
    ((b g : ℕ) → b < 64 → g < length graph.gates → row_at buf b (graph.inputs + g) ≡ gate_value (row_at inputs b) graph.gates g)
    → place < length nodes → IsWrittenTo graph nodes inputs old out place →
    ((b : ℕ) → b < 64 → word_bit b word ≡ value_by (row_at inputs b) (gate_bit graph (row_at buf b))
    (get_or nodes place (Constant false))) →
    IsWrittenTo graph nodes inputs old (set out place word) (place + 1)
written_on graph nodes inputs buf old out place word are long values below before value = record {
  bits = λ b low.
      let d = Constant false in
      let bit = word_bit b in
      let node : IsNode graph (get_or nodes place d) = are place d below in
      written_more (node_value graph (row_at inputs b)) nodes (map bit old) (map bit out) (map bit (set out place word))
      place d below (length-map old bit ∙ long) (before.bits b low)
      (map-set bit out place word ∙ ap (set (map bit out) place) (value b low
      ∙ node_has_value graph (row_at inputs b) (row_at buf b) (length graph.gates) (λ g. values b g low)
      (get_or nodes place d) node));
  same_length = length-set out place word ∙ before.same_length;
}
