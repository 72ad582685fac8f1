-- Nodes for cubes of rules, and for what the rules say of each existential.
use Rattle.std.proofs.Common.{◌≡◌, ℕ, zero, suc, ◌+◌, ◌-◌, ◌<◌, ◌≤◌, ◌==◌, Bool, true, false, cond, not, ◌&&◌, List, [], ◌∷◌, map, length, get_or, set, drop, slice_get, slice_index, Option, None, Some, position, refl, sym, ◌∙◌, ap, subst, inl, inr, arith, eq-eqb}
use Rattle.std.specs.List.{All, Contains, list_all}
use Rattle.std.proofs.lemmas.List.{length-set}
use Rattle.std.proofs.Math.Seq.{drop-cons}
use Rattle.std.proofs.lemmas.Bool.{cases_eq, ne_eqb}
use Rattle.std.proofs.lemmas.List.{get_or-set_same, get_or-set_other, get_or_default}
use Rattle.std.proofs.lemmas.List.Elements.{All-contains}
use Rattle.std.proofs.lemmas.Option.{slice_get_within, get_or_from_slice_get}
use Rattle.list_laws.proofs.Members.{mapped_from, only_one, one_mapped}
use Rattle.dq_lits.specs.Literal.{Assignment, Literal, positive, negative, variable_of, literal_true}
use Rattle.dq_lits.specs.Formula.{Existential, Dqbf, existential_of}
use Rattle.dq_formula.specs.Prefix.{IsLawful, existential_variables}
use Rattle.dq_formula.specs.Rules.{cube_true, first_bit, IsRule}
use Rattle.dq_formula.specs.declared.rules.Rule.{Rule}
use Rattle.dq_formula.proofs.Places.{place, has-contains}
use Rattle.dq_formula.proofs.Sorted.{place-below, get_or-place}
use Rattle.aig_graph.specs.Graph.{AigGraph, node_value, node_support, IsNode}
use Rattle.aig_graph.specs.Made.{Extends, IsCube, IsChosen}
use Rattle.aig_graph.specs.declared.nodes.Node.{Node}
use Rattle.aig_graph.specs.declared.nodes.Node.TheVariants.{Constant}
use Rattle.aig_graph.proofs.LargerGraphs.{grown_twice}
use Rattle.candidate_functions.specs.Pairs.{input_literal, IsCubeNode, IsByRules, AreByRules}
use Rattle.candidate_functions.proofs.DeclaredPlaces.{all_mapped, unplaced}
use Rattle.definition_order.proofs.Declared.{one_place, placed}
use Rattle.candidate_functions.proofs.LargerGraphs.{rule_node_stays}

pub input_literal_is_node : (f : Dqbf) (g : AigGraph) (l : Literal) → length f.universals ≤ g.inputs →
    Contains f.universals (variable_of l) → IsNode g (input_literal f l)
input_literal_is_node f g l size among = let below = place-below f.universals (variable_of l)
    (has-contains f.universals (variable_of l) among) in omega arith

pub input_literals_are_nodes : (f : Dqbf) (g : AigGraph) (ls : List Literal) → length f.universals ≤ g.inputs →
    All (λ l. Contains f.universals (variable_of l)) ls → All (IsNode g) (map (input_literal f) ls)
input_literals_are_nodes f g [] size among k d lt = absurd (omega (arith, lt))
input_literals_are_nodes f g (l ∷ ls) size among zero d lt = input_literal_is_node f g l size (among 0 l (omega arith))
input_literals_are_nodes f g (l ∷ ls) size among (suc k) d lt =
    input_literals_are_nodes f g ls size (λ i e below. among (suc i) e (omega (arith, below))) k d (omega (arith, lt))

literal_value : (f : Dqbf) (g : AigGraph) (m : Assignment) (l : Literal) → Contains f.universals (variable_of l)
    → node_value g (λ i. m (slice_index f.universals i)) (input_literal f l) ≡ literal_true m l
literal_value f g m (positive v) among = ap m (get_or-place f.universals v 0 (has-contains f.universals v among))
literal_value f g m (negative v) among = ap (λ x. not (m x))
    (get_or-place f.universals v 0 (has-contains f.universals v among))

literals_value : (f : Dqbf) (g : AigGraph) (m : Assignment) (ls : List Literal) →
    All (λ l. Contains f.universals (variable_of l)) ls
    → list_all (node_value g (λ i. m (slice_index f.universals i))) (map (input_literal f) ls) ≡ cube_true m ls
literals_value f g m [] among = refl
literals_value f g m (l ∷ ls) among =
    ap (λ b. b && list_all (node_value g (λ i. m (slice_index f.universals i))) (map (input_literal f) ls))
    (literal_value f g m l (among 0 l (omega arith)))
    ∙ ap (λ b. literal_true m l && b) (literals_value f g m ls (λ i e below. among (suc i) e (omega (arith, below))))

pub cube_node_made : (f : Dqbf) (old new : AigGraph) (ls : List Literal) (n : Node) →
    All (λ l. Contains f.universals (variable_of l)) ls
    → IsCube old new (map (input_literal f) ls) n → IsCubeNode f new ls n
cube_node_made f old new ls n among cube = record {
  is_node = cube.is_node;
  value = λ m. cube.value (λ i. m (slice_index f.universals i)) ∙ literals_value f old m ls among;
  reads = λ sees seen. all_mapped (Contains sees) (slice_index f.universals) (node_support new n) (λ i has.
      let by = cube.reads i has in
      let from = mapped_from (input_literal f) ls by.node by.among in
      let l = from.0 in
      let read = subst (λ k. Contains (node_support old k) i) (sym from.2) by.reads in
      let own = All-contains (λ k. Contains f.universals (variable_of k)) ls l among from.1 in
      let there : get_or f.universals i 0 ≡ variable_of l =
      ap (λ p. get_or f.universals p 0) (sym (only_one (place f.universals (variable_of l)) i read))
      ∙ get_or-place f.universals (variable_of l) 0 (has-contains f.universals (variable_of l) own) in
      subst (Contains sees) (sym there) (All-contains (λ k. Contains sees (variable_of k)) ls l seen from.1));
}

rule_here : (rule : Rule) (later : List Rule) (v : ℕ) (m : Assignment) → rule.y ≡ v
    → first_bit (rule ∷ later) v m ≡ cond (cube_true m rule.cube) (Some rule.bit) (first_bit later v m)
rule_here rule later v m is = search (arith, eq-eqb)

rule_elsewhere : (rule : Rule) (later : List Rule) (v : ℕ) (m : Assignment) → (rule.y ≡ v → ⊥) →
    first_bit (rule ∷ later) v m ≡ first_bit later v m
rule_elsewhere rule later v m other = search (arith, ne_eqb)

by_other_rule : (f : Dqbf) (g : AigGraph) (rule : Rule) (later : List Rule) (y : Existential) (n : Node) →
    (rule.y ≡ y.variable → ⊥) → IsByRules f g later y n → IsByRules f g (rule ∷ later) y n
by_other_rule f g rule later y n other by = search (arith, rule_elsewhere)

-- the rule's bit where its cube is true, else what later ones say
chosen_bit : (c own before bit : Bool) (later : Option Bool) → (later ≡ Some bit → before ≡ bit) →
    cond c (Some own) later ≡ Some bit → cond c own before ≡ bit
chosen_bit true own before bit later is first = cc
chosen_bit false own before bit later is first = is first

by_own_rule : (f : Dqbf) (mid new : AigGraph) (rule : Rule) (later : List Rule) (y : Existential)
    (cube before node : Node)
    → rule.y ≡ y.variable → All (λ l. Contains y.sees (variable_of l)) rule.cube
    → IsCubeNode f mid rule.cube cube → IsByRules f mid later y before →
    IsChosen mid new cube (Constant rule.bit) before node
    → IsByRules f new (rule ∷ later) y node
by_own_rule f mid new rule later y cube before node own seen is by chosen = record {
  is_node = chosen.is_node;
  value = λ m bit first.
      chosen.value (λ i. m (slice_index f.universals i))
      ∙ ap (λ b. cond b rule.bit (node_value mid (λ i. m (slice_index f.universals i)) before)) (is.value m)
      ∙ chosen_bit (cube_true m rule.cube) rule.bit (node_value mid (λ i. m (slice_index f.universals i)) before) bit
      (first_bit later y.variable m) (by.value m bit)
      (sym (rule_here rule later y.variable m own) ∙ first);
  reads = all_mapped (Contains y.sees) (slice_index f.universals) (node_support new node)
      (λ i has. elim (chosen.reads i has) [
        | inl c ↦ one_mapped (Contains y.sees) (slice_index f.universals) (node_support mid cube) i
            (is.reads y.sees seen) c
        | inr rest ↦ (elim rest [
          | inl t ↦ absurd (let (k, below, at) = t in omega (arith, below))
          | inr e ↦ one_mapped (Contains y.sees) (slice_index f.universals) (node_support mid before) i by.reads e
        ])
      ]);
}

pub rule_put : (f : Dqbf) (old mid new : AigGraph) (rule : Rule) (later : List Rule) (nodes : List Node) (p : ℕ)
    (cube node : Node)
    → IsLawful f → IsRule f rule → position (λ v. v == rule.y) (existential_variables f) ≡ Some p
    → Extends old mid → Extends mid new → IsCubeNode f mid rule.cube cube
    → IsChosen mid new cube (Constant rule.bit) (get_or nodes p (Constant false)) node
    → AreByRules f old later nodes → AreByRules f new (rule ∷ later) (set nodes p node)
rule_put f old mid new rule later nodes p cube node lawful is found grown more made chosen are = record {
  one_each = length-set nodes p node ∙ are.one_each;
  each = λ q y at. elim (cases_eq q p) [
    | inl same ↦ (
        let d = placed f.existentials rule.y p y found in
        let own : slice_get f.existentials p ≡ Some y = subst (λ r. slice_get f.existentials r ≡ Some y) same at in
        let is_y : d.0 ≡ y = (let e = sym d.1 ∙ own in cc) in
        let name : rule.y ≡ y.variable = sym d.2 ∙ ap (λ (z : Existential). z.variable) is_y in
        let known : existential_of f rule.y ≡ Some y = ap (existential_of f) name ∙ named y q at in
        let lt : p < length nodes = (let w = slice_get_within f.existentials p y own in let e = are.one_each in
        omega arith) in
        let before = rule_node_stays old mid grown f later y (get_or nodes p (Constant false)) (are.each p y own) in
        let done = by_own_rule f mid new rule later y cube (get_or nodes p (Constant false)) node name
        (is.over_seen y known) made before chosen in
        subst (λ r. IsByRules f new (rule ∷ later) y (get_or (set nodes p node) r (Constant false))) (sym same)
        (subst (IsByRules f new (rule ∷ later) y) (sym (get_or-set_same nodes p node (Constant false) lt)) done))
    | inr other ↦ (
        let d = placed f.existentials rule.y p y found in
        let apart : rule.y ≡ y.variable → ⊥ = λ same. other (one_place f lawful.prefix q p y d.0 at d.1
        (sym same ∙ sym d.2)) in
        let before = rule_node_stays old new (grown_twice old mid new grown more) f later y
        (get_or nodes q (Constant false)) (are.each q y at) in
        subst (IsByRules f new (rule ∷ later) y) (sym (get_or-set_other nodes p q node (Constant false) other))
        (by_other_rule f new rule later y (get_or nodes q (Constant false)) apart before))
  ];
} where
  named : (y : Existential) (q : ℕ) → slice_get f.existentials q ≡ Some y → existential_of f y.variable ≡ Some y
  named y q at = All-contains (λ z. existential_of f z.variable ≡ Some z) f.existentials y lawful.named
      (q, slice_get_within f.existentials q y at, get_or_from_slice_get f.existentials q y y at)

pub rule_of_none : (f : Dqbf) (g : AigGraph) (rule : Rule) (later : List Rule) (nodes : List Node) →
    position (λ v. v == rule.y) (existential_variables f) ≡ None
    → AreByRules f g later nodes → AreByRules f g (rule ∷ later) nodes
rule_of_none f g rule later nodes none are = record {
  one_each = are.one_each;
  each = λ p y at. by_other_rule f g rule later y (get_or nodes p (Constant false))
      (unplaced f.existentials rule.y p y none at) (are.each p y at);
}

known_there : (f : Dqbf) → IsLawful f → (w p : ℕ) → position (λ v. v == w) (existential_variables f) ≡ Some p →
    Existential → (y : Existential) × (slice_get f.existentials p ≡ Some y) × (existential_of f w ≡ Some y)
known_there f lawful w p found d =
    let y = placed f.existentials w p d found in
    let within = slice_get_within f.existentials p y.0 y.1 in
    let at = get_or_from_slice_get f.existentials p y.0 y.0 y.1 in (
      y.0,
      y.1,
      ap (existential_of f) (sym y.2) ∙ All-contains
          (λ z. existential_of f z.variable ≡ Some z) f.existentials y.0 lawful.named (p, within, at),
    )

pub rule_over_universals : (f : Dqbf) → IsLawful f → (rule : Rule) (p : ℕ) → IsRule f rule →
    position (λ v. v == rule.y) (existential_variables f) ≡ Some p
    → All (λ l. Contains f.universals (variable_of l)) rule.cube
rule_over_universals f lawful rule p is found k d lt =
    let y = known_there f lawful rule.y p found (record { variable = 0; sees = [] }) in
    let within = slice_get_within f.existentials p y.0 y.1 in
    let at = get_or_from_slice_get f.existentials p y.0 y.0 y.1 in
    let sees = All-contains (λ z. All (Contains f.universals) z.sees) f.existentials y.0 lawful.prefix.sees_universals
    (p, within, at) in
    All-contains (Contains f.universals) y.0.sees (variable_of (get_or rule.cube k d)) sees
    (is.over_seen y.0 y.2 k d lt)

pub rule_node_there : (f : Dqbf) (g : AigGraph) (nodes : List Node) (w p : ℕ) →
    position (λ v. v == w) (existential_variables f) ≡ Some p
    → length nodes ≡ length f.existentials → All (IsNode g) nodes →
    (p < length nodes) × IsNode g (get_or nodes p (Constant false))
rule_node_there f g nodes w p found each are =
    let y = placed f.existentials w p (record { variable = 0; sees = [] }) found in
    let within = slice_get_within f.existentials p y.0 y.1 in
    let lt : p < length nodes = omega arith in
    (lt, are p (Constant false) lt)

from_the_rule : (rules : List Rule) (at : ℕ) (rule : Rule) → at < length rules → rule ≡ get_or rules at rule →
    drop at rules ≡ rule ∷ drop (at + 1) rules
from_the_rule rules at rule lt is = search (arith, drop-cons)

-- the rule at a place before those behind it
pub with_rule : (f : Dqbf) (g : AigGraph) (rules : List Rule) (at : ℕ) (rule : Rule) (nodes : List Node) → 0 < at →
    at ≤ length rules → rule ≡ get_or rules (at - 1) rule
    → AreByRules f g (rule ∷ drop at rules) nodes → AreByRules f g (drop (at - 1) rules) nodes
with_rule f g rules at rule nodes some within is are =
    let lt : at - 1 < length rules = omega arith in
    let back : at - 1 + 1 ≡ at = omega arith in
    subst (λ rs. AreByRules f g rs nodes) (sym (from_the_rule rules (at - 1) rule lt is ∙ ap
    (λ n. rule ∷ drop n rules) back)) are

pub same_beyond : (nodes : List Node) (p : ℕ) (d : Node) → p < length nodes →
    get_or nodes p d ≡ get_or nodes p (Constant false)
same_beyond nodes p d lt = get_or_default nodes p d (Constant false) lt
