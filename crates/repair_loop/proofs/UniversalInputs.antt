-- Outputs that read what they may read inputs of universals alone.
use Rattle.std.proofs.Common.{◌≡◌, ℕ, ◌≤◌, ◌<◌, false, List, [], map, length, get_or, slice_index, inl, inr, ◌∙◌, ap, subst, arith}
use Rattle.std.specs.List.{All, Contains}
use Rattle.std.proofs.lemmas.Bool.{cases_lt}
use Rattle.std.proofs.lemmas.List.{get_or-map, get_or_default, get_or_past, length-map}
use Rattle.std.proofs.lemmas.List.Elements.{All-contains, Contains-append_left, Contains-get_or}
use Rattle.std.proofs.lemmas.Option.{slice_get-get_or}
use Rattle.dq_lits.specs.Formula.{Dqbf, Existential, HasLawfulPrefix, declared}
use Rattle.aig_graph.specs.declared.nodes.Node.{Node}
use Rattle.aig_graph.specs.declared.nodes.Node.TheVariants.{Constant}
use Rattle.aig_graph.specs.Graph.{AigGraph, node_support}
use Rattle.aig_graph.specs.Outputs.{ReadDeclared, ReadsUniversals, output_node, outputs_of}
use Rattle.definition_order.proofs.Declared.{existential_at}

-- the variable of an input that is read is in range, and that of an input behind the universals
-- isn't
input_below : (f : Dqbf) → HasLawfulPrefix f → (y : Existential) → Contains f.existentials y → (i : ℕ) →
    Contains y.sees (slice_index f.universals i) → i < length f.universals
input_below f lawful y among i seen =
    let us = f.universals in
    let universal = All-contains (Contains us) y.sees (get_or us i 0)
    (All-contains (λ z. All (Contains us) z.sees) f.existentials y lawful.sees_universals among) seen in
    let low = (All-contains (λ v. (1 ≤ v) × (v ≤ f.variables)) (declared f) (get_or us i 0) lawful.in_range
    (Contains-append_left us (map (λ z. z.variable) f.existentials) (get_or us i 0) universal)).0 in
    elim (cases_lt i (length us)) [
      | inl below ↦ below
      | inr past ↦ (let none = get_or_past us i 0 past in absurd (omega (arith, low, none)))
    ]

abbrev nobody : Existential
nobody = record { variable = 0; sees = [] }

pub outputs_read_universals : (f : Dqbf) → HasLawfulPrefix f → (graph : AigGraph) (nodes : List Node) →
    length nodes ≡ length f.existentials → ReadDeclared f (outputs_of f graph nodes) →
    All (ReadsUniversals f graph) nodes
outputs_read_universals f lawful graph nodes count reads k d below i e inside =
    let within : k < length f.existentials = omega (arith, below, count) in
    let y = get_or f.existentials k nobody in
    let node = get_or nodes k d in
    let place = existential_at f lawful k y (slice_get-get_or f.existentials k nobody within) in
    let own : output_node f nodes y ≡ node = ap (λ q. get_or nodes q (Constant false)) place ∙ get_or_default nodes k
    (Constant false) d below in
    let support = node_support graph node in
    let declared_reads = subst (λ n. All (Contains y.sees) (map (slice_index f.universals) (node_support graph n))) own
    (reads k nobody within) in
    let mapped : i < length (map (slice_index f.universals) support) = let long =
    length-map support (slice_index f.universals) in omega (arith, inside, long) in
    let seen = subst (Contains y.sees) (get_or-map (slice_index f.universals) support i e 0 inside)
    (declared_reads i 0 mapped) in
    input_below f lawful y (Contains-get_or f.existentials k nobody within) (get_or support i e) seen
