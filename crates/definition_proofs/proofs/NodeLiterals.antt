-- Literals that stand for nodes: they stay as names do, stand on first copies or gates over them,
-- and reach what the node reads.
use Rattle.std.proofs.Common.{◌≡◌, ◌<◌, ℕ, Bool, true, false, ◌⊎◌, inl, inr, List, ◌++◌, map, length, Some, slice_get, refl, sym, ◌∙◌, ap, subst, arith, ◌≢◌, ◌≤◌, ◌==◌, cond, get_or, IsSome, ◌-◌}
use Rattle.std.specs.List.{Contains}
use Rattle.std.proofs.lemmas.List.Elements.{Contains-append_left, Contains-append_right}
use Rattle.std.proofs.lemmas.Option.{slice_get-get_or, slice_get_within, get_or_from_slice_get}
use Rattle.list_laws.proofs.Members.{contains_mapped}
use Rattle.dq_lits.specs.Literal.{Literal, positive, variable_of, opposite}
use Rattle.dq_lits.specs.Formula.{Dqbf, declared}
use Rattle.dq_lits.proofs.SignedLiterals.{opposite_variable}
use Rattle.aig_graph.specs.declared.nodes.Node.{Node}
use Rattle.aig_graph.specs.declared.nodes.Node.TheVariants.{Input, Gate}
use Rattle.aig_graph.specs.Graph.{AigGraph, gate_support, node_support, IsGraph, IsGateLook, AreSides}
use Rattle.aig_graph.proofs.LargerGraphs.{gate_support_in}
use Rattle.defining_nodes.specs.Definitions.{input_variable}
use Rattle.hint_log.specs.Conditions.{is_term_name}
use Rattle.hint_log.specs.Entries.{Entry, name_of, ProofLog}
use Rattle.hint_log.specs.Naming.{named_literal, name_literal}
use Rattle.hint_log.specs.declared.names.Name.TheVariants.{Copy as CopyOf, Term}
use Rattle.log_laws.proofs.Found.{named_variable}
use Rattle.log_laws.proofs.Kept.{NamesStay, literal_stays}
use Rattle.definability.specs.Copies.{AreCopiesOf, group_variable}
use Rattle.definability.proofs.CopiedVariables.{copy_at}
use Rattle.definition_proofs.specs.Shown.{ReadsCopy, itself, left, right, ReadDeclaredCopies}
use Rattle.definition_proofs.specs.Leaves.{StandsFor, input, gate, not_input, not_gate, negated_by, HasLiteral, IsKnown, AreSidesKnown, HasGate, IsLeafFor}
use Rattle.std.specs.BTreeMap.{BTreeMap, get, is_at, Updates}
use Rattle.std.specs.Ordering.{nat_cmp, is_eq}
use Rattle.std.specs.declared.cmp.Ordering.TheVariants.{Less, Equal, Greater}
use Rattle.std.proofs.lemmas.Bool.{cases_lt, cases_eq, lt-ltb, le-ltb, ne_eqb}
use Rattle.std.proofs.lemmas.List.{get_or_default}
use Rattle.list_laws.proofs.Options.{some_is}
use Rattle.aig_graph.specs.declared.nodes.Look.TheVariants.{Gate as LookGate}
use Rattle.aig_graph.specs.Putting.{AreConeGates}
use Rattle.aig_graph.proofs.Numbered.{sides_are}
use Rattle.aig_graph.proofs.GatheredCones.{gate_earlier}
use Rattle.definition_proofs.specs.Terms.{AreTerms, GrewByProof}
use Rattle.definition_proofs.specs.declared.terms.Terms.{Terms}
use Rattle.definition_proofs.proofs.KnownTerms.{no_formula, names_stay, proof_then}
use Rattle.definition_proofs.specs.Proving.{HasLeaf}
use Rattle.hint_log.specs.declared.origins.Leaf.TheVariants.{Literal as LeafLiteral}

pub stands_still : (f : Dqbf) (graph : AigGraph) (old new : List Entry) → NamesStay old new → (n : Node) (l : Literal) →
    StandsFor f graph old n l → StandsFor f graph new n l
stands_still f graph old new stay _ _ (input i l below named) =
    input i l below (literal_stays old new stay l (named_literal (CopyOf 1 (input_variable f i)) false) named)
stands_still f graph old new stay _ _ (gate g v sides a b at are on_left on_right named) =
    gate g v sides a b at are (stands_still f graph old new stay sides.left a on_left)
    (stands_still f graph old new stay sides.right b on_right) (stay v (Term a b) named)
stands_still f graph old new stay _ _ (not_input i l stands) =
    not_input i l (stands_still f graph old new stay (Input i false) l stands)
stands_still f graph old new stay _ _ (not_gate g l stands) =
    not_gate g l (stands_still f graph old new stay (Gate g false) l stands)

copy_named : (f : Dqbf) (es : List Entry) (i : ℕ) (l : Literal) →
    name_literal es l ≡ Some (named_literal (CopyOf 1 (input_variable f i)) false) →
    name_of es (variable_of l) ≡ Some (CopyOf 1 (input_variable f i))
copy_named f es i l named = search (arith, named_variable)

-- it stands on a first copy, or on a gate over first copies
pub on_term : (f : Dqbf) (graph : AigGraph) (es : List Entry) (n : Node) (l : Literal) → StandsFor f graph es n l →
    is_term_name (name_of es (variable_of l)) ≡ true
on_term f graph es _ _ (input i l below named) = ap is_term_name (copy_named f es i l named)
on_term f graph es _ _ (gate g v sides a b at are on_left on_right named) = ap is_term_name named
on_term f graph es _ _ (not_input i l stands) =
    ap (λ v. is_term_name (name_of es v)) (opposite_variable l) ∙ on_term f graph es (Input i false) l stands
on_term f graph es _ _ (not_gate g l stands) =
    ap (λ v. is_term_name (name_of es v)) (opposite_variable l) ∙ on_term f graph es (Gate g false) l stands

-- what is reached doesn't ask for the sign
same_reads : (es : List Entry) (k l : Literal) (x : ℕ) → variable_of k ≡ variable_of l → ReadsCopy es k x →
    ReadsCopy es l x
same_reads es k l x same (itself _ _ named) = itself l x (ap (name_of es) (sym same) ∙ named)
same_reads es k l x same (left _ a b _ named reads) = left l a b x (ap (name_of es) (sym same) ∙ named) reads
same_reads es k l x same (right _ a b _ named reads) = right l a b x (ap (name_of es) (sym same) ∙ named) reads

abbrev IsReadFrom : Dqbf → List ℕ → ℕ → Type 0
IsReadFrom f support x = (i : ℕ) × (x ≡ input_variable f i) × Contains support i

copy_reads : (f : Dqbf) (es : List Entry) (i x : ℕ) (l : Literal) →
    name_of es (variable_of l) ≡ Some (CopyOf 1 (input_variable f i)) → ReadsCopy es l x → x ≡ input_variable f i
copy_reads f es i x l named (itself _ _ is) = search arith
copy_reads f es i x l named (left _ a b _ is reads) = search arith
copy_reads f es i x l named (right _ a b _ is reads) = search arith

-- a gate reaches what its sides reach
side_reads : (es : List Entry) (l a b : Literal) (x : ℕ) → name_of es (variable_of l) ≡ Some (Term a b) →
    ReadsCopy es l x → ReadsCopy es a x ⊎ ReadsCopy es b x
side_reads es l a b x named (itself _ _ is) = search arith
side_reads es l a b x named (left _ c d _ is reads) = search arith
side_reads es l a b x named (right _ c d _ is reads) = search arith

from_either : (f : Dqbf) (xs ys zs : List ℕ) (x : ℕ) → zs ≡ xs ++ ys → IsReadFrom f xs x ⊎ IsReadFrom f ys x →
    IsReadFrom f zs x
from_either f xs ys zs x is (inl r) =
    (r.0, r.1, subst (λ is. Contains is r.0) (sym is) (Contains-append_left xs ys r.0 r.2))
from_either f xs ys zs x is (inr r) =
    (r.0, r.1, subst (λ is. Contains is r.0) (sym is) (Contains-append_right xs ys r.0 r.2))

-- it reaches what the node reads
reads_inputs : (f : Dqbf) (graph : AigGraph) (es : List Entry) (n : Node) (l : Literal) → StandsFor f graph es n l →
    (x : ℕ) → ReadsCopy es l x → IsReadFrom f (node_support graph n) x
reads_inputs f graph es _ _ (input i l below named) x reads = search (arith, copy_reads, copy_named)
reads_inputs f graph es _ _ (gate g v sides a b at are on_left on_right named) x reads =
    from_either f (node_support graph sides.left) (node_support graph sides.right) (gate_support graph.gates g) x
    (gate_support_in graph.inputs graph.gates g sides are at)
    (elim (side_reads es (positive v) a b x named reads) [
      | inl r ↦ inl (reads_inputs f graph es sides.left a on_left x r)
      | inr r ↦ inr (reads_inputs f graph es sides.right b on_right x r)
    ])
reads_inputs f graph es _ _ (not_input i l stands) x reads =
    reads_inputs f graph es (Input i false) l stands x (same_reads es (opposite l) l x (opposite_variable l) reads)
reads_inputs f graph es _ _ (not_gate g l stands) x reads =
    reads_inputs f graph es (Gate g false) l stands x (same_reads es (opposite l) l x (opposite_variable l) reads)

pub reads_support : (f : Dqbf) (graph : AigGraph) (es : List Entry) (n : Node) (l : Literal) →
    StandsFor f graph es n l → (x : ℕ) → ReadsCopy es l x → Contains (map (input_variable f) (node_support graph n)) x
reads_support f graph es n l stands x reads =
    let r = reads_inputs f graph es n l stands x reads in
    subst (Contains (map (input_variable f) (node_support graph n))) (sym r.1)
    (contains_mapped (input_variable f) (node_support graph n) r.0 r.2)

-- a copy of a declared variable stands for its input
pub input_stands : (f : Dqbf) (graph : AigGraph) (es : List Entry) (copies : List Literal) (i : ℕ) (l : Literal) →
    AreCopiesOf es 1 (declared f) copies → i < length (declared f) → slice_get copies i ≡ Some l →
    StandsFor f graph es (Input i false) l
input_stands f graph es copies i l are below at =
    input i l below (copy_at es 1 (declared f) copies i (input_variable f i) l are
    (slice_get-get_or (declared f) i 0 below) at)

-- either sign
pub input_signed : (f : Dqbf) (graph : AigGraph) (es : List Entry) (i : ℕ) (l : Literal) (negated : Bool) →
    StandsFor f graph es (Input i false) l → StandsFor f graph es (Input i negated) (negated_by negated l)
input_signed f graph es i l false stands = stands
input_signed f graph es i l true stands = not_input i l stands

pub gate_signed : (f : Dqbf) (graph : AigGraph) (es : List Entry) (g : ℕ) (l : Literal) (negated : Bool) →
    StandsFor f graph es (Gate g false) l → StandsFor f graph es (Gate g negated) (negated_by negated l)
gate_signed f graph es g l false stands = stands
gate_signed f graph es g l true stands = not_gate g l stands

-- a literal that is known is found, and what is found stands for the gate
module _ (f : Dqbf) (graph : AigGraph) (es : List Entry) (literals : BTreeMap ℕ Literal) where
  pub known_found : (n : Node) → IsKnown f graph es literals n → HasGate literals n
  known_found n known g is = subst IsSome (sym (known g is).found) refl

  pub found_stands : (g : ℕ) (l : Literal) → HasLiteral f graph es literals g → Some l ≡ get nat_cmp literals g →
      StandsFor f graph es (Gate g false) l
  found_stands g l known found = search (arith, some_is)

  pub known_still : (new : List Entry) → NamesStay es new → (g : ℕ) → HasLiteral f graph es literals g →
      HasLiteral f graph new literals g
  known_still new stay g known = search (arith, stands_still)

  -- a gate that is looked into
  module _ (g : ℕ) (m n : Node) (negated : Bool) (look : IsGateLook graph g false (LookGate m n negated))
      (known : AreSidesKnown f graph es literals g) where
    left_is : m ≡ look.sides.left
    left_is = let is = look.look_is in cc

    right_is : n ≡ look.sides.right
    right_is = let is = look.look_is in cc

    pub left_known : IsKnown f graph es literals m
    left_known = subst (IsKnown f graph es literals) (sym left_is) (known look.sides look.at).0

    pub right_known : IsKnown f graph es literals n
    right_known = subst (IsKnown f graph es literals) (sym right_is) (known look.sides look.at).1

    pub gate_stands : (new : List Entry) → NamesStay es new → (a b l : Literal) → StandsFor f graph es m a →
        StandsFor f graph es n b → (v : ℕ) × (l ≡ positive v) × (name_of new v ≡ Some (Term a b)) →
        StandsFor f graph new (Gate g false) l
    gate_stands new stay a b l on_left on_right named =
        subst (StandsFor f graph new (Gate g false)) (sym named.1)
        (gate g named.0 look.sides a b look.at look.are_sides
        (stands_still f graph es new stay look.sides.left a (subst (λ k. StandsFor f graph es k a) left_is on_left))
        (stands_still f graph es new stay look.sides.right b (subst (λ k. StandsFor f graph es k b) right_is on_right))
        named.2)

-- the gates from a place on have their literals
pub record AreLiteralsFrom (f : Dqbf) (graph : AigGraph) (gates : List ℕ) (first : Terms) (old : ProofLog)
    (terms : Terms) (log : ProofLog) (literals : BTreeMap ℕ Literal) (at : ℕ) : Type 0 where
  pub grew : (h : Dqbf) (y : ℕ) → GrewByProof h (group_variable first.group) y old log
  pub group : terms.group ≡ first.group
  pub terms_known : AreTerms terms log.entries
  pub sides : ReadDeclaredCopies f old.entries → ReadDeclaredCopies f log.entries
  pub within : at ≤ length gates
  pub each : (k g : ℕ) → at ≤ k → slice_get gates k ≡ Some g → HasLiteral f graph log.entries literals g

module _ (f : Dqbf) (graph : AigGraph) (node : Node) (gates : List ℕ) (first : Terms) (old : ProofLog) (terms : Terms)
    (log : ProofLog) (literals : BTreeMap ℕ Literal) (next_at g : ℕ) (lawful : IsGraph graph)
    (cone : AreConeGates graph node gates) (far : AreLiteralsFrom f graph gates first old terms log literals next_at)
    (some : 0 < next_at) (found : g ≡ get_or gates (next_at - 1) g) where
  abbrev at : ℕ
  at = next_at - 1

  here : slice_get gates at ≡ Some g
  here = let within = far.within in
      slice_get-get_or gates at g (omega (arith, some, within)) ∙ ap Some (sym found)

  at_here : (d : ℕ) → get_or gates at d ≡ g
  at_here d = get_or_from_slice_get gates at g d here

  pub gate_within : g < length graph.gates
  gate_within = subst (λ h. h < length graph.gates) (at_here g) (cone.within at g (slice_get_within gates at g here))

  -- an earlier gate stands behind this one
  behind : (h j : ℕ) → j < length gates → get_or gates j h ≡ h → h < g → at < j
  behind h j below is less = elim (cases_lt at j) [
    | inl after ↦ after
    | inr before ↦ absurd (elim (cases_eq j at) [
      | inl same ↦ (
          let equal : h ≡ g = sym is ∙ ap (λ k. get_or gates k h) same ∙ at_here h in
          omega (arith, equal, less))
      | inr differ ↦ (
          let down = cone.descending j at g (omega (arith, before, differ)) (slice_get_within gates at g here) in
          let one : get_or gates at g ≡ g = at_here g in
          let other : get_or gates j g ≡ h = get_or_default gates j g h below ∙ is in
          omega (arith, down, one, other, less))
    ])
  ]

  earlier_known : (h : ℕ) → Contains gates h → h < g → HasLiteral f graph log.entries literals h
  earlier_known h (j, below, is) less =
      let after = behind h j below is less in
      far.each j h (let one = some in omega (arith, after, one)) (slice_get-get_or gates j h below ∙ ap Some is)

  pub sides_known : AreSidesKnown f graph log.entries literals g
  sides_known s there =
      let sides : AreSides graph.inputs g s = sides_are graph.inputs graph.gates g s lawful.gates there in
      let closed = cone.closed g s (at, slice_get_within gates at g here, at_here g) there in (
        (λ h is. earlier_known h (closed.0 h is) (gate_earlier graph.inputs g h s.left sides.left is)),
        (λ h is. earlier_known h (closed.1 h is) (gate_earlier graph.inputs g h s.right sides.right is)),
      )

  gate_literal_stands : (l : Literal) (new : ProofLog) → IsLeafFor f graph new.entries (Gate g false) (LeafLiteral l) →
      StandsFor f graph new.entries (Gate g false) l
  gate_literal_stands l new (k, is, stands) = search arith

  module _ (next : Terms) (new : ProofLog) (grew : (h : Dqbf) (y : ℕ) → GrewByProof h (group_variable terms.group) y log
      new) where
    pub stopped : (h : Dqbf) (y : ℕ) → GrewByProof h (group_variable first.group) y old new
    stopped h y = proof_then h (group_variable first.group) y old log new (far.grew h y)
        (subst (λ t. GrewByProof h (group_variable t) y log new) far.group (grew h y))

    pub literal_more : (l : Literal) → HasLeaf f graph (Gate g false) terms log next new (LeafLiteral l) →
        (after : BTreeMap ℕ Literal) → Updates nat_cmp literals after g (Some l) →
        AreLiteralsFrom f graph gates first old next new after at
    literal_more l leaf after updates = record {
      sides = λ before. leaf.sides (far.sides before);
      grew = stopped;
      group = leaf.group ∙ far.group;
      terms_known = leaf.terms;
      within = let w = far.within in omega (arith, w);
      each = λ k h past there. elim (cases_lt at k) [
        | inl later ↦ still k h later there
        | inr same ↦ (
            let is : k ≡ at = omega (arith, past, same) in
            let equal : g ≡ h = some_is (sym here ∙ ap (slice_get gates) (sym is) ∙ there) in
            subst (HasLiteral f graph new.entries after) equal
            (record { literal = l; found = updates.1; stands = gate_literal_stands l new leaf.leaf_is }))
      ];
    } where
      stay : NamesStay log.entries new.entries
      stay = names_stay no_formula (group_variable terms.group) 0 log new (grew no_formula 0)

      apart : (h : ℕ) → g ≢ h → is_at (nat_cmp g) h ≡ false
      apart h other = elim (cases_lt g h) [
        | inl less ↦ ap (λ b. is_eq (cond b Less (cond (g == h) Equal Greater))) (lt-ltb g h less)
        | inr most ↦ ap (λ b. is_eq (cond b Less (cond (g == h) Equal Greater))) (le-ltb g h most) ∙ ap
            (λ b. is_eq (cond b Equal Greater)) (ne_eqb g h other)
      ]

      others : (k h : ℕ) → at < k → slice_get gates k ≡ Some h → g ≢ h
      others k h later there equal =
          let down = cone.descending at k g later (slice_get_within gates k h there) in
          let one : get_or gates at g ≡ g = at_here g in
          let other : get_or gates k g ≡ h = get_or_from_slice_get gates k h g there in
          omega (arith, down, one, other, equal)

      still : (k h : ℕ) → at < k → slice_get gates k ≡ Some h → HasLiteral f graph new.entries after h
      still k h later there =
          let before = known_still f graph log.entries literals new.entries stay h
          (far.each k h (let one = some in omega (arith, later, one)) there) in
          record {
            literal = before.literal;
            found = updates.2 h (apart h (others k h later there)) ∙ before.found;
            stands = before.stands;
          }

pub node_known : (f : Dqbf) (graph : AigGraph) (node : Node) (gates : List ℕ) (first : Terms) (old : ProofLog)
    (terms : Terms) (log : ProofLog) (literals : BTreeMap ℕ Literal) (at : ℕ) → at ≡ 0 →
    AreConeGates graph node gates →
    AreLiteralsFrom f graph gates first old terms log literals at → IsKnown f graph log.entries literals node
node_known f graph node gates first old terms log literals at none cone far g is = search (arith, slice_get-get_or)
