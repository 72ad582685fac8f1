-- Partial interpolants: leaves, resolution, and the answer's own literals (K. McMillan, 2003).
use Rattle.std.proofs.Common.{◌≡◌, ◌⊎◌, ℕ, Bool, true, false, true≢false, not, ◌||◌, ◌&&◌, inl, inr, List, ◌∷◌, map, Option, Some, None, IsSome, refl, sym, ◌∙◌, ap, arith}
use Rattle.std.specs.Option.{is_some}
use Rattle.std.specs.List.{list_all}
use Rattle.std.proofs.lemmas.Bool.{and_parts, or_cases, or_left, or_right, cases_Bool}
use Rattle.list_laws.proofs.Members.{no_element}
use Rattle.dq_lits.specs.Literal.{Assignment, Literal, positive, variable_of, opposite, literal_true}
use Rattle.dq_lits.specs.Derivation.{holds}
use Rattle.dq_lits.proofs.Truth.{same_literal-sound, literal_true-opposite}
use Rattle.dq_lits.proofs.HeldLiterals.{any_one, any_gives, negated-held, holds-opposites}
use Rattle.dq_lits.proofs.SignedLiterals.{opposite_variable, opposite-opposite}
use Rattle.hint_log.specs.Entries.{clause_at}
use Rattle.aig_graph.specs.Graph.{AigGraph, node_value, IsNode}
use Rattle.aig_graph.specs.Made.{Extends, IsMade}
use Rattle.interpolants.specs.Interpolant.{Partition, node_of, is_on_a, IsReachedGiven, Agrees, IsOfA, IsOfB, SharesAll, AreNodes, IsSharedInput, ReadsShared, IsInterpolant}
use Rattle.interpolants.specs.Parts.{AreTrueOn, IsPart, is_true_shared, IsSharedPart, is_asked_true, IsAsked}
use Rattle.interpolants.specs.Sides.{is_local, AreOfA}
use Rattle.aig_graph.specs.declared.nodes.Node.{Node}
use Rattle.aig_graph.specs.declared.nodes.Node.TheVariants.{Constant}
use Rattle.interpolants.proofs.Truth.{all_from, stands_there}
use Rattle.dq_lits.proofs.LiteralValues.{all_give}

-- what holds of shared nodes as a graph grows
pub agrees_before : (shared : List (ℕ × Node)) (old new : AigGraph) → Extends old new → AreNodes shared old →
    (inputs : ℕ → Bool) (m : Assignment) →
    Agrees shared new inputs m → Agrees shared old inputs m
agrees_before shared old new e nodes inputs m agrees v n is = sym (e.values n (nodes v n is) inputs) ∙ agrees v n is

pub input_after : (shared : List (ℕ × Node)) (old new : AigGraph) → Extends old new → AreNodes shared old → (i : ℕ) →
    IsSharedInput shared old i → IsSharedInput shared new i
input_after shared old new e nodes i s = search arith

pub nodes_after : (shared : List (ℕ × Node)) (old new : AigGraph) → Extends old new → AreNodes shared old →
    AreNodes shared new
nodes_after shared old new e nodes v n is = e.nodes n (nodes v n is)

pub reads_kept : (shared : List (ℕ × Node)) (old new : AigGraph) (n : Node) → Extends old new → AreNodes shared old →
    IsNode old n → ReadsShared shared old n →
    ReadsShared shared new n
reads_kept shared old new n e nodes is reads i has = search (arith, (input_after shared old new e nodes i))

pub reads_made : (shared : List (ℕ × Node)) (old new : AigGraph) (f : Bool → Bool → Bool) (a b n : Node) →
    Extends old new → AreNodes shared old →
    ReadsShared shared old a → ReadsShared shared old b → IsMade f old new a b n → ReadsShared shared new n
reads_made shared old new f a b n e nodes of_a of_b made i has =
    elim (made.reads i has) [
      | inl left ↦ input_after shared old new e nodes i (of_a i left)
      | inr right ↦ input_after shared old new e nodes i (of_b i right)
    ]

-- as a graph grows
pub part_kept : (q : Partition) (local : ℕ → Bool) (old new : AigGraph) (trues : List Literal) (n : Node) →
    Extends old new → AreNodes q.shared old →
    IsPart q local old trues n → IsPart q local new trues n
part_kept q local old new trues n e nodes part = record {
  is_node = e.nodes n part.is_node;
  follows = λ inputs m agrees side t. e.values n part.is_node inputs ∙ part.follows inputs m
      (agrees_before q.shared old new e nodes inputs m agrees) side t;
  contradicts = λ inputs m agrees side t v.
      part.contradicts inputs m (agrees_before q.shared old new e nodes inputs m agrees) side t
      (sym (e.values n part.is_node inputs) ∙ v);
  reads = reads_kept q.shared old new n e nodes part.is_node part.reads;
}

-- monotone in the clause
pub part_weaker : (q : Partition) (local : ℕ → Bool) (g : AigGraph) (trues more : List Literal) (n : Node) →
    ((l : Literal) → holds trues l ≡ true → holds more l ≡ true) →
    IsPart q local g trues n → IsPart q local g more n
part_weaker q local g trues more n sub part = record {
  is_node = part.is_node;
  follows = λ inputs m agrees side t. part.follows inputs m agrees side (λ l h. t l (sub l h));
  contradicts = λ inputs m agrees side t v. part.contradicts inputs m agrees side (λ l h. t l (sub l h)) v;
  reads = part.reads;
}

-- with one more true literal
with_pivot : (local : ℕ → Bool) (side : Bool) (m : Assignment) (trues : List Literal) (x : Literal) →
    AreTrueOn local side m trues →
    (local (variable_of x) ≡ side → literal_true m x ≡ true) → AreTrueOn local side m (x ∷ trues)
with_pivot local side m trues x t pivot l h s = search (arith, or_cases, same_literal-sound)

-- the other literals of a clause that leads to the pivot are false
without_pivot : (local : ℕ → Bool) (side : Bool) (m : Assignment) (trues clause : List Literal) (x : Literal) →
    AreTrueOn local side m trues →
    ((l : Literal) → holds clause l ≡ true → (l ≡ x) ⊎ (holds trues (opposite l) ≡ true)) →
    (local (variable_of x) ≡ side → literal_true m x ≡ false) → AreTrueOn local side m (map opposite clause)
without_pivot local side m trues clause x t leads pivot l h s =
    search (arith, holds-opposites, opposite-opposite, literal_true-opposite, opposite_variable)

-- a pivot of the A side
pub resolve_local : (q : Partition) (local : ℕ → Bool) (old new : AigGraph) (trues clause : List Literal) (x : Literal)
    (p r n : Node) →
    AreNodes q.shared old → Extends old new → IsPart q local old (x ∷ trues) p →
    IsPart q local old (map opposite clause) r →
    ((l : Literal) → holds clause l ≡ true → (l ≡ x) ⊎ (holds trues (opposite l) ≡ true)) →
    local (variable_of x) ≡ true →
    IsMade (λ a b. a || b) old new p r n → IsPart q local new trues n
resolve_local q local old new trues clause x p r n nodes e left right leads is_local' made = record {
  is_node = made.is_node;
  follows = λ inputs m agrees side t.
      let before = agrees_before q.shared old new e nodes inputs m agrees in
      made.value inputs ∙ elim (cases_Bool (literal_true m x)) [
        | inl is_true ↦
            or_left (node_value old inputs p) (node_value old inputs r)
            (left.follows inputs m before side (with_pivot local true m trues x t (λ s. is_true)))
        | inr is_false ↦
            or_right (node_value old inputs p) (node_value old inputs r)
            (right.follows inputs m before side (without_pivot local true m trues clause x t leads (λ s. is_false)))
      ];
  contradicts = λ inputs m agrees side t v.
      let before = agrees_before q.shared old new e nodes inputs m agrees in
      elim (or_cases (node_value old inputs p) (node_value old inputs r) (sym (made.value inputs) ∙ v)) [
        | inl here ↦ left.contradicts inputs m before side (with_pivot local false m trues x t
            (λ s. absurd (true≢false (sym is_local' ∙ s)))) here
        | inr there ↦
            right.contradicts inputs m before side (without_pivot local false m trues clause x t leads
            (λ s. absurd (true≢false (sym is_local' ∙ s)))) there
      ];
  reads = reads_made q.shared old new (λ a b. a || b) p r n e nodes left.reads right.reads made;
}

-- any other pivot
pub resolve_other : (q : Partition) (local : ℕ → Bool) (old new : AigGraph) (trues clause : List Literal) (x : Literal)
    (p r n : Node) →
    AreNodes q.shared old → Extends old new → IsPart q local old (x ∷ trues) p →
    IsPart q local old (map opposite clause) r →
    ((l : Literal) → holds clause l ≡ true → (l ≡ x) ⊎ (holds trues (opposite l) ≡ true)) →
    local (variable_of x) ≡ false →
    IsMade (λ a b. a && b) old new p r n → IsPart q local new trues n
resolve_other q local old new trues clause x p r n nodes e left right leads other made = record {
  is_node = made.is_node;
  follows = λ inputs m agrees side t.
      let before = agrees_before q.shared old new e nodes inputs m agrees in
      let here = left.follows inputs m before side (with_pivot local true m trues x t
      (λ s. absurd (true≢false (sym s ∙ other)))) in
      let there = right.follows inputs m before side (without_pivot local true m trues clause x t leads
      (λ s. absurd (true≢false (sym s ∙ other)))) in
      made.value inputs ∙ ap (λ b. b && node_value old inputs r) here ∙ there;
  contradicts = λ inputs m agrees side t v.
      let before = agrees_before q.shared old new e nodes inputs m agrees in
      let both = and_parts (node_value old inputs p) (node_value old inputs r) (sym (made.value inputs) ∙ v) in
      elim (cases_Bool (literal_true m x)) [
        | inl is_true ↦ left.contradicts inputs m before side (with_pivot local false m trues x t (λ s. is_true)) both.0
        | inr is_false ↦ right.contradicts inputs m before side
            (without_pivot local false m trues clause x t leads (λ s. is_false)) both.1
      ];
  reads = reads_made q.shared old new (λ a b. a && b) p r n e nodes left.reads right.reads made;
}

-- which variables are local
not_shared : (b s : Bool) → (b && not s) ≡ true → (b ≡ true) × (s ≡ false)
not_shared true true h = cc
not_shared true false h = (refl, refl)
not_shared false s h = cc

shared_of : (b s : Bool) → (b && not s) ≡ false → b ≡ true → s ≡ true
shared_of true true h a = refl
shared_of true false h a = cc
shared_of false s h a = cc

local_is_a : (q : Partition) (variables : List Literal) → AreOfA q variables → (v : ℕ) →
    is_local q.shared variables v ≡ true → IsOfA q v × (is_some (node_of q.shared v) ≡ false)
local_is_a q variables of_a v h = search (arith, not_shared)

other_is_shared : (q : Partition) (variables : List Literal) → AreOfA q variables → (v : ℕ) → IsOfA q v →
    is_local q.shared variables v ≡ false →
    is_some (node_of q.shared v) ≡ true
other_is_shared q variables of_a v is h = search (arith, shared_of)

is_shared : (o : Option Node) → IsSome o → is_some o ≡ true
is_shared None h = cc
is_shared (Some n) h = refl

local_not_b : (q : Partition) (variables : List Literal) → AreOfA q variables → SharesAll q → (v : ℕ) →
    is_local q.shared variables v ≡ true → IsOfB q v → ⊥
local_not_b q variables of_a shares v h of_b = search (arith, local_is_a, true≢false, is_shared)

shared_not_local : (b s : Bool) → s ≡ true → (b && not s) ≡ false
shared_not_local true true h = refl
shared_not_local true false h = cc
shared_not_local false s h = refl

-- no literal is true beside its negation
one_of : (m : Assignment) (l : Literal) → literal_true m l ≡ true → literal_true m (opposite l) ≡ true → ⊥
one_of m l a b = true≢false (sym b ∙ literal_true-opposite m l ∙ ap not a)

asked_true : (a s t : Bool) → (a ≡ true → t ≡ true) → (not (a && s) || t) ≡ true
asked_true true true t h = h refl
asked_true true false t h = refl
asked_true false s t h = refl

asked_is : (a s t t' : Bool) → (not (a && s) || t) ≡ true → a ≡ true → s ≡ true → t ≡ t' → t' ≡ true
asked_is true true t t' h a s e = sym e ∙ h
asked_is true false t t' h a s e = cc
asked_is false s t t' h a s' e = cc

-- a given clause of the A side: the shared part of it
pub leaf_a : (q : Partition) (variables : List Literal) (g : AigGraph) (at : ℕ) (clause : List Literal) (n : Node) →
    AreOfA q variables →
    IsReachedGiven q at clause → is_on_a q clause ≡ true → IsSharedPart q.shared g clause n →
    IsPart q (is_local q.shared variables) g (map opposite clause) n
leaf_a q variables g at clause n of_a given on_a part = record {
  is_node = part.is_node;
  follows = λ inputs m agrees side t.
      let w = any_gives (literal_true m) clause (side at clause given on_a) in
      let l = w.0 in
      let of : IsOfA q (variable_of l) = search (arith, stands_there) in
      part.value inputs m agrees ∙ elim (cases_Bool (is_local q.shared variables (variable_of l))) [
        | inl local ↦ absurd (one_of m l w.2 (t (opposite l) (negated-held clause l w.1)
            (ap (is_local q.shared variables) (opposite_variable l) ∙ local)))
        | inr other ↦
            any_one (is_true_shared q.shared m) clause l w.1
            (ap (λ b. b && literal_true m l) (other_is_shared q variables of_a (variable_of l) of other) ∙ w.2)
      ];
  contradicts = λ inputs m agrees side t v.
      let w = any_gives (is_true_shared q.shared m) clause (sym (part.value inputs m agrees) ∙ v) in
      let l = w.0 in
      let both = and_parts (is_some (node_of q.shared (variable_of l))) (literal_true m l) w.2 in
      let other : is_local q.shared variables (variable_of l) ≡ false =
      shared_not_local (holds variables (positive (variable_of l)))
      (is_some (node_of q.shared (variable_of l))) both.0 in
      one_of m l both.1 (t (opposite l) (negated-held clause l w.1)
      (ap (is_local q.shared variables) (opposite_variable l) ∙ other));
  reads = part.reads;
}

-- a given clause of the B side
pub leaf_b : (q : Partition) (variables : List Literal) (g : AigGraph) (at : ℕ) (clause : List Literal) →
    AreOfA q variables → SharesAll q →
    IsReachedGiven q at clause → is_on_a q clause ≡ false → IsPart q (is_local q.shared variables) g
    (map opposite clause) (Constant true)
leaf_b q variables g at clause of_a shares given on_b = record {
  is_node = tt;
  follows = λ inputs m agrees side t. refl;
  contradicts = λ inputs m agrees side t v.
      let w = any_gives (literal_true m) clause (side at clause given on_b) in
      let l = w.0 in
      let of : IsOfB q (variable_of l) = search (arith, stands_there) in
      elim (cases_Bool (is_local q.shared variables (variable_of l))) [
        | inl local ↦ local_not_b q variables of_a shares (variable_of l) local of
        | inr other ↦ one_of m l w.2 (t (opposite l) (negated-held clause l w.1)
            (ap (is_local q.shared variables) (opposite_variable l) ∙ other))
      ];
  reads = λ i has. absurd (no_element i has);
}

-- the answer's own literals
pub answer_part : (q : Partition) (variables : List Literal) (old new : AigGraph) (clause : List Literal) (p n : Node) →
    AreOfA q variables → SharesAll q →
    AreNodes q.shared old → Extends old new →
    clause_at q.entries q.id ≡ Some clause → IsPart q (is_local q.shared variables) old (map opposite clause) p →
    IsAsked q.shared q.a_side clause old new p n →
    IsInterpolant q new n
answer_part q variables old new clause p n of_a shares nodes e found part asked = record {
  is_node = asked.is_node;
  follows = λ inputs m agrees side assumed.
      let before = agrees_before q.shared old new e nodes inputs m agrees in
      let here = part.follows inputs m before side (λ l h local.
      elim (cases_Bool (holds q.a_side l)) [
        | inl of_side ↦ assumed l of_side
        | inr of_other ↦ search (arith, local_not_b, holds-opposites)
      ]) in
      let there = all_from (is_asked_true q.shared q.a_side m) clause
      (λ l h. asked_true (holds q.a_side (opposite l)) (is_some (node_of q.shared (variable_of l)))
      (literal_true m (opposite l))
      (assumed (opposite l))) in
      asked.value inputs m agrees ∙ ap (λ b. b && list_all (is_asked_true q.shared q.a_side m) clause) here ∙ there;
  contradicts = λ inputs m agrees side others v.
      let before = agrees_before q.shared old new e nodes inputs m agrees in
      let both = and_parts (node_value old inputs p) (list_all (is_asked_true q.shared q.a_side m) clause)
      (sym (asked.value inputs m agrees) ∙ v) in
      part.contradicts inputs m before side (λ l h other.
      let in_clause : holds clause (opposite l) ≡ true = sym (holds-opposites clause l) ∙ h in
      elim (cases_Bool (holds q.a_side l)) [
        | inl of_side ↦
            search (arith, stands_there, other_is_shared, all_give, asked_is, opposite-opposite, opposite_variable)
        | inr of_other ↦ others l (record { clause = clause; clause_is = found; negated = in_clause; not_a = of_other })
      ]) both.0;
  reads = asked.reads;
}
