-- The gates of a graph, by their numbers.
use Rattle.std.proofs.Common.{◌≡◌, ◌≢◌, ℕ, ◌-◌, ◌<◌, ◌==◌, Bool, true, false, cond, List, [], ◌∷◌, ◌++◌, reverse, length, take, drop, length-drop, get_or, Some, refl, sym, ◌∙◌, ap, subst, arith}
use Rattle.std.proofs.lemmas.Bool.{eqb-true, eq-eqb, false≢true}
use Rattle.std.proofs.Math.Seq.{drop-append_seam}
use Rattle.std.proofs.lemmas.List.{length-reverse, get_or-reverse, reverse-append, take-append-drop}
use Rattle.aig_graph.specs.declared.nodes.Sides.{Sides}
use Rattle.aig_graph.specs.Graph.{AigGraph, AreSides, AreGates, gate_at}

gate_at_place : (gates : List Sides) (g : ℕ) (d : Sides) → g < length gates →
    gate_at gates g ≡ Some (get_or gates (length gates - 1 - g) d)
gate_at_place [] g d below = absurd (omega arith)
gate_at_place (s ∷ earlier) g d below = search (arith, (gate_at_place earlier g d), eqb-true, eq-eqb)

-- as they are kept
pub gate_at_kept : (graph : AigGraph) (inputs : ℕ) (kept : List Sides) (g : ℕ) (s : Sides) →
    record { inputs = inputs; gates = reverse kept } ≡ graph → g < length graph.gates → s ≡ get_or kept g s →
    gate_at graph.gates g ≡ Some s
gate_at_kept graph inputs kept g s is below element =
    let same : reverse kept ≡ graph.gates = ap (λ (x : AigGraph). x.gates) is in
    let small : g < length (reverse kept) = subst (λ xs. g < length xs) (sym same) below in
    let long = length-reverse kept in
    let place : length (reverse kept) - 1 - g < length kept = omega (arith, small, long) in
    let back : length kept - 1 - (length (reverse kept) - 1 - g) ≡ g = omega (arith, small, long) in
    ap (λ xs. gate_at xs g) (sym same) ∙ gate_at_place (reverse kept) g s small
    ∙ ap Some (get_or-reverse kept (length (reverse kept) - 1 - g) s place ∙ ap (λ k. get_or kept k s) back
    ∙ sym element)

pub sides_are : (inputs : ℕ) (gates : List Sides) (g : ℕ) (s : Sides) → AreGates inputs gates →
    gate_at gates g ≡ Some s → AreSides inputs g s
sides_are inputs [] g s all at = cc
sides_are inputs (x ∷ earlier) g s all at = search (arith, (sides_are inputs earlier g s all.1), eqb-true)

-- the gates added first
pub gates_behind : (inputs : ℕ) (more gates : List Sides) → AreGates inputs (more ++ gates) → AreGates inputs gates
gates_behind inputs [] gates all = all
gates_behind inputs (s ∷ more) gates all = gates_behind inputs more gates all.1

pub first_gates : (kept : List Sides) (count : ℕ) → reverse (take count kept) ≡ drop (length (reverse kept) - count)
    (reverse kept)
first_gates kept count =
    let whole = ap reverse (sym (take-append-drop count kept)) ∙ reverse-append (take count kept) (drop count kept) in
    let long : length (reverse kept) - count ≡ length (reverse (drop count kept)) = let a = length-reverse kept in
    let b = length-reverse (drop count kept) in let d = length-drop count kept in omega (arith, a, b, d) in
    sym (ap (λ k. drop k (reverse kept)) long ∙ ap (drop (length (reverse (drop count kept)))) whole ∙ drop-append_seam
    (reverse (drop count kept)) (reverse (take count kept)))

pub first_gates_lawful : (inputs : ℕ) (kept : List Sides) (count : ℕ) → AreGates inputs (reverse kept) →
    AreGates inputs (reverse (take count kept))
first_gates_lawful inputs kept count all =
    let whole = ap reverse (sym (take-append-drop count kept)) ∙ reverse-append (take count kept) (drop count kept) in
    gates_behind inputs (reverse (drop count kept)) (reverse (take count kept)) (subst (AreGates inputs) whole all)

pub gate_there : (gates : List Sides) (g : ℕ) → g < length gates → (s : Sides) × (gate_at gates g ≡ Some s)
gate_there [] g below = absurd (omega arith)
gate_there (x ∷ gates) g below = by_bit (g == length gates) refl (gate_there gates g) where
  by_bit : (b : Bool) → (g == length gates) ≡ b → (g < length gates → (s : Sides) × (gate_at gates g ≡ Some s)) →
      (s : Sides) × (cond b (Some x) (gate_at gates g) ≡ Some s)
  by_bit true e later = (x, refl)
  by_bit false e later = let differ : g ≢ length gates = λ is. false≢true (sym e ∙ eq-eqb g (length gates) is) in
      later (omega (arith, below, differ))
