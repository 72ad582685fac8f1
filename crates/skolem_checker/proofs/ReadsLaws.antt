-- Reads by marks, by tables and by the mapping.
use Rattle.std.proofs.Common.{◌≡◌, ℕ, ◌<◌, Bool, List, length, ap, ◌∙◌, arith, Some, IsTrue, ◌↔◌}
use Rattle.std.specs.Prelude.{slice_index, slice_index_or}
use Rattle.std.specs.List.{All}
use Rattle.std.proofs.lemmas.List.{get_or-map, length-map}
use Rattle.dq_lits.specs.Formula.{Existential, Dqbf, existential_of}
use Rattle.dq_formula.specs.Prefix.{existential_variables}
use Rattle.circuit_plain.specs.Netlist.{Netlist, literal_variable}
use Rattle.circuit_plain.specs.Reach.{Reaches}
use Rattle.skolem_checker.specs.Checks.{existential_at, ReadsDeclaredBefore, IsFirstRead}
use Rattle.skolem_checker.specs.Tables.{ReadsByTables, ReadsByMarks}

pub variable_at : (f : Dqbf) (ys : List ℕ) (p : ℕ) → ys ≡ existential_variables f → p < length ys →
    slice_index_or ys p 0 ≡ (existential_at f p).variable
variable_at f ys p same below =
    ap (λ xs. slice_index_or xs p 0) same
    ∙ get_or-map (λ (y : Existential). y.variable) f.existentials p _ 0 (existential-below f ys p same below)
  where
    existential-below : (f : Dqbf) (ys : List ℕ) (p : ℕ) → ys ≡ existential_variables f → p < length ys →
        p < length f.existentials
    existential-below f ys p same below = search (arith, length-map)

pub named_at : (f : Dqbf) (p : ℕ) → All (λ y. existential_of f y.variable ≡ Some y) f.existentials →
    p < length f.existentials
    → existential_of f (existential_at f p).variable ≡ Some (existential_at f p)
named_at f p named below = named p _ below

pub before-from_marks : (f : Dqbf) (net : Netlist) (literals places : List ℕ) (marks : ℕ → Bool) (e : Existential)
    (end : ℕ)
    → ((v : ℕ) → IsTrue (marks v) ↔ Reaches net (literal_variable
    (slice_index net.outputs (slice_index places e.variable))) v)
    → ReadsDeclaredBefore (ReadsByMarks marks literals) f e end →
    ReadsDeclaredBefore (ReadsByTables net literals places) f e end
before-from_marks f net literals places marks e end reached before q below reads = search arith

pub first-from_marks : (f : Dqbf) (net : Netlist) (literals places : List ℕ) (marks : ℕ → Bool)
    (e : Existential) (x : ℕ)
    → ((v : ℕ) → IsTrue (marks v) ↔ Reaches net (literal_variable
    (slice_index net.outputs (slice_index places e.variable))) v)
    → IsFirstRead (ReadsByMarks marks literals) f e x → IsFirstRead (ReadsByTables net literals places) f e x
first-from_marks f net literals places marks e x reached h = search (arith, before-from_marks)
