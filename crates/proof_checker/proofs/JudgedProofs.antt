-- What the judgement of a circuit's proof asks of its base and its items.
use Rattle.std.proofs.Common.{◌≡◌, ℕ, zero, suc, ◌≤◌, ◌<◌, ◌^◌, Bool, true, List, [], ◌∷◌, length, None, subst, arith}
use Rattle.std.specs.List.{All, AllByRecursion}
use Rattle.std.proofs.lemmas.List.Elements.{recursion_from_All}
use Rattle.std.proofs.lemmas.Option.{slice_get_past}
use Rattle.rup_core.specs.Items.{ProofItem, derived, gone}
use Rattle.aiger_text.specs.Lines.{max_count}
use Rattle.cert_text.specs.CircuitProof.{is_proof_variable, first_proof_id}
use Rattle.cert_text.specs.Grammar.{AreItems, IsSmallItem}
use Rattle.cert_text.specs.Header.{max_count as max_lines}
use Rattle.cert_text.specs.Numbering.{numbered_from, are_live}
use Rattle.cert_text.proofs.NegatedClauses.{clauses_counted}
use Rattle.skolem_checker.specs.Checks.{Candidate}
use Rattle.proof_checker.specs.CircuitProof.{negated_candidate}
use Rattle.proof_checker.specs.Lines.{AreProofLines}

-- no clause of the negated matrix has the id of a line or a later one
pub none_behind : (c : Candidate) (id : ℕ) → first_proof_id c.formula c.circuit.netlist ≤ id →
    negated_candidate c id ≡ None
none_behind c zero le = absurd (omega (arith, le))
none_behind c (suc i) le = search (arith, clauses_counted, slice_get_past)

-- nothing can be deleted at first, so that the first item is a line
first_small : (p : ℕ → Bool) (first : ℕ) (items : List ProofItem) → 1 ≤ length items →
    AreItems p (numbered_from first) items → AllByRecursion IsSmallItem items → first < 10 ^ 18
first_small p first [] some are small = absurd (omega (arith, some))
first_small p first (derived s ∷ items) some are small = subst (λ id. id < 10 ^ 18) are.0.numbered small.0.id
first_small p first (gone ids ∷ items) some are small = absurd (no_ids ids are.0.some are.0.live)
  where
    no_ids : (ids : List ℕ) → 1 ≤ length ids → are_live (numbered_from first) ids ≡ true → ⊥
    no_ids [] some live = omega (arith, some)
    no_ids (id ∷ ids) some live = cc

pub proof_lines : (c : Candidate) (items : List ProofItem) → 1 ≤ length items → c.circuit.netlist.max_var ≤ max_count →
    length items ≤ max_lines → AreItems (is_proof_variable c.formula c.circuit.netlist)
    (numbered_from (first_proof_id c.formula c.circuit.netlist)) items →
    All IsSmallItem items → AreProofLines c items
proof_lines c items some few few_lines are small = search (arith, first_small, recursion_from_All)
