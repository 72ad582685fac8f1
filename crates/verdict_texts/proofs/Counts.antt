-- What small logs give is within the formats' limits.
use Rattle.std.proofs.Common.{◌≡◌, ◌+◌, ◌≤◌, ℕ, Bool, cond, true, false, refl, arith, List, [], ◌∷◌, length}
use Rattle.std.proofs.lemmas.List.{length-append, length-map}
use Rattle.dq_lits.specs.Formula.{Dqbf, HasLawfulPrefix}
use Rattle.dq_lits.proofs.FormulaVariables.{few_declared}
use Rattle.hint_log.specs.Entries.{Entry, count}
use Rattle.cert_export.specs.ExportedCircuit.{is_gate_name}
use Rattle.cert_export.specs.Lines.{is_lemma}
use Rattle.proof_deletions.specs.Laws.{DeletionsAreAllowed}
use Rattle.aiger_text.specs.declared.files.AagFile.{AagFile}
use Rattle.cert_text.specs.declared.circuit_proofs.Dqp.{Dqp}
use Rattle.ordered_gates.specs.Circuits.{ordered_item, ordered_proof}
use Rattle.verdict_texts.proofs.WrittenForms.{written_few}
use Rattle.verdict_texts.specs.Forms.{ordered_lines}
use Rattle.verdict_texts.specs.Accepted.{SmallLogsAreWithinLimits}

one_more : (few all : ℕ) (b : Bool) → few ≤ all → cond b (few + 1) few ≤ all + 1
one_more few all true less = omega (arith, less)
one_more few all false less = omega (arith, less)

-- some of the entries are no more than all
pub count_few : (test : Entry → Bool) (entries : List Entry) → count test entries ≤ length entries
count_few test [] = omega arith
count_few test (e ∷ earlier) = search (arith, (count_few test earlier))

pub universals_few : (f : Dqbf) → HasLawfulPrefix f → length f.universals ≤ f.variables + 1
universals_few f prefix = search (arith, few_declared, length-append)

-- ordered lines are as many
ordered_many : (b : Bool) (file : AagFile) (proof : Dqp) →
    length (cond b (ordered_proof file.circuit proof) proof).items ≡ length proof.items
ordered_many true file proof = length-map proof.items (ordered_item file.circuit.gates)
ordered_many false file proof = refl

pub small_within : DeletionsAreAllowed → SmallLogsAreWithinLimits
small_within laws f entries file proof form lawful gates numbers lines small =
    let few_gates = count_few is_gate_name entries in
    let few_lines = count_few is_lemma entries in
    let written = written_few laws form (ordered_lines form file proof).items in
    let ordered = ordered_many form.binary file proof in
    let few = universals_few f lawful.prefix in
    let variables = lawful.few_variables in
    record {
      variables = omega (arith, gates, numbers, few_gates, few, variables, small);
      items = omega (arith, lines, few_lines, small, written, ordered);
    }
