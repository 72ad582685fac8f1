-- A text has a byte or more for each gate and for each item of a proof.
use Rattle.std.proofs.Common.{◌≡◌, ◌+◌, ◌*◌, ◌/◌, ◌%◌, ◌≤◌, ◌==◌, ◌&&◌, nat_lt, ℕ, suc, Bool, cond, true, false, refl, subst, arith, List, [], ◌∷◌, ◌++◌, length, codes}
use Rattle.std.specs.List.{flat_map}
use Rattle.std.proofs.lemmas.Bool.{and_parts, eqb-true}
use Rattle.std.proofs.lemmas.List.{length-append, length-map}
use Rattle.rup_core.specs.Items.{ProofItem, derived, gone}
use Rattle.circuit_plain.specs.declared.circuits.Gate.{Gate}
use Rattle.aiger_text.specs.Canonical.{canonical_circuit, ending_text, gate_text}
use Rattle.aiger_text.specs.declared.files.AagFile.{AagFile}
use Rattle.aig_binary.specs.Written.{binary_text, delta_text, gate_code}
use Rattle.cert_text.specs.Canonical.{item_text}
use Rattle.cert_text.specs.Header.{max_count}
use Rattle.cert_text.specs.declared.circuit_proofs.Dqp.{Dqp}
use Rattle.dq_runs.specs.Printed.{line}
use Rattle.skolem_checker.specs.Tables.{IsMapping}
use Rattle.skolem_checker.proofs.OntoLaws.{IsMapped, mapped}
use Rattle.ordered_gates.specs.Circuits.{are_from, are_sorted, ordered_file, ordered_gate}
use Rattle.verdict_texts.specs.Accepted.{ShortTextsAreWithinLimits}
use Rattle.verdict_texts.specs.Forms.{written_file, written_proof}
use Rattle.verdict_texts.specs.Verdicts.{circuit_text, with_proof}
use Rattle.verdict_texts.proofs.Counts.{universals_few}

-- ---- pieces with a byte or more, and with two or more

pieces_long : {X : Type 0} (piece : X → List ℕ) → ((x : X) → 1 ≤ length (piece x)) → (xs : List X) →
    length xs ≤ length (flat_map piece xs)
pieces_long piece each [] = omega arith
pieces_long piece each (x ∷ xs) = search (arith, (pieces_long piece each xs), length-append)

pieces_twice : {X : Type 0} (piece : X → List ℕ) → ((x : X) → 2 ≤ length (piece x)) → (xs : List X) →
    2 * length xs ≤ length (flat_map piece xs)
pieces_twice piece each [] = omega arith
pieces_twice piece each (x ∷ xs) = search (arith, (pieces_twice piece each xs), length-append)

-- what stands before or behind
longer_before : (xs ys : List ℕ) → length xs ≤ length (xs ++ ys)
longer_before xs ys = let both = length-append xs ys in omega (arith, both)

longer_behind : (xs ys : List ℕ) → length ys ≤ length (xs ++ ys)
longer_behind xs ys = let both = length-append xs ys in omega (arith, both)

behind_some : (xs : List ℕ) (byte : ℕ) (ys : List ℕ) → 1 ≤ length (xs ++ byte ∷ ys)
behind_some xs byte ys = let both = length-append xs (byte ∷ ys) in omega (arith, both)

-- ---- each piece

item_long : (item : ProofItem) → 1 ≤ length (item_text item)
item_long (derived s) = search (arith, behind_some, longer_before, codes)
item_long (gone ids) = omega arith

gate_long : (g : Gate) → 1 ≤ length (gate_text g)
gate_long g = search (arith, behind_some, longer_before)

some_bytes : (b : Bool) (x y : ℕ) (xs : List ℕ) → 1 ≤ length (cond b (x ∷ []) (y ∷ xs))
some_bytes true x y xs = omega arith
some_bytes false x y xs = omega arith

delta_long : (groups n : ℕ) → 1 ≤ length (delta_text (suc groups) n)
delta_long groups n = some_bytes (nat_lt n 128) n (128 + n % 128) (delta_text groups (n / 128))

code_long : (g : Gate) → 2 ≤ length (gate_code g)
code_long g = search (arith, delta_long, length-append)

-- ---- the texts

ending_long : (file : AagFile) (d : Dqp) → length d.items ≤ length (ending_text (with_proof file d))
ending_long file d = search (arith, pieces_long, item_long, longer_behind)

-- both forms: bytes for the gates, for the inputs in ASCII, and for the proof
ascii_long : (file : AagFile) (d : Dqp) →
    (length file.circuit.inputs + length file.circuit.gates ≤ length (canonical_circuit (with_proof file d)))
    × (length d.items ≤ length (canonical_circuit (with_proof file d)))
ascii_long file d = search (arith, pieces_long, gate_long, longer_behind, length-append, ending_long)

binary_long : (file : AagFile) (d : Dqp) →
    (2 * length file.circuit.gates ≤ length (binary_text (with_proof file d)))
    × (length d.items ≤ length (binary_text (with_proof file d)))
binary_long file d = search (arith, pieces_twice, code_long, ending_long, longer_before, longer_behind, codes)

abbrev form_text : Bool → AagFile → List ℕ
form_text b file = cond b (binary_text file) (canonical_circuit file)

text_within : (b : Bool) (file : AagFile) (d : Dqp) → length file.circuit.inputs ≤ 1000001 →
    length (form_text b (with_proof file d)) ≤ max_count →
    (length file.circuit.inputs + length file.circuit.gates ≤ max_count) × (length d.items ≤ max_count)
text_within true file d few short = search (arith, binary_long)
text_within false file d few short = search (arith, ascii_long)

-- ---- a circuit with its proof

written_inputs : (b : Bool) (file : AagFile) →
    length (cond b (ordered_file file) file).circuit.inputs ≡ length file.circuit.inputs
written_inputs true file = refl
written_inputs false file = refl

written_gates : (b : Bool) (file : AagFile) →
    length (cond b (ordered_file file) file).circuit.gates ≡ length file.circuit.gates
written_gates true file = length-map file.circuit.gates ordered_gate
written_gates false file = refl

pub short_within : ShortTextsAreWithinLimits
short_within f file proof form lawful proved sorted short =
    let net = file.circuit in
    let written = written_file form file in
    let maps : IsMapping f net proved.skolem.mapping =
    subst (IsMapped f net) proved.skolem.maps (mapped f net file.symbols lawful.prefix) in
    let sums = and_parts (net.max_var == length net.inputs + length net.gates)
    (are_from 1 net.inputs && are_sorted (length net.inputs + 1) net.gates) sorted in
    let numbers = eqb-true net.max_var (length net.inputs + length net.gates) sums.0 in
    let few = universals_few f lawful.prefix in
    let inputs = written_inputs form.binary file in
    let gates = written_gates form.binary file in
    let count = maps.inputs_length in
    let most = lawful.few_variables in
    let behind_verdict = longer_behind (cond form.bare [] (line (codes "s TRUE"))) (circuit_text form file proof) in
    let within = text_within form.binary written (written_proof form file proof)
    (omega (arith, inputs, count, few, most)) (omega (arith, short, behind_verdict)) in
    record {
      variables = omega (arith, numbers, inputs, gates, within.0);
      items = within.1;
    }
