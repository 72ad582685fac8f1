-- A definition as a block has it, and the clauses that its proof starts from: the formula's
-- variables have their own numbers, those of their first copies in the log, and gates stand behind
-- them in the block's order.
use Rattle.std.specs.Prelude.{ℕ, ◌+◌, ◌*◌, ◌==◌, ◌&&◌, List, map, length, Option, None, Some, if◌then◌else◌}
use Rattle.std.specs.List.{position_or_len}
use Rattle.std.specs.Option.{option_map}
use Rattle.dq_lits.specs.Derivation.{ProofStep}
use Rattle.dq_lits.specs.Formula.{Dqbf}
use Rattle.dq_formula.specs.Prefix.{is_declared}
use Rattle.hint_log.specs.Entries.{Entry, name_of}
use Rattle.hint_log.specs.declared.names.Name.{Name}
use Rattle.hint_log.specs.declared.names.Name.TheVariants.{Copy as CopyOf, Term}
use Rattle.hint_log.specs.declared.origins.Leaf.{Leaf}
use Rattle.hint_log.specs.declared.origins.Origin.{Origin}
use Rattle.hint_log.specs.declared.origins.Origin.TheVariants.{Copy, TermGate, Differ}
use Rattle.circuit_plain.specs.declared.circuits.Gate.{Gate}
use Rattle.cert_text.specs.DefinitionBlocks.{Definition}
use Rattle.cert_export.specs.CircuitPart.{place_from_one, leaf_code, literal_code, or_zero}
use Rattle.cert_export.specs.Renaming.{Renaming}

abbrev pub definition_number : Dqbf → List ℕ → ℕ → Option Name → Option ℕ
definition_number f gates v (Some (CopyOf side x)) =
    if (side == 1) && is_declared f x then Some x else None
definition_number f gates v (Some (Term a b)) =
    option_map (λ p. f.variables + p) (place_from_one gates v)
definition_number f gates v _ = None

abbrev pub definition_renaming : Dqbf → List Entry → List ℕ → Renaming
definition_renaming f entries gates v = definition_number f gates v (name_of entries v)

abbrev pub term_gate : Renaming → ℕ → Option Name → Gate
term_gate r v (Some (Term a b)) =
    record { variable = or_zero (r v); left = literal_code r a; right = literal_code r b }
term_gate r v _ = record { variable = or_zero (r v); left = 0; right = 0 }

abbrev pub exported_gates : Dqbf → List Entry → List ℕ → List Gate
exported_gates f entries gates =
    map (λ v. term_gate (definition_renaming f entries gates) v (name_of entries v)) gates

abbrev pub exported_definition : Dqbf → List Entry → ℕ → Leaf → List ℕ → List ProofStep → Definition
exported_definition f entries y leaf gates steps = record {
  existential = y;
  output = leaf_code (definition_renaming f entries gates) leaf;
  gates = exported_gates f entries gates;
  steps = steps;
}

-- the id of a given clause: the matrix, three clauses for each gate, and that the existential and
-- the output differ
abbrev pub definition_id : Dqbf → List ℕ → Origin → ℕ
definition_id f gates (Copy side j) = j
definition_id f gates (TermGate v i) =
    length f.matrix + 3 * position_or_len (λ x. x == v) gates + i
definition_id f gates (Differ y leaf part) = length f.matrix + 3 * length gates + part
definition_id f gates _ = 0

abbrev pub last_definition_id : Dqbf → List ℕ → ℕ
last_definition_id f gates = length f.matrix + 3 * length gates + 2
