-- The canonical texts of refutations and of circuits' proofs: one space between tokens, and LF at
-- the end of each line; version 2 where something is deleted, and else version 1.
use Rattle.std.specs.Prelude.{ℕ, Bool, true, false, not, List, ◌∷◌, ◌++◌, length, codes, if◌then◌else◌}
use Rattle.std.specs.List.{flat_map, list_any, zip}
use Rattle.dq_lits.specs.Derivation.{ProofStep}
use Rattle.dq_lits.specs.Literal.{Literal, variable_of, is_negative}
use Rattle.dq_text.specs.Written.{number_text, number_line, line_end}
use Rattle.rup_core.specs.Items.{ProofItem, derived, gone}
use Rattle.cert_text.specs.Header.{proof_word, refutation_word}
use Rattle.cert_text.specs.KeptItems.{is_deletion}
use Rattle.cert_text.specs.declared.circuit_proofs.Dqp.{Dqp}
use Rattle.cert_text.specs.declared.refutations.Dqr.{Dqr}
use Rattle.cert_text.specs.declared.versions.Version.{Version}
use Rattle.cert_text.specs.declared.versions.Version.TheVariants.{One, Two}

-- a variable, behind a minus where it is negated, and a space
abbrev pub signed_text : Bool → ℕ → List ℕ
signed_text true v = number_text v
signed_text false v = 45 ∷ number_text v

abbrev pub literal_text : Literal → List ℕ
literal_text l = signed_text (not (is_negative l)) (variable_of l)

abbrev pub version_for : List ProofItem → Version
version_for items = if list_any is_deletion items then Two else One

abbrev pub header_text : Version → ℕ → ℕ → List ℕ
header_text version rows items =
    codes "p " ++ (refutation_word version ++ (codes " " ++ (number_text rows ++ number_line items)))

-- `u`, each universal with its bit as its sign, and `0`
abbrev pub row_text : List ℕ → List Bool → List ℕ
row_text universals row =
    codes "u " ++ (flat_map (λ x. signed_text x.1 x.0) (zip universals row) ++ line_end)

-- the id, the literals and `0`, the hints and `0`
abbrev pub step_text : ProofStep → List ℕ
step_text s =
    number_text s.id
    ++ (flat_map literal_text s.literals
    ++ (codes "0 " ++ (flat_map number_text s.hints ++ line_end)))

-- `d`, the ids and `0`
abbrev pub deletion_text : List ℕ → List ℕ
deletion_text ids = codes "d " ++ (flat_map number_text ids ++ line_end)

abbrev pub item_text : ProofItem → List ℕ
item_text (derived s) = step_text s
item_text (gone ids) = deletion_text ids

-- the header, a line for each row, a line for each item
abbrev pub canonical : List ℕ → Dqr → List ℕ
canonical universals d =
    header_text (version_for d.items) (length d.rows) (length d.items)
    ++ (flat_map (row_text universals) d.rows ++ flat_map item_text d.items)

abbrev pub proof_header_text : Version → ℕ → List ℕ
proof_header_text version items = proof_word version ++ (codes " " ++ number_line items)

-- the header, a line for each item
abbrev pub canonical_proof : Dqp → List ℕ
canonical_proof d =
    proof_header_text (version_for d.items) (length d.items) ++ flat_map item_text d.items
