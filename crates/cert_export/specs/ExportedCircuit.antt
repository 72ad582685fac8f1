-- What is exported for a true formula, and that the checkers of circuits and of their proofs accept
-- it.
use Rattle.std.specs.Prelude.{◌≡◌, ℕ, ◌+◌, ◌*◌, ◌<◌, ◌≤◌, ◌^◌, Bool, true, false, List, [], ◌∷◌, map, length, slice_index, Option, None, Some, Ok}
use Rattle.std.specs.Fmt.{decimal}
use Rattle.std.specs.List.{All, Contains, range_with_len}
use Rattle.dq_lits.specs.Derivation.{ProofStep}
use Rattle.dq_lits.specs.Formula.{Dqbf, IsWellFormed, HasLawfulPrefix}
use Rattle.rup_core.specs.Items.{derived}
use Rattle.dq_lits.specs.Literal.{Literal, negative}
use Rattle.dq_formula.specs.Prefix.{existential_variables}
use Rattle.hint_log.specs.Conditions.{AreLogged}
use Rattle.hint_log.specs.Deciding.{DecidesTrue, IsFaultLeaf}
use Rattle.hint_log.specs.Entries.{Entry, Named, Given, Answer, has_id, last_id, numbered}
use Rattle.hint_log.specs.Growth.{Each}
use Rattle.hint_log.specs.ProductiveLog.{IsDerivedByHints}
use Rattle.hint_log.specs.Reached.{Reaches, AreReached}
use Rattle.hint_log.specs.declared.names.Name.TheVariants.{And}
use Rattle.hint_log.specs.declared.origins.Leaf.{Leaf}
use Rattle.hint_log.specs.declared.origins.Origin.TheVariants.{Gate as GateOf, Fault}
use Rattle.aiger_text.specs.Lines.{max_count}
use Rattle.aiger_text.specs.Spellable.{IsSpellable}
use Rattle.aiger_text.specs.Symbol.{SymbolTable, name_at}
use Rattle.aiger_text.specs.declared.files.AagFile.{AagFile}
use Rattle.circuit_plain.specs.Netlist.{IsNetlist, gate_variables}
use Rattle.circuit_plain.specs.declared.circuits.Gate.{Gate}
use Rattle.cert_text.specs.CircuitProof.{is_proof_variable, first_proof_id}
use Rattle.cert_text.specs.Grammar.{AreSteps}
use Rattle.cert_text.specs.declared.circuit_proofs.Dqp.{Dqp}
use Rattle.proof_checker.specs.CircuitProof.{negated_candidate, circuit_proof_fault}
use Rattle.proof_checker.specs.ProvedCircuit.{IsProvedCircuit}
use Rattle.skolem_checker.specs.Checks.{candidate_of, ReadsDeclared}
use Rattle.skolem_checker.specs.SkolemCircuit.{IsComplete, ReadsUniversal}
use Rattle.cert_export.specs.CircuitPart.{CircuitPart, IsCircuitPart, IsRightCircuitClause, ReadSeen, circuit_renaming, circuit_id, exported_netlist, exported_candidate, last_base_id, max_number}
use Rattle.cert_export.specs.Given.{HasUniversalInputs, IsGivenRightly, EachGivenReached}
use Rattle.cert_export.specs.LineOrder.{IsRenamedBase}
use Rattle.cert_export.specs.Lines.{derived_ids, line_number, line_steps}
use Rattle.cert_export.specs.Renaming.{Renaming, IsInjective, IsRenamingOf}

-- no two variables have one number
abbrev pub CircuitNumbersAreInjective : Type 0
CircuitNumbersAreInjective =
    (f : Dqbf) (entries : List Entry) (e : CircuitPart) → AreLogged entries
    → IsInjective (circuit_renaming f entries e)

-- given clauses that are their origins', renamed, are those of the negated matrix, under its ids
abbrev pub CircuitClausesAreNegatedMatrix : Type 0
CircuitClausesAreNegatedMatrix =
    (f : Dqbf) (entries : List Entry) (e : CircuitPart) → IsWellFormed f → AreLogged entries
    → HasUniversalInputs f entries → IsCircuitPart f entries e
    → IsRenamedBase (circuit_renaming f entries e) (circuit_id f e)
    (IsRightCircuitClause f entries e)
    (negated_candidate (exported_candidate f entries e)) (last_base_id f e) entries

-- every gate and every output can be evaluated
abbrev pub ExportedCircuitIsComplete : Type 0
ExportedCircuitIsComplete =
    (f : Dqbf) (entries : List Entry) (e : CircuitPart) → AreLogged entries
    → HasUniversalInputs f entries → IsCircuitPart f entries e
    → IsComplete (exported_netlist f entries e)

-- each output reads only what its existential sees
abbrev pub ExportedCircuitReadsSeen : Type 0
ExportedCircuitReadsSeen =
    (f : Dqbf) (entries : List Entry) (e : CircuitPart) → IsWellFormed f → AreLogged entries
    → HasUniversalInputs f entries → IsCircuitPart f entries e
    → ReadSeen f entries e
    → ReadsDeclared (ReadsUniversal (exported_candidate f entries e).circuit) f

-- numbers are in range, and each variable is an input or a gate once
abbrev pub ExportedCircuitIsNetlist : Type 0
ExportedCircuitIsNetlist =
    (f : Dqbf) (entries : List Entry) (e : CircuitPart) → AreLogged entries
    → HasUniversalInputs f entries → IsCircuitPart f entries e
    → max_number f e < 2 ^ 62 → IsNetlist (exported_netlist f entries e)

-- each input's and each output's symbol is its variable's number
pub record AreNumberSymbols (f : Dqbf) (symbols : SymbolTable) : Type 0 where
  pub inputs : (p : ℕ) → p < length f.universals
      → name_at symbols.inputs p ≡ Some (decimal (slice_index f.universals p))
  pub outputs : (p : ℕ) → p < length (existential_variables f)
      → name_at symbols.outputs p ≡ Some (decimal (slice_index (existential_variables f) p))

-- names by place, from a place on
abbrev pub number_names : ℕ → List ℕ → List (ℕ × List ℕ)
number_names place [] = []
number_names place (v ∷ vs) = (place, decimal v) ∷ number_names (place + 1) vs

-- the symbols that are written
abbrev pub number_symbols : Dqbf → SymbolTable
number_symbols f =
    record {
      inputs = number_names 0 f.universals;
      outputs = number_names 0 (existential_variables f);
    }

-- they are such
abbrev pub WrittenSymbolsAreNumbers : Type 0
WrittenSymbolsAreNumbers = (f : Dqbf) → AreNumberSymbols f (number_symbols f)

-- so the circuit is mapped as it was exported
abbrev pub ExportedSymbolsMap : Type 0
ExportedSymbolsMap =
    (f : Dqbf) (entries : List Entry) (e : CircuitPart) (symbols : SymbolTable) → HasLawfulPrefix f
    → f.variables < 10 ^ 18 → AreNumberSymbols f symbols
    → candidate_of f (exported_netlist f entries e) symbols ≡ Ok (exported_candidate f entries e)

-- the last entry is an answer that decides that the formula is true
pub record IsDecidedTrue (f : Dqbf) (entries : List Entry) (id : ℕ) : Type 0 where
  pub clause : List Literal
  pub hints : List ℕ
  pub earlier : List Entry
  pub answered : entries ≡ Answer clause hints ∷ earlier
  pub last : id ≡ last_id entries
  pub decides : DecidesTrue f earlier clause hints

-- and what the export reads of the log is right by the formula: inputs stand for its universals,
-- and the given clauses that the answer rests on are their origins'; every lemma is derived
pub record CanExportTrue (f : Dqbf) (entries : List Entry) (id : ℕ) : Type 0 where
  pub decided : IsDecidedTrue f entries id
  pub inputs : HasUniversalInputs f entries
  pub givens : EachGivenReached (IsGivenRightly f entries) entries id
  pub lemmas_are_derived : Each IsDerivedByHints entries

-- what is exported of an answer: the group of the faults that it reaches, the existentials' leaves
-- in these, and the gates of the leaves and those whose clauses it reaches
pub record IsExportedPart (f : Dqbf) (entries : List Entry) (id : ℕ)
    (e : CircuitPart) : Type 0 where
  pub decided : IsDecidedTrue f entries id
  pub group : (h j i : ℕ) (out : Leaf) (c : List Literal) → Reaches entries id h
      → numbered has_id entries h ≡ Some (Given (Fault j i out) c)
      → (rest : List Literal) × (c ≡ negative e.group ∷ rest)
  pub outs : All
      (λ y. (out : Leaf) → IsFaultLeaf f decided.earlier decided.hints y out → out ≡ e.leaf y)
      f.existentials
  pub reads : ReadSeen f entries e
  pub part : IsCircuitPart f entries e
  pub used : (h v i : ℕ) (c : List Literal) → Reaches entries id h
      → numbered has_id entries h ≡ Some (Given (GateOf v i) c) → Contains e.gates v

-- the numbers of the variables that the given clauses among these ids stand on; perhaps of further
-- ones
abbrev pub IsCircuitRenaming : Dqbf → List Entry → CircuitPart → List ℕ → Renaming → Type 0
IsCircuitRenaming f entries e ids r = IsRenamingOf (circuit_renaming f entries e) entries ids r

abbrev pub proof_number : Dqbf → List Entry → CircuitPart → List ℕ → ℕ → ℕ
proof_number f entries e ids = line_number (last_base_id f e) (derived_ids entries ids)

-- the lines of the derived clauses among these ids, behind the negated matrix
abbrev pub proof_steps : Dqbf → List Entry → CircuitPart → List ℕ → Renaming → List ProofStep
proof_steps f entries e ids r =
    line_steps r (circuit_id f e) entries (proof_number f entries e ids) (derived_ids entries ids)

-- the checker of circuits' proofs finds no fault
abbrev pub ExportedAnswerIsAccepted : Type 0
ExportedAnswerIsAccepted =
    (f : Dqbf) (entries : List Entry) (id : ℕ) (e : CircuitPart) (ids : List ℕ) (r : Renaming)
    → IsWellFormed f
    → AreLogged entries → HasUniversalInputs f entries
    → EachGivenReached (IsGivenRightly f entries) entries id → Each IsDerivedByHints entries
    → IsExportedPart f entries id e → AreReached entries id ids
    → IsCircuitRenaming f entries e ids r
    → circuit_proof_fault (exported_candidate f entries e) (map derived (proof_steps f entries e ids r)) ≡ None

-- the lines are such as the format allows: numbered behind the negated matrix, on its variables,
-- with earlier hints
abbrev pub ExportedProofIsAllowed : Type 0
ExportedProofIsAllowed =
    (f : Dqbf) (entries : List Entry) (id : ℕ) (e : CircuitPart) (ids : List ℕ) (r : Renaming)
    → IsWellFormed f
    → AreLogged entries → HasUniversalInputs f entries
    → EachGivenReached (IsGivenRightly f entries) entries id → IsExportedPart f entries id e
    → AreReached entries id ids → IsCircuitRenaming f entries e ids r
    → AreSteps (is_proof_variable f (exported_netlist f entries e))
    (first_proof_id f (exported_netlist f entries e)) (proof_steps f entries e ids r)

-- what is exported is a circuit with a proof that shows it, where the outputs read what they may
abbrev pub ExportedAnswerIsProved : Type 0
ExportedAnswerIsProved =
    (f : Dqbf) (entries : List Entry) (id : ℕ) (e : CircuitPart) (ids : List ℕ) (r : Renaming)
    (file : AagFile) (proof : Dqp)
    → IsWellFormed f → AreLogged entries → HasUniversalInputs f entries
    → EachGivenReached (IsGivenRightly f entries) entries id
    → Each IsDerivedByHints entries → IsExportedPart f entries id e → AreReached entries id ids
    → IsCircuitRenaming f entries e ids r → max_number f e < 2 ^ 62 → f.variables < 10 ^ 18
    → file.circuit ≡ exported_netlist f entries e → file.symbols ≡ number_symbols f
    → proof.items ≡ map derived (proof_steps f entries e ids r) → IsProvedCircuit f file proof

-- a text can hold the circuit with these symbols, and any comment, where its numbers are within the
-- format's limits
abbrev pub ExportedFileIsSpellable : Type 0
ExportedFileIsSpellable =
    (f : Dqbf) (entries : List Entry) (e : CircuitPart) (file : AagFile) → HasLawfulPrefix f
    → f.variables < 10 ^ 18 → AreLogged entries
    → HasUniversalInputs f entries → IsCircuitPart f entries e
    → file.circuit ≡ exported_netlist f entries e → file.symbols ≡ number_symbols f
    → max_number f e ≤ max_count → length f.existentials ≤ max_count → IsSpellable file

-- a gate reads what has a smaller number
pub record HasSmallerSides (g : Gate) : Type 0 where
  pub left : g.left < 2 * g.variable
  pub right : g.right < 2 * g.variable

-- inputs and then gates are numbered from 1 on, each in its order, each gate reads what comes
-- before it, and each symbol is its variable's number
pub record IsNumberedFile (f : Dqbf) (file : AagFile) : Type 0 where
  pub inputs : file.circuit.inputs ≡ range_with_len 1 (length f.universals)
  pub gates : gate_variables file.circuit
      ≡ range_with_len (length f.universals + 1) (length file.circuit.gates)
  pub max_var : file.circuit.max_var ≡ length f.universals + length file.circuit.gates
  pub sides : All HasSmallerSides file.circuit.gates
  pub symbols : file.symbols ≡ number_symbols f

-- a text can hold the circuit and these symbols with any comment, where the numbers are within the
-- format's limits
abbrev pub IsWritable : AagFile → Type 0
IsWritable file = (comment : Option (List ℕ)) → file.circuit.max_var ≤ max_count
    → IsSpellable (record { circuit = file.circuit; symbols = file.symbols; comment = comment })

abbrev pub is_gate_name : Entry → Bool
is_gate_name (Named v (And a b)) = true
is_gate_name _ = false
