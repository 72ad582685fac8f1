-- A circuit in which the output for each unit's existential is the constant that makes the unit true.
use Rattle.std.specs.Prelude.{◌≡◌, ℕ, List, [], ◌∷◌, Ok, if◌then◌else◌}
use Rattle.dq_lits.specs.Literal.{Literal, positive, negative}
use Rattle.dq_lits.specs.Formula.{Dqbf}
use Rattle.dq_lits.specs.Derivation.{holds}
use Rattle.aiger_text.specs.declared.files.AagFile.{AagFile}
use Rattle.circuit_plain.specs.Netlist.{Netlist}
use Rattle.dq_prep.specs.declared.traces.Taken.{Taken}
use Rattle.dq_prep.specs.Units.{taken_literals}
use Rattle.skolem_checker.specs.Checks.{Candidate}
use Rattle.skolem_checker.specs.Mapping.{Mapping, mapping_of}

-- 1 and 0 are the constants true and false
abbrev pub settled_output : List Literal → ℕ → ℕ → ℕ
settled_output trues v out =
    if holds trues (positive v) then 1 else if holds trues (negative v) then 0 else out

-- outputs for these existentials
abbrev pub settled_outputs : List Literal → List ℕ → List ℕ → List ℕ
settled_outputs trues variables [] = []
settled_outputs trues [] (out ∷ outs) = out ∷ outs
settled_outputs trues (v ∷ vs) (out ∷ outs) =
    settled_output trues v out ∷ settled_outputs trues vs outs

abbrev pub settled_netlist : List Literal → List ℕ → Netlist → Netlist
settled_netlist trues variables net =
    record net { outputs = settled_outputs trues variables net.outputs }

-- the file with its outputs settled
pub record IsSettledFile (f : Dqbf) (units : List Taken) (old new : AagFile) : Type 0 where
  pub mapping : Mapping
  pub maps : mapping_of f old.circuit old.symbols ≡ Ok mapping
  pub circuit : new.circuit ≡ settled_netlist (taken_literals units) mapping.outputs old.circuit
  pub symbols : new.symbols ≡ old.symbols
  pub comment : new.comment ≡ old.comment

-- Words of private contracts: the settled circuit of a candidate for what is left, as one for the
-- formula
abbrev pub settled_candidate : Dqbf → List Literal → Candidate → Candidate
settled_candidate f trues c =
    record {
      formula = f;
      circuit = record {
        netlist = settled_netlist trues c.circuit.mapping.outputs c.circuit.netlist;
        mapping = c.circuit.mapping;
      };
    }
