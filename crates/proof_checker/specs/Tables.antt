-- Words of private contracts: what is kept of a mapped circuit and a formula.
use Rattle.std.specs.Prelude.{◌≡◌}
use Rattle.dq_lits.specs.Formula.{Dqbf}
use Rattle.circuit_plain.specs.Netlist.{Netlist}
use Rattle.skolem_checker.specs.Checks.{Candidate}
use Rattle.proof_checker.specs.ClauseLiterals.{AreClauseLiterals}
use Rattle.proof_checker.specs.declared.tables.NegatedTables.{NegatedTables}

-- a circuit for a formula, with the mapping that the tables have
abbrev pub candidate_by : Dqbf → Netlist → NegatedTables → Candidate
candidate_by f net t =
    record {
      formula = f;
      circuit = record {
        netlist = net;
        mapping = record { inputs = t.inputs; outputs = t.outputs };
      };
    }

pub record AreTablesOf (c : Candidate) (t : NegatedTables) : Type 0 where
  pub mapped : candidate_by c.formula c.circuit.netlist t ≡ c
  pub literals : AreClauseLiterals c.formula c.circuit.netlist t.literals.items
