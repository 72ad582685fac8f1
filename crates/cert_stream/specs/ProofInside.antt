-- What a stream of a circuit's proof is, by its fields.
use Rattle.std.specs.Prelude.{◌≡◌, ℕ, ◌+◌, false, List, length, Option, Ok, IfNone, IfSome}
use Rattle.std.specs.Option.{option_map}
use Rattle.dq_lits.specs.Formula.{Dqbf}
use Rattle.circuit_plain.specs.Netlist.{Netlist}
use Rattle.rup_core.specs.Items.{ProofItem}
use Rattle.rup_core.specs.Runs.{Run}
use Rattle.cert_text.specs.CircuitProof.{first_proof_id}
use Rattle.cert_stream.specs.KeptLines.{KeptProofLines, proof_seen}
use Rattle.cert_stream.specs.ProofLines.{MayCome, ProofLines, with_line}
use Rattle.proof_checker.specs.Judging.{IsJudging}
use Rattle.proof_checker.specs.declared.judging.CircuitProving.{CircuitProving}
use Rattle.cert_stream.specs.ProofState.{ProofState, numbering_of, run_behind}
use Rattle.cert_stream.specs.declared.proofs.ProofStream.TheInside.{Inside}

abbrev pub proof_state_in : Inside → ProofState
proof_state_in s =
    record {
      formula = s.formula.now;
      netlist = s.circuit;
      lines = s.lines;
      proving = s.proving;
      failed = s.failed;
    }

-- the lines are those of a proof for a formula and a circuit
pub record AreFor (f : Dqbf) (net : Netlist) (l : KeptProofLines) : Type 0 where
  pub variables : l.last_variable ≡ net.max_var + length f.matrix
  pub first : l.first_id ≡ first_proof_id f net

pub record IsProofStream (s : Inside) : Type 0 where
  pub lines : AreFor s.formula.now s.circuit s.lines
  pub judging : s.failed ≡ false → IfNone s.lines.stopped (IfSome s.proving
      (λ p. IsJudging s.formula.now s.circuit p (numbering_of (proof_seen s.lines))))

-- one line came behind what was read, with its item, if it is one
pub record IsBehindLine (old : ProofLines) (new : KeptProofLines) : Type 0 where
  pub text : List ℕ
  pub read : with_line old text ≡ Ok (proof_seen new)
  pub may_come : IfSome new.item (MayCome old.last_variable old.body)

-- what was judged before the line
pub record HasNext (f : Dqbf) (net : Netlist) (new : KeptProofLines)
    (proving : Option CircuitProving) : Type 0 where
  pub old : ProofLines
  pub behind : IsBehindLine old new
  pub lines : AreFor f net new
  pub judging : IfSome proving (λ p. IsJudging f net p (numbering_of old))

abbrev pub runs_behind : Option ProofItem → Option Run → Option Run
runs_behind item run = option_map (run_behind item) run
