-- A circuit whose outputs are settled can be evaluated, and reads no more.
use Rattle.std.proofs.Common.{◌≡◌, ℕ, zero, suc, ◌≤◌, ◌⊎◌, inl, inr, List, [], ◌∷◌, length, refl, subst, arith}
use Rattle.std.specs.Prelude.{slice_index}
use Rattle.std.specs.List.{All}
use Rattle.std.proofs.lemmas.List.Elements.{All-cons, All-head, All-tail, All-contains, All-weaker}
use Rattle.dq_lits.specs.Literal.{Literal}
use Rattle.dq_lits.specs.Formula.{Dqbf}
use Rattle.aiger_text.specs.Symbol.{SymbolTable}
use Rattle.circuit_plain.specs.Ground.{IsGrounded, constant, input, gate}
use Rattle.circuit_plain.specs.Netlist.{Netlist, IsNetlist, IsLiteral, literal_variable}
use Rattle.circuit_plain.specs.Reach.{Reaches, itself, left, right}
use Rattle.skolem_checker.specs.Mapping.{Mapping, mapping_of}
use Rattle.skolem_checker.specs.SkolemCircuit.{IsComplete, MappedCircuit, ReadsUniversal}
use Rattle.lifted_proofs.specs.SettledCircuits.{settled_outputs, settled_netlist}
use Rattle.lifted_proofs.proofs.SettledOutputs.{as-long}

-- what holds of the constants and of each output
pub settled-all : (P : ℕ → Type 0) (trues : List Literal) (vs outs : List ℕ) → P 0 → P 1 → All P outs
    → All P (settled_outputs trues vs outs)
settled-all P trues [] [] zero-has one-has all = all
settled-all P trues (v ∷ vs) [] zero-has one-has all = all
settled-all P trues [] (o ∷ os) zero-has one-has all = all
settled-all P trues (v ∷ vs) (o ∷ os) zero-has one-has all =
    search (
      arith,
      (All-cons P),
      (All-head P o os all),
      (settled-all P trues vs os zero-has one-has),
      (All-tail P o os all),
    )

-- an output is as it was, or constant
out-at : (trues : List Literal) (vs outs : List ℕ) (i : ℕ)
    → (slice_index (settled_outputs trues vs outs) i ≡ slice_index outs i)
    ⊎ (literal_variable (slice_index (settled_outputs trues vs outs) i) ≡ 0)
out-at trues [] [] i = inl refl
out-at trues (v ∷ vs) [] i = inl refl
out-at trues [] (o ∷ os) i = inl refl
out-at trues (v ∷ vs) (o ∷ os) zero = search arith
out-at trues (v ∷ vs) (o ∷ os) (suc i) = out-at trues vs os i

-- from the constant nothing is reached
from-zero : (net : Netlist) → IsNetlist net → {v x : ℕ} → v ≡ 0 → Reaches net v x → x ≡ 0
from-zero net lawful e itself = e
from-zero net lawful e (left g inside l) = search (arith, All-contains)
from-zero net lawful e (right g inside l) = search (arith, All-contains)

module _ (trues : List Literal) (mapping : Mapping) (net : Netlist) where
  abbrev settled : Netlist
  settled = settled_netlist trues mapping.outputs net

  pub grounded : {v : ℕ} → IsGrounded net v → IsGrounded settled v
  grounded constant = constant
  grounded (input inside) = input inside
  grounded (gate g inside l r) = gate g inside (grounded l) (grounded r)

  reaches : {v x : ℕ} → Reaches settled v x → Reaches net v x
  reaches itself = itself
  reaches (left g inside l) = left g inside (reaches l)
  reaches (right g inside l) = right g inside (reaches l)

  pub settled-netlist : IsNetlist net → IsNetlist (settled_netlist trues mapping.outputs net)
  settled-netlist is = record {
    numbered = is.numbered;
    inputs_fit = is.inputs_fit;
    outputs_fit = settled-all (IsLiteral net.max_var) trues mapping.outputs net.outputs (omega arith) (omega arith)
        is.outputs_fit;
    gates_fit = is.gates_fit;
    inputs_once = is.inputs_once;
    gates_once = is.gates_once;
    apart = is.apart;
  }

  pub settled-complete : IsComplete net → IsComplete (settled_netlist trues mapping.outputs net)
  settled-complete is = record {
    gates = All-weaker (λ g. IsGrounded net g.variable) (λ g. IsGrounded settled g.variable) (λ g h. grounded h)
        net.gates is.gates;
    outputs = settled-all (λ l. IsGrounded settled (literal_variable l)) trues mapping.outputs net.outputs constant
        constant
        (All-weaker (λ l. IsGrounded net (literal_variable l)) (λ l. IsGrounded settled (literal_variable l))
        (λ l h. grounded h) net.outputs is.outputs);
  }

  abbrev mapped : Netlist → MappedCircuit
  mapped n = record { netlist = n; mapping = mapping }

  pub settled-reads : IsNetlist net → length mapping.inputs ≤ length net.inputs → (y x : ℕ)
      → ReadsUniversal (record { netlist = settled_netlist trues mapping.outputs net; mapping = mapping }) y x
      → ReadsUniversal (record { netlist = net; mapping = mapping }) y x
  settled-reads lawful enough y x r = by (out-at trues mapping.outputs net.outputs r.out)
    where
      by : (slice_index (settled_outputs trues mapping.outputs net.outputs) r.out ≡ slice_index net.outputs r.out)
          ⊎ (literal_variable (slice_index (settled_outputs trues mapping.outputs net.outputs) r.out) ≡ 0)
          → ReadsUniversal (mapped net) y x
      by (inl same) = record {
        out = r.out;
        out_in_range = r.out_in_range;
        out_stands_for = r.out_stands_for;
        input = r.input;
        input_in_range = r.input_in_range;
        input_stands_for = r.input_stands_for;
        reaches = subst (λ l. Reaches net (literal_variable l) (slice_index net.inputs r.input)) same (reaches r.reaches);
      }
      by (inr none) =
          let fits = lawful.inputs_fit r.input 0 (omega (arith, r.input_in_range, enough)) in
          absurd (omega (arith, fits.0, from-zero net lawful none (reaches r.reaches)))

  -- the mapping goes by counts and symbols
  pub settled-maps : (f : Dqbf) (symbols : SymbolTable)
      → mapping_of f (settled_netlist trues mapping.outputs net) symbols ≡ mapping_of f net symbols
  settled-maps f symbols = rw (as-long trues mapping.outputs net.outputs) refl
