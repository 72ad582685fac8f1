-- What a text can hold, with outputs that are settled.
use Rattle.std.proofs.Common.{inl, refl, sym, subst, arith}
use Rattle.std.proofs.lemmas.List.Elements.{All-weaker}
use Rattle.aiger_text.specs.Grammar.{HasMeaning, AreNames}
use Rattle.aiger_text.specs.Spellable.{IsSpellable}
use Rattle.circuit_plain.specs.Ground.{IsGrounded}
use Rattle.dq_prep.specs.Units.{taken_literals}
use Rattle.lifted_proofs.specs.Laws.{SettledFilesAreSpellable}
use Rattle.lifted_proofs.specs.SettledCircuits.{settled_netlist}
use Rattle.lifted_proofs.proofs.SettledCircuits.{settled-all, grounded, settled-netlist}
use Rattle.lifted_proofs.proofs.SettledOutputs.{as-long}

pub settled-files : SettledFilesAreSpellable
settled-files f units old new settled is =
    let trues = taken_literals units in
    let net = old.circuit in
    let vs = settled.mapping.outputs in
    let long = as-long trues vs net.outputs in
    let own : IsSpellable (record {
      circuit = settled_netlist trues vs net;
      symbols = old.symbols;
      comment = new.comment;
    }) = record {
      enough = is.enough;
      few_variables = is.few_variables;
      few_outputs = omega (arith, long, is.few_outputs);
      lawful = settled-netlist trues settled.mapping net is.lawful;
      outputs_mean = settled-all (HasMeaning net) trues vs net.outputs (inl refl) (inl refl) is.outputs_mean;
      gates_mean = is.gates_mean;
      acyclic = All-weaker (λ g. IsGrounded net g.variable) (λ g. IsGrounded (settled_netlist trues vs net) g.variable)
          (λ g h. grounded trues settled.mapping net h) net.gates is.acyclic;
      input_names = is.input_names;
      output_names = subst (λ n. AreNames n old.symbols.outputs) (sym long) is.output_names;
      inputs_named = is.inputs_named;
      outputs_named = is.outputs_named;
    } in
    subst (λ n. IsSpellable (record { circuit = n; symbols = new.symbols; comment = new.comment })) (sym settled.circuit)
    (subst (λ s. IsSpellable (record { circuit = settled_netlist trues vs net; symbols = s; comment = new.comment }))
    (sym settled.symbols) own)
