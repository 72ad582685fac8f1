-- A certificate that holds a Skolem circuit holds one on the page.
use Rattle.std.proofs.Common.{◌≡◌, ℕ, List, map, drop, ◌⊎◌, inl, inr, ◌↔◌, Result, Ok, Err, refl, subst}
use Rattle.std.specs.List.{All}
use Rattle.dq_lits.specs.Formula.{Dqbf, HasLawfulPrefix}
use Rattle.dq_lits.specs.Henkin.{MatrixHolds}
use Rattle.dq_lits.specs.Literal.{Assignment}
use Rattle.circuit_plain.specs.Netlist.{Netlist, IsNetlist}
use Rattle.aiger_text.specs.Grammar.{HasMeaning, table_of, AreNames}
use Rattle.aiger_text.specs.Lines.{SymbolLine}
use Rattle.aiger_text.specs.Scan.{AllGrounded}
use Rattle.aiger_text.specs.Symbol.{SymbolTable}
use Rattle.aiger_text.specs.declared.files.AagFile.{AagFile}
use Rattle.aiger_text.specs.declared.files.ReadCircuit.{ReadCircuit}
use Rattle.aig_binary.specs.Grammar.{SpellsBinary as IsReadBinary}
use Rattle.cert_text.specs.Kind.{certificate_kind}
use Rattle.cert_text.specs.declared.faults.CertRefusal.{CertRefusal}
use Rattle.cert_text.specs.declared.kinds.Kind.{Kind}
use Rattle.cert_text.specs.declared.kinds.Kind.TheVariants.{Circuit as CircuitText, BinaryCircuit as BinaryText, Refutation, Definitions}
use Rattle.cert_text.proofs.SpelledKinds.{kind_spelled}
use Rattle.skolem_checker.specs.Mapping.{Mapping, mapping_of}
use Rattle.skolem_checker.specs.Naming.{IsToldMapping}
use Rattle.skolem_checker.specs.SkolemCircuit.{IsSkolemCircuit}
use Rattle.skolem_checker.specs.Tables.{IsMapping}
use Rattle.skolem_checker.proofs.OntoLaws.{IsMapped, mapped}
use Rattle.cert_judge.specs.Judgement.{HoldsSkolemCircuit, SpellsFile}
use Rattle.headline.specs.Headline.{Formula, Holds, HoldsSkolem, SpellsAscii, SpellsBinary, existentials_of, universals_of}
use Rattle.headline_laws.specs.Formulas.{read_existential}
use Rattle.headline_laws.proofs.AsciiTexts.{ascii_on_page}
use Rattle.headline_laws.proofs.BinaryTexts.{binary_on_page}
use Rattle.headline_laws.proofs.Circuits.{is_circuit, page_circuit}
use Rattle.headline_laws.proofs.Skolems.{is_skolem, page_names}

-- what the laws below say
abbrev pub AreTold : Type 0
AreTold = (f : Dqbf) (net : Netlist) (symbols : SymbolTable) (mapping : Mapping) →
    (mapping_of f net symbols ≡ Ok mapping) ↔ IsToldMapping f net symbols mapping

pub record AreLawful : Type 0 where
  pub lawful : (text : List ℕ) (first : ℕ) (read : ReadCircuit) → IsReadBinary text first read → IsNetlist read.file.circuit
  pub acyclic : (text : List ℕ) (first : ℕ) (read : ReadCircuit) → IsReadBinary text first read → AllGrounded read.file.circuit
  pub outputs_mean : (text : List ℕ) (first : ℕ) (read : ReadCircuit) → IsReadBinary text first read →
      All (HasMeaning read.file.circuit) read.file.circuit.outputs

module _ (certificate : List ℕ) (m : Dqbf) (f : Formula) (us : universals_of f ≡ m.universals)
    (es : map read_existential (existentials_of f) ≡ m.existentials) (holds : (a : Assignment) → MatrixHolds m a → Holds f a)
    (prefix : HasLawfulPrefix m) (are_told : AreTold) (lawful : AreLawful) where
  of_file : (net : Netlist) (table : SymbolTable) (symbols : List SymbolLine) → IsNetlist net → AllGrounded net →
      All (HasMeaning net) net.outputs → table ≡ table_of symbols → AreNames (Rattle.std.proofs.Common.length net.inputs) table.inputs →
      AreNames (Rattle.std.proofs.Common.length net.outputs) table.outputs → IsSkolemCircuit m net table →
      (SpellsAscii certificate (page_circuit net) (page_names symbols) ⊎ SpellsBinary certificate (page_circuit net) (page_names symbols)) →
      HoldsSkolem f certificate
  of_file net table symbols kept acyclic outputs is_table ins outs s spelled =
      let told = (are_told m net table s.mapping).0 s.maps in
      let one : IsMapping m net s.mapping = subst (IsMapped m net) s.maps (mapped m net table prefix) in
      record {
        c = page_circuit net;
        names = page_names symbols;
        spelled = spelled;
        circuit = is_circuit net kept acyclic outputs;
        skolem = is_skolem m f us es holds net acyclic outputs symbols table is_table ins outs s told one;
      }

  by_kind : (kind : Result Kind CertRefusal) → certificate_kind certificate ≡ kind → (file : AagFile) →
      SpellsFile certificate kind file → IsSkolemCircuit m file.circuit file.symbols → HoldsSkolem f certificate
  by_kind (Ok (CircuitText at h)) is file s skolem =
      of_file file.circuit file.symbols s.symbols s.lawful s.acyclic s.outputs_mean s.table s.input_names s.output_names skolem
      (inl (ascii_on_page certificate (CircuitText at h) refl (kind_spelled certificate (CircuitText at h) is) file s))
  by_kind (Ok (BinaryText at h)) is file (line, s) skolem =
      let read : ReadCircuit = record { file = file; comment_line = line } in
      of_file file.circuit file.symbols s.symbols (lawful.lawful (drop at certificate) h read s)
      (lawful.acyclic (drop at certificate) h read s) (lawful.outputs_mean (drop at certificate) h read s) s.table s.input_names
      s.output_names skolem
      (inr (binary_on_page certificate (BinaryText at h) refl (kind_spelled certificate (BinaryText at h) is) h read s))
  by_kind (Ok (Refutation at h)) is file s skolem = absurd s
  by_kind (Ok (Definitions at h)) is file s skolem = absurd s
  by_kind (Err refusal) is file s skolem = absurd s

  pub held : HoldsSkolemCircuit m certificate → HoldsSkolem f certificate
  held h = by_kind (certificate_kind certificate) refl h.file h.spelled h.skolem
