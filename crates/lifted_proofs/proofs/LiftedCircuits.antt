-- The circuit of the simpler formula, settled, serves the formula as its lifted proof shows.
use Rattle.std.proofs.Common.{◌≡◌, ℕ, ◌+◌, ◌^◌, ◌≤◌, ◌<◌, nat_le, false, List, [], ◌∷◌, ◌++◌, map, length, get_or, reverse, None, Ok, Err, Result, refl, sym, ◌∙◌, ap, subst, arith}
use Rattle.std.specs.List.{All, sum_by}
use Rattle.std.proofs.lemmas.Bool.{and_parts, leb-true}
use Rattle.std.proofs.lemmas.List.{length-map, take_all, get_or_default}
use Rattle.std.proofs.lemmas.List.Elements.{All-cons}
use Rattle.dq_lits.specs.Literal.{Literal}
use Rattle.dq_lits.specs.Formula.{Dqbf, IsWellFormed}
use Rattle.dq_lits.specs.Henkin.{MatrixHolds}
use Rattle.dq_lits.specs.Literal.{Assignment}
use Rattle.dq_lits.specs.Derivation.{ProofStep}
use Rattle.aiger_text.specs.Symbol.{SymbolTable}
use Rattle.aiger_text.specs.declared.files.AagFile.{AagFile}
use Rattle.circuit_plain.specs.Netlist.{Netlist, IsNetlist}
use Rattle.cert_text.specs.Grammar.{AreItems, AreSteps, IsSmallItem}
use Rattle.cert_text.specs.Header.{max_count}
use Rattle.cert_text.specs.Numbering.{Numbering, with_next, without_all}
use Rattle.cert_text.specs.ProofGrammar.{IsDqpOf}
use Rattle.cert_text.specs.Variables.{is_up_to}
use Rattle.cert_text.specs.declared.circuit_proofs.Dqp.{Dqp}
use Rattle.cert_text.proofs.StepsAlone.{steps_are_items}
use Rattle.cert_text.proofs.NegatedClauses.{falsity_counted}
use Rattle.cert_text.proofs.Numberings.{next_kept}
use Rattle.rup_core.specs.Items.{ProofItem, derived, gone, items_fault}
use Rattle.dq_prep.specs.declared.traces.Taken.{Taken}
use Rattle.dq_prep.specs.Simplified.{simplified_formula}
use Rattle.dq_prep.specs.Units.{taken_literals}
use Rattle.proof_checker.specs.CircuitProof.{circuit_proof_fault}
use Rattle.proof_checker.specs.ProvedCircuit.{IsProvedCircuit}
use Rattle.proof_deletions.specs.Laws.{AllowedLinesAreNumbered}
use Rattle.skolem_checker.specs.Checks.{Candidate, candidate_of, with_mapping}
use Rattle.skolem_checker.specs.Mapping.{Mapping, mapping_of}
use Rattle.skolem_checker.specs.SkolemCircuit.{FollowsCircuit, IsComplete}
use Rattle.skolem_checker.specs.Tables.{IsMapping}
use Rattle.skolem_checker.specs.declared.mapping.MapError.{MapError}
use Rattle.skolem_checker.proofs.OntoLaws.{IsMapped, mapped}
use Rattle.lifted_proofs.specs.Carried.{lines_of}
use Rattle.lifted_proofs.specs.CarriedProofs.{Carrying, carried_line}
use Rattle.lifted_proofs.specs.Carryings.{IsCarriedStep}
use Rattle.lifted_proofs.specs.KeptPlaces.{dropped_places}
use Rattle.lifted_proofs.specs.Liftables.{lifted_base, left_falsities, AreLiftedNames, carrying_of, some_false_line}
use Rattle.lifted_proofs.specs.LiftedCircuits.{IsLiftedProof, AreLiftedLines, IsLifted}
use Rattle.lifted_proofs.specs.Liftings.{IsLifting, AreFirstNamed, AddsSomeFalse, formula_of, units_of}
use Rattle.lifted_proofs.specs.SettledCircuits.{IsSettledFile, settled_netlist, settled_candidate}
use Rattle.lifted_proofs.specs.UnitTables.{IsUnitTable}
use Rattle.lifted_proofs.specs.declared.carrying.Carrying.{Carrying as CarryingStruct}
use Rattle.lifted_proofs.specs.declared.liftings.Lifting.{Lifting}
use Rattle.lifted_proofs.specs.declared.names.Named.{Named}
use Rattle.lifted_proofs.specs.declared.units.UnitTable.{UnitTable}
use Rattle.lifted_proofs.proofs.KeptPlaces.{as-many}
use Rattle.lifted_proofs.proofs.LiftedNames.{kept-in}
use Rattle.lifted_proofs.proofs.LiftedProofs.{lifted-lines}
use Rattle.lifted_proofs.proofs.SettledCircuits.{settled-netlist, settled-complete, settled-reads, settled-maps}

-- the candidate has the formula and the circuit, with its mapping
pub record HasParts (f : Dqbf) (net : Netlist) (symbols : SymbolTable) (c : Candidate) : Type 0 where
  pub maps : mapping_of f net symbols ≡ Ok c.circuit.mapping
  pub formula : c.formula ≡ f
  pub netlist : c.circuit.netlist ≡ net

pub candidate-parts : (f : Dqbf) (net : Netlist) (symbols : SymbolTable) (c : Candidate)
    → candidate_of f net symbols ≡ Ok c → HasParts f net symbols c
candidate-parts f net symbols c is = search arith

-- one mapping
mapping-or : Mapping → Result Mapping MapError → Mapping
mapping-or other (Ok a) = a
mapping-or other (Err _) = other

mapping-same : (r : Result Mapping MapError) (a b : Mapping) → r ≡ Ok a → r ≡ Ok b → a ≡ b
unfolding mapping-or
mapping-same r a b p q = sym (ap (mapping-or a) p) ∙ ap (mapping-or a) q

pub mapped-by : (f : Dqbf) (net : Netlist) (symbols : SymbolTable) (mapping : Mapping) → IsWellFormed f
    → mapping_of f net symbols ≡ Ok mapping → IsMapping f net mapping
mapped-by f net symbols mapping well maps = subst (IsMapped f net) maps (mapped f net symbols well.prefix)

-- where every clause is true by a proof
abbrev pub RefutedNegationSolves : Type 0
RefutedNegationSolves =
    (c : Candidate) (symbols : SymbolTable) (items : List ProofItem) → IsWellFormed c.formula
    → IsNetlist c.circuit.netlist → IsComplete c.circuit.netlist
    → candidate_of c.formula c.circuit.netlist symbols ≡ Ok c → circuit_proof_fault c items ≡ None
    → (m : Assignment) → FollowsCircuit c.formula c.circuit m → MatrixHolds c.formula m

module _ (f : Dqbf) (units : List Taken) (file : AagFile) (c : Candidate) (well : IsWellFormed f)
    (is : candidate_of (simplified_formula f units) file.circuit file.symbols ≡ Ok c) where
  abbrev parts : HasParts (simplified_formula f units) file.circuit file.symbols c
  parts = candidate-parts (simplified_formula f units) file.circuit file.symbols c is

  maps-f : mapping_of f file.circuit file.symbols ≡ Ok c.circuit.mapping
  maps-f = parts.maps

  abbrev settled : Netlist
  settled = settled_netlist (taken_literals units) c.circuit.mapping.outputs c.circuit.netlist

  pub settled-file : (net : Netlist)
      → net ≡ settled_netlist (taken_literals units) c.circuit.mapping.outputs c.circuit.netlist
      → IsSettledFile f units file (record { circuit = net; symbols = file.symbols; comment = file.comment })
  settled-file net net-is = search (arith, maps-f)

  pub lifted-circuit : (old p : Dqp) → RefutedNegationSolves → IsProvedCircuit (simplified_formula f units) file old
      → items_fault false (lifted_base f units c) p.items ≡ None
      → IsProvedCircuit f (record {
        circuit = settled_netlist (taken_literals units) c.circuit.mapping.outputs c.circuit.netlist;
        symbols = file.symbols;
        comment = file.comment;
      }) p
  lifted-circuit old p law was derives =
      let net = c.circuit.netlist in
      let mapping = c.circuit.mapping in
      let trues : List Literal = taken_literals units in
      let lawful : IsNetlist net = subst IsNetlist (sym parts.netlist) was.netlist in
      let complete : IsComplete net = subst IsComplete (sym parts.netlist) was.complete in
      let maps : mapping_of f net file.symbols ≡ Ok mapping =
      ap (λ n. mapping_of f n file.symbols) parts.netlist ∙ maps-f in
      let is-mapping = mapped-by f net file.symbols mapping well maps in
      let same : was.skolem.mapping ≡ mapping =
      mapping-same (mapping_of f file.circuit file.symbols) was.skolem.mapping mapping was.skolem.maps maps-f in
      let new-maps : mapping_of f settled file.symbols ≡ Ok mapping = settled-maps trues mapping net f file.symbols ∙ maps in
      let netlist = settled-netlist trues mapping net lawful in
      let all-complete = settled-complete trues mapping net complete in
      record {
        netlist = netlist;
        complete = all-complete;
        skolem = record {
          mapping = mapping;
          maps = new-maps;
          reads_declared = search (arith, settled-reads);
          holds = λ m follows. law (settled_candidate f trues c) file.symbols p.items well netlist all-complete
              (ap (with_mapping f settled) new-maps) derives m follows;
        };
        derives = derives;
      }

-- ---- what a text can hold

small-steps : (variables first : ℕ) (steps : List ProofStep) → variables < 10 ^ 18
    → first + length steps ≤ 10 ^ 18 → AreSteps (is_up_to variables) first steps
    → All IsSmallItem (map derived steps)
small-steps variables first [] few small are = λ k d below. absurd (omega (arith, below))
small-steps variables first (s ∷ steps) few small are =
    search (arith, All-cons, and_parts, nat_le, leb-true, (small-steps variables (first + 1) steps few))

lifted-allowed : (f : Dqbf) (units : List Taken) (c : Candidate) (steps : List ProofStep) (p : Dqp)
    → length f.matrix ≤ 10000000 → AreLiftedLines f units c steps → p.items ≡ map derived steps
    → IsDqpOf f (settled_netlist (taken_literals units) c.circuit.mapping.outputs c.circuit.netlist) p
lifted-allowed f units c steps p few lines is = search (arith, length-map, steps_are_items, small-steps)

pub lifted-proof : (t : UnitTable) (f : Dqbf) (units : List Taken) (file : AagFile) (old p : Dqp) (net : Netlist)
    → AllowedLinesAreNumbered → RefutedNegationSolves → IsUnitTable t → t.formula.now ≡ f → reverse t.units.now ≡ units
    → IsProvedCircuit (simplified_formula f units) file old → IsLifted t file net p
    → IsSettledFile f units file (record { circuit = net; symbols = file.symbols; comment = file.comment })
    × IsLiftedProof f (record { circuit = net; symbols = file.symbols; comment = file.comment }) p
lifted-proof t f units file old p net numbered law right formula trace was it =
    let g = t.formula.now in
    let us = reverse t.units.now in
    let before : IsProvedCircuit (simplified_formula g us) file old =
    subst (λ h. IsProvedCircuit (simplified_formula h us) file old) (sym formula)
    (subst (λ xs. IsProvedCircuit (simplified_formula f xs) file old) (sym trace) was) in
    let c = it.candidate in
    let all = settled_netlist (taken_literals us) c.circuit.mapping.outputs c.circuit.netlist in
    let circuit = lifted-circuit g us file c right.well it.is old p law before
    (ap (λ xs. items_fault false (lifted_base g us c) xs) it.items ∙ it.lines.derives) in
    let Both : Dqbf → List Taken → Netlist → Type 0 = λ h xs n.
    IsSettledFile h xs file (record { circuit = n; symbols = file.symbols; comment = file.comment })
    × IsLiftedProof h (record { circuit = n; symbols = file.symbols; comment = file.comment }) p in
    let own : Both g us all = (
      settled-file g us file c right.well it.is all refl,
      record {
        circuit = circuit;
        allowed = lifted-allowed g us c it.steps p right.lawful.few_clauses it.lines it.items;
        lines = search arith;
      },
    ) in
    subst (λ h. Both h units net) formula
    (subst (λ xs. Both g xs net) trace (subst (λ n. Both g us n) (sym it.settled) own))

-- ---- the lines

pub derives-by : (g : Dqbf) (file : AagFile) (p : Dqp) (c : Candidate) → IsProvedCircuit g file p
    → candidate_of g file.circuit file.symbols ≡ Ok c → circuit_proof_fault c p.items ≡ None
derives-by g file p c was is = search arith

pub kept-small : (l : Lifting) → IsLifting l → All (λ p. p < 10000000000000000) l.kept.items
kept-small l it k d below =
    let x = get_or l.kept.items k d in
    let place = kept-in l k x it below (get_or_default l.kept.items k d x below) in
    omega (arith, place.1, it.right.lawful.few_clauses)

pub many-kept : (l : Lifting) → IsLifting l → length l.kept.items ≡ length l.bench.now.formula.matrix
many-kept l it = search (arith, as-many)

all-named : (l : Lifting) (w : Named) → IsLifting l → AreFirstNamed l (length l.kept.items) w
    → AreLiftedNames (formula_of l) (units_of l) l.bench.now
    (left_falsities l.bench.now l.bench.now.formula.matrix) w.ids.items w.steps
all-named l w it named = search (arith, take_all, many-kept)

pub many-ids : (l : Lifting) (w : Named) → IsLifting l → AreFirstNamed l (length l.kept.items) w
    → length w.ids.items ≡ sum_by length l.bench.now.formula.matrix
many-ids l w it named = search (arith, all-named, falsity_counted)

-- a proof's lines have small numbers
small-lines : (c : CarryingStruct) (variables : ℕ) (n : Numbering) (items : List ProofItem)
    → variables ≤ c.largest + length c.places.now → AreItems (is_up_to variables) n items
    → n.next + length items ≤ 2 ^ 62 → All (IsCarriedStep c) (lines_of items)
small-lines c variables n [] few are small = λ k d below. absurd (omega (arith, below))
small-lines c variables n (gone ids ∷ items) few are small =
    small-lines c variables (without_all n ids) items few are.1 (omega (arith, small, next_kept n ids))
small-lines c variables n (derived s ∷ items) few are small =
    All-cons (IsCarriedStep c) s (lines_of items)
    (record {
      id = omega (arith, are.0.numbered, small);
      literals = search (arith, and_parts, nat_le, leb-true);
      hints = search arith;
    })
    (small-lines c variables (with_next n) items few are.1 (omega (arith, small)))

pub carried-small : (l : Lifting) (w : Named) (c : CarryingStruct) (p : Dqp) → IsLifting l
    → AreFirstNamed l (length l.kept.items) w → IsDqpOf l.bench.now.formula l.bench.now.circuit.netlist p
    → c.largest ≡ l.base.largest → c.places.now ≡ l.kept.items → length w.ids.items < 1152921504606846976
    → All (IsCarriedStep c) (lines_of p.items)
carried-small l w c p it named allowed largest places few = search (arith, small-lines, many-kept, many-ids)

pub all-lines : (l : Lifting) (w : Named) (front all : List ProofStep) (c : Carrying) (p : Dqp) → IsLifting l
    → AreFirstNamed l (length l.kept.items) w
    → AddsSomeFalse l (dropped_places (formula_of l) (units_of l)) w.steps front
    → IsDqpOf l.bench.now.formula l.bench.now.circuit.netlist p → circuit_proof_fault l.bench.now p.items ≡ None
    → c ≡ carrying_of (formula_of l) (units_of l) l.bench.now w.ids.items w.steps
    → all ≡ front ++ map (carried_line c) (lines_of p.items) → length all ≤ max_count
    → AreLiftedLines (formula_of l) (units_of l) l.bench.now all
all-lines l w front all c p it named adds allowed derives c-is all-are few =
    let f = formula_of l in
    let units = units_of l in
    let own = l.bench.now in
    let lines = lifted-lines f units own it.can w.ids.items adds.hints w.steps (all-named l w it named) adds.are p.items
    allowed.items derives all
    (all-are ∙ ap (λ xs. xs ++ map (carried_line c) (lines_of p.items)) adds.is
    ∙ ap (λ k. (w.steps ++ some_false_line f units own adds.hints w.steps ∷ [])
    ++ map (carried_line k) (lines_of p.items)) c-is) in
    record {
      derives = lines.0;
      allowed = lines.1;
      few = few;
      small_id = omega (arith, it.base.first, it.base.small);
      few_variables = omega (arith, it.base.largest, it.base.few);
    }
